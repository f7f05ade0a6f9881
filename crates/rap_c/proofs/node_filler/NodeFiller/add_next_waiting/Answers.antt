use Rattle.std.proofs.Common.{◌≡◌, ◌+◌, List, ◌∷◌, ap, subst, sym, ◌∙◌, drop, refl, arith}
use Rattle.std.proofs.lemmas.List.{drop_all, drop_more}
use Rattle.rap_ranged.specs.Reports.{ReportValue}
use Rattle.rap_c.specs.Lays.{MessageRoom, message_room, messages_of}
use Rattle.rap_c.proofs.Noted.{puts_note}
use Rattle.rap_c.proofs.Told.{Going, add_as, all_have_ranges, going_on, gone_all, gone_late}
use Rattle.rap_c.proofs.node_filler.NodeFiller.add_next_waiting.Goals as goal

pub returns-then-at-end : goal.returns-then-at-end
returns-then-at-end c =
    let ws : List ReportValue = c.waiting.self.waiting.now in
    let w : ReportValue = c.index-self-self.result in
    let split : drop c.waiting.self.next ws ≡ w ∷ drop (c.waiting.self.next + 1) ws =
    drop_more ws c.waiting.self.next w (omega arith) ∙ ap (λ (x : ReportValue). x ∷ drop (c.waiting.self.next + 1) ws) (sym c.index-self-self.is) in
    record {
      holds = λ room byte_room n full h waits.
          let e = gone_late c.args.start c.args.end room byte_room n w (drop (c.waiting.self.next + 1) ws) (messages_of c.waiting.self) (omega (arith, c.at.ensures, c.if-at-end.true, ap (λ (x : ReportValue). x.at) c.index-self-self.is))
          (subst (λ (l : List ReportValue). Going c.args.start c.args.end room byte_room n l (messages_of c.waiting.self)) split (c.waiting.invariant.going room byte_room n full h waits)) in
          (e.holds, split ∙ e.waits);
      elements = c.waiting.invariant.elements;
      place = c.waiting.invariant.place;
      same = c.waiting.invariant.same;
    }

pub waiting-preserved : goal.waiting-preserved
waiting-preserved c =
    let ws : List ReportValue = c.waiting.self.waiting.now in
    let w : ReportValue = c.index-self-self.result in
    let split : drop c.waiting.self.next ws ≡ w ∷ drop (c.waiting.self.next + 1) ws =
    drop_more ws c.waiting.self.next w (omega arith) ∙ ap (λ (x : ReportValue). x ∷ drop (c.waiting.self.next + 1) ws) (sym c.index-self-self.is) in
    let added : MessageRoom = message_room c.add.new.messages c.add.new.bytes c.add.new.self in
    record {
      going = λ room byte_room n full h waits.
          going_on c.args.start c.args.end room byte_room n w (drop (c.waiting.self.next + 1) ws) (messages_of c.waiting.self) added _ (omega (arith, c.at.ensures, c.if-at-end.false, ap (λ (x : ReportValue). x.at) c.index-self-self.is))
          (subst (λ (l : List ReportValue). Going c.args.start c.args.end room byte_room n l (messages_of c.waiting.self)) split (c.waiting.invariant.going room byte_room n full h waits))
          (add_as w c.text.result.now c.at-in-waiting.result c.args.start c.args.end (messages_of c.waiting.self) added (c.text.ensures ∙ ap (λ (x : ReportValue). x.text) (sym c.index-self-self.is)) (c.at-in-waiting.ensures ∙ ap (λ (x : ReportValue). x.at) (sym c.index-self-self.is))
          (puts_note _ _ _ _ _ _ c.add.ensures))
          (all_have_ranges room byte_room added _ refl refl refl refl refl);
      elements = c.waiting.invariant.elements;
      waiting = c.waiting.invariant.waiting;
      place = c.waiting.invariant.place;
      same = record { elements = c.waiting.invariant.same.elements; messages = c.waiting.invariant.same.messages; bytes = c.waiting.invariant.same.bytes };
    }

pub returns : goal.returns
returns c =
    let ws : List ReportValue = c.waiting.self.waiting.now in
    let none = drop_all c.waiting.self.next ws (omega arith) in
    record {
      holds = λ room byte_room n full h waits.
          let e = gone_all c.args.start c.args.end room byte_room n (messages_of c.waiting.self)
          (subst (λ (l : List ReportValue). Going c.args.start c.args.end room byte_room n l (messages_of c.waiting.self)) none (c.waiting.invariant.going room byte_room n full h waits)) in
          (e.holds, none ∙ e.waits);
      elements = c.waiting.invariant.elements;
      place = c.waiting.invariant.place;
      same = c.waiting.invariant.same;
    }
