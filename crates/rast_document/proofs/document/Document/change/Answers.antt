use Rattle.std.proofs.Common.{rules, ◌≡◌, ℕ, List, [], ◌∷◌, string_bytes, drop, get_or, refl, sym, ◌∙◌, subst, arith}
use Rattle.std.proofs.lemmas.List.{drop_all}
use Rattle.rast_document.specs.declared.change.Change.{Change}
use Rattle.rast_document.specs.Changes.{AllChange, Changes}
use Rattle.rast_document.proofs.ChangeLemmas.{changed_more, changed_past, one_text, reach_more, reach_past}
use Rattle.rast_document.proofs.document.Document.change.Goals as goal

pub loop-change-init : goal.loop-change-init
loop-change-init c =
    let d = c.args.self.now in
    let e = d.encoding in
    let old = string_bytes d.text in
    let whole : c.args.changes.now ≡ c.in-Some.first.now ∷ c.in-Some.rest.now = search rules in
    let next = string_bytes c.in_ok-text.text in
    record {
      agree = c.in_ok-text.ensures.agree;
      reach = λ new more.
          subst (λ (cs : List Change). AllChange e old cs new) (sym whole)
          (changed_more e old next c.in-Some.first.now c.in-Some.rest.now new c.in_ok-text.ensures.changed more);
      only = λ new all.
          changed_past e old next c.in-Some.first.now c.in-Some.rest.now new c.in_ok-text.ensures.changed
          (subst (λ (cs : List Change). AllChange e old cs new) whole all);
    }

pub loop-change-preserved : goal.loop-change-preserved
loop-change-preserved c =
    let e = c.args.self.now.encoding in
    let next = string_bytes c.loop-change.text in
    let later = string_bytes c.in_ok-next.next.0 in
    let i = c.loop-change.change-index in
    let one = subst (λ (x : List ℕ). Changes e x (get_or c.in-Some.rest.now i _) later) c.as_str.ensures.value c.in_ok-next.ensures.changed in
    record {
      agree = c.in_ok-next.ensures.agree;
      reach = λ new more.
          c.loop-change.invariant.reach new (reach_more e next later c.in-Some.rest.now i _ new c.loop-change-test.true one more);
      only = λ new all.
          reach_past e next later c.in-Some.rest.now i _ new c.loop-change-test.true one (c.loop-change.invariant.only new all);
    }

pub returns-clause-only : goal.returns-clause-only
returns-clause-only c = λ other all.
    let d = c.args.self.now in
    let e = d.encoding in
    let next = string_bytes c.loop-change.text in
    let none : drop c.loop-change.change-index c.in-Some.rest.now ≡ [] = drop_all c.loop-change.change-index c.in-Some.rest.now (omega arith) in
    let meant = c.loop-change.invariant.reach next
    (subst (λ (cs : List Change). AllChange e next cs next) (sym none) refl) in
    one_text e (string_bytes d.text) c.args.changes.now other next all meant ∙ sym c.in_ok-self.ensures.text
