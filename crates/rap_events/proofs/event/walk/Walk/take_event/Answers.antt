use Rattle.std.proofs.Common.{◌≡◌, ℕ, ◌+◌, ◌-◌, List, drop, take, refl, sym, ap, ◌∙◌, arith}
use Rattle.rap_events.specs.History.{reported_by}
use Rattle.rap_events.specs.Unwind.{texts, walk_with}
use Rattle.rap_events.proofs.Backing.{last_event, texts_after}
use Rattle.rap_events.proofs.event.walk.Walk.take_event.Goals as goal

pub returns : goal.returns
returns c =
    let old = c.args.self.now in
    let es = old.events.items in
    let i = old.left - 1 in
    let e = c.index.result.now in
    let next : i + 1 ≡ old.left = omega arith in
    record {
      left = next;
      events = ap (λ (n : ℕ). take n es) (sym next) ∙ last_event es i e (omega arith) c.index.ensures;
      messages = refl;
      walk = ap (λ (ts : List (List ℕ)). walk_with ts old) (texts_after es (texts old) i e (omega arith) c.index.ensures ∙ ap (λ (n : ℕ). drop (reported_by (take n es)) (texts old)) next);
      room = omega arith;
      few = omega arith;
    }
