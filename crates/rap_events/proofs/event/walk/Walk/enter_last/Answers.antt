use Rattle.std.proofs.Common.{◌≡◌, ◌+◌, [], ◌∷◌, ◌++◌, drop, length, length-append, ap, ◌∙◌, arith}
use Rattle.rap_events.specs.Pending.{inners, slot}
use Rattle.rap_events.specs.declared.event.Event.{Event}
use Rattle.rap_events.specs.declared.event.walk.Pending.{Pending}
use Rattle.rap_events.specs.declared.event.walk.Pending.TheVariants as pending
use Rattle.rap_events.proofs.Places.{entered_inner, inners_append}
use Rattle.rap_events.proofs.event.walk.Walk.enter_last.Goals as goal

pub returns-in-Inner : goal.returns-in-Inner
returns-in-Inner c =
    let old = c.args.self.now in
    let ps = c.pop.new.self.items in
    let w = c.write.ensures in
    let popped : old.pending.items ≡ ps ++ pending.Inner c.in-Inner.kind ∷ [] =
    c.in-Some.ensures.items ∙ ap (λ (p : Pending). ps ++ p ∷ []) c.in-Inner.is in
    let inner : inners old.pending.items ≡ inners ps + 1 = ap inners popped ∙ inners_append ps (pending.Inner c.in-Inner.kind ∷ []) in
    let longer : length old.pending.items ≡ length ps + 1 = ap length popped ∙ length-append ps (pending.Inner c.in-Inner.kind ∷ []) in
    record {
      kept = record { left = w.kept.left; events = w.kept.events; messages = w.kept.messages; texts = w.kept.texts };
      room = omega (arith, c.requires.room, w.first, w.kept.left, ap inners w.pending, ap slot w.is_around, inner);
      shorter = omega (arith, ap length w.pending, longer);
      walk = entered_inner old c.write.new.self ps c.in-Inner.kind popped w.pending w.is_around w.skips (w.steps ∙ ap (λ (e : Event). e ∷ drop old.first old.events.items) c.of_event.ensures) w.kept.texts;
    }
