use Rattle.std.proofs.Common.{List, [], ◌∷◌, reverse, ap, sym, ◌∙◌, arith}
use Rattle.std.proofs.lemmas.List.{reverse-append}
use Rattle.rap_events.specs.Pending.{inners}
use Rattle.rap_events.specs.declared.event.walk.Pending.{Pending}
use Rattle.rap_events.specs.declared.event.walk.Pending.TheVariants as pending
use Rattle.rap_events.proofs.Places.{inners_append, pasts_more}
use Rattle.rap_events.proofs.event.walk.push_past.Goals as goal

pub loop-preserved : goal.loop-preserved
loop-preserved c =
    let ps = c.loop.pending.items in
    record {
      inners = ap inners c.in_ok-push.ensures.items ∙ omega (arith, inners_append ps (pending.Past ∷ []), c.loop.invariant.inners);
      past = ap reverse c.in_ok-push.ensures.items ∙ reverse-append ps (pending.Past ∷ []) ∙ ap (λ (qs : List Pending). pending.Past ∷ qs) c.loop.invariant.past ∙ sym (pasts_more c.loop.counter (reverse c.args.pending.now.items));
    }
