use Rattle.std.proofs.Common.{◌≡◌, List, length, refl, sym, subst, ◌∙◌, eqb-true, arith}
use Rattle.rap_events.specs.Reading.{with_ends}
use Rattle.rap_events.specs.StepValue.{StepValue}
use Rattle.rap_core.specs.Walked.{IsAt}
use Rattle.rap_core.proofs.Walks.{starts, done}
use Rattle.rap_core.proofs.nodes.find_nodes.Goals as goal

pub steps-init : goal.steps-init
steps-init c = (
  tt,
  tt,
  starts c.args.output.now c.into_iter-step-iterator.result _
      (c.into_iter-step-iterator.ensures.into_iter_gives ∙ c.iter-step-items.ensures.steps) c.iter-step-items.ensures.splits
      c.new.ensures.items refl c.new-2.ensures.items,
)

pub returns : goal.returns
returns c =
    let walk = c.steps.walk in
    let none_open : length walk.begun.items ≡ 0 = omega (arith, eqb-true _ 0 (sym c.is_empty.ensures ∙ c.if-not-is_empty.false)) in
    done c.args.output.now walk none_open
    (subst (λ (ss : List StepValue). IsAt c.args.output.now (with_ends ss) walk) c.in-None.ensures.steps.0 c.steps.invariant.2)
