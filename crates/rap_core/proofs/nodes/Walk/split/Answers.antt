use Rattle.std.proofs.Common.{◌∷◌}
use Rattle.std.proofs.lemmas.Result.{on_ok_weaker}
use Rattle.rap_events.specs.Reading.{with_ends}
use Rattle.rap_events.specs.StepValue.{exit}
use Rattle.rap_core.proofs.Walks.{splits_one, splits_two}
use Rattle.rap_core.proofs.nodes.Walk.split.Goals as goal

pub returns-then-ends_in_dot : goal.returns-then-ends_in_dot
returns-then-ends_in_dot c = λ tree steps a. c.in_ok-end.ensures tree (with_ends steps)
    (splits_one tree steps c.args.ends_in_dot c.args.self.now c.take.new.self c.take.ensures c.if-ends_in_dot.true a)

pub returns : goal.returns
returns c = on_ok_weaker c.end-2.result (λ ended tree steps a. ended tree (with_ends steps)
    (c.in_ok-end.ensures tree (exit ∷ with_ends steps)
    (splits_two tree steps c.args.ends_in_dot c.args.self.now c.take.new.self c.take.ensures c.if-ends_in_dot.false a)))
    c.end-2.ensures
