use Rattle.std.proofs.Common.{arith}
use Rattle.rap_steps.proofs.Leaves.{bears_by}
use Rattle.rap_steps.proofs.cover.may_bear.Goals as goal

pub returns : goal.returns
returns c =
    bears_by c.args.input.now c.args.place c.args.kind c.kind.result c.contextual_kind.result c.bears.result (omega (arith, c.if-place-len.false, c.len.ensures.len)) c.kind.ensures c.contextual_kind.ensures.contextual
    c.bears.ensures
