use Rattle.std.proofs.Common.{arith}
use Rattle.rap_steps.proofs.Leaves.{splits_by}
use Rattle.rap_steps.proofs.cover.float_matches.Goals as goal

pub returns : goal.returns
returns c =
    splits_by c.args.input.now c.args.place c.args.ends_in_dot c.kind.result c.is_joint.result c.is_split.result (omega (arith, c.if-place-len.false, c.len.ensures.len)) c.kind.ensures c.is_joint.ensures c.is_split.ensures
