use Rattle.std.proofs.Common.{rules, ◌≢◌, ◌≤◌}
use Rattle.rap_base.specs.Names.{name_of}
use Rattle.rast_print.proofs.Named.{unnamed_more, unnamed_all}
use Rattle.rast_print.proofs.asked.kind_named.Goals as goal

pub kinds-preserved : goal.kinds-preserved
kinds-preserved c =
    let differs : c.args.name.now ≢ name_of c.kinds.number = search rules in
    unnamed_more c.args.name.now c.kinds.number c.kinds.invariant differs

pub returns : goal.returns
returns c =
    let past : 330 ≤ c.kinds.number = search rules in
    unnamed_all c.args.name.now c.kinds.number past c.kinds.invariant
