use Rattle.std.proofs.Common.{◌<◌, ◌/◌, length, refl, arith, true}
use Rattle.rap_events.proofs.Columns.{joined-holds, joined-records, as_with_joint}
use Rattle.rap_events.proofs.input.columns.Columns.set_joint.Goals as goal

pub returns-clause-holds : goal.returns-clause-holds
returns-clause-holds c =
    let old = c.args.self.now in
    let within : c.args.last / 64 < length old.joints.items = omega (arith, c.requires.room) in
    joined-holds old _ c.args.last
    (record { codes = refl; edition = refl; editions = refl; joints = as_with_joint old.joints.items c.args.last true _ 1 within c.index_mut.ensures.value refl })
    c.requires

pub returns-clause-records : goal.returns-clause-records
returns-clause-records c =
    let old = c.args.self.now in
    let within : c.args.last / 64 < length old.joints.items = omega (arith, c.requires.room) in
    joined-records old _ c.args.last
    (record { codes = refl; edition = refl; editions = refl; joints = as_with_joint old.joints.items c.args.last true _ 1 within c.index_mut.ensures.value refl })
    c.requires
