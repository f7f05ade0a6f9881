use Rattle.std.proofs.Common.{◌<◌, ◌/◌, ◌++◌, [], ◌∷◌, length, refl, ap, ◌∙◌, arith}
use Rattle.rap_events.specs.Input.{records}
use Rattle.rap_events.specs.Record.{Record}
use Rattle.rap_events.proofs.Columns.{wrote-holds, wrote-records, as_with_joint, by_fields}
use Rattle.rap_events.proofs.input.columns.Columns.write.Goals as goal

pub returns-clause-holds : goal.returns-clause-holds
returns-clause-holds c =
    let old = c.args.self.now in
    let place = c.args.place in
    let within : place / 64 < length old.joints.items = omega (arith, c.requires.room.room) in
    wrote-holds old _ place c.code_of.result c.args.edition c.args.joint
    (record { codes = refl; common = refl; editions = c.set_if_used.ensures; joints = as_with_joint old.joints.items place c.args.joint _ _ within c.index_mut-2.ensures.value c.from.ensures })
    c.requires.holds c.requires.room.room

pub returns-clause-records : goal.returns-clause-records
returns-clause-records c =
    let old = c.args.self.now in
    let place = c.args.place in
    let within : place / 64 < length old.joints.items = omega (arith, c.requires.room.room) in
    wrote-records old _ place c.code_of.result c.args.edition c.args.joint
    (record { codes = refl; common = refl; editions = c.set_if_used.ensures; joints = as_with_joint old.joints.items place c.args.joint _ _ within c.index_mut-2.ensures.value c.from.ensures })
    c.requires.holds c.requires.room
    ∙ ap (λ (r : Record). records old place ++ r ∷ []) (by_fields _ _ _ _ _ _ _ _ c.code_of.ensures.kind c.code_of.ensures.contextual refl refl)
