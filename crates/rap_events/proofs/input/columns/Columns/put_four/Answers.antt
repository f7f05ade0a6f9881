use Rattle.std.proofs.Common.{◌++◌, refl, ap, ◌∙◌, arith}
use Rattle.std.proofs.lemmas.List.{take_all}
use Rattle.rap_events.specs.Input.{records}
use Rattle.rap_events.specs.KindRecords.{kind_records}
use Rattle.rap_events.proofs.KindRecords.{none_yet, put_further}
use Rattle.rap_events.proofs.input.columns.Columns.put_four.Goals as goal

pub returns-clause-records : goal.returns-clause-records
returns-clause-records c =
    let old = records c.args.self.now c.args.place in
    let kinds = c.args.kinds.now in
    let edition = c.args.self.now.edition in
    let one = put_further old _ _ kinds _ 0 2 1 2 edition _ (omega arith) (omega (arith, c.requires.kinds)) refl refl refl (none_yet old kinds 1 edition refl) refl c.put_one-second.ensures.records in
    let second = c.put_one-second.ensures.room.edition in
    let two = put_further old _ _ kinds _ 1 3 2 3 edition _ (omega arith) (omega (arith, c.requires.kinds)) refl refl second one refl c.put_one-third.ensures.records in
    let third = c.put_one-third.ensures.room.edition ∙ second in
    let three = put_further old _ _ kinds _ 2 4 3 4 edition _ (omega arith) (omega (arith, c.requires.kinds)) refl refl third two refl c.put_one-fourth.ensures.records in
    let fourth = c.put_one-fourth.ensures.room.edition ∙ third in
    let four = put_further old _ _ kinds _ 3 5 4 5 edition _ (omega arith) (omega (arith, c.requires.kinds)) refl refl fourth three refl c.put_one.ensures.records in
    four ∙ ap (λ ks. old ++ kind_records ks edition) (take_all 5 kinds (omega (arith, c.requires.kinds)))
