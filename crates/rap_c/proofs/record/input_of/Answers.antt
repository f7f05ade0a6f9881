use Rattle.std.proofs.Common.{inl, refl, arith}
use Rattle.rap_c.proofs.Rows.{no_input}
use Rattle.rap_c.specs.declared.record.RapRecord.{RapRecord}
use Rattle.rap_c.proofs.record.input_of.Goals as goal

pub returns-in_default-token_of-clause-fault : goal.returns-in_default-token_of-clause-fault
returns-in_default-token_of-clause-fault c =
    let d : RapRecord = record { kind = 0; contextual_kind = 0; edition = 0; joint = 0 } in
    inl (refl, no_input c.args.rows.now c.rows.row-index d (omega (arith, c.rows-test.true)) c.in_default-token_of.ensures)
