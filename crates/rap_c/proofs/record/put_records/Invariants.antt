use Rattle.std.proofs.Common.{◌≡◌, drop, map}
use Rattle.rap_c.specs.Filling.{overwritten, write_at}
use Rattle.rap_c.specs.Record.{row_of}
use Rattle.rap_c.proofs.record.put_records.Given as goal

abbrev pub invariant-rows : goal.invariant-rows
invariant-rows l = write_at l.rows l.i (map row_of (drop l.i l.input)) ≡ overwritten l.initial.rows (map row_of l.input)
