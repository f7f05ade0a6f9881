use Rattle.std.proofs.Common.{◌≡◌, map, take}
use Rattle.std.specs.Prelude.{All}
use Rattle.rap_events.specs.Record.{IsTokenRecord}
use Rattle.rap_c.specs.Record.{row_of}
use Rattle.rap_c.proofs.record.input_of.Given as goal

abbrev pub invariant-rows : goal.invariant-rows
invariant-rows l = record {
  so_far : take l.row-index l.rows ≡ map row_of l.input;
  tokens : All IsTokenRecord l.input;
}
