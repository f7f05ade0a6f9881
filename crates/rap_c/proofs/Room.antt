-- How much room a call needs.
use Rattle.std.proofs.Common.{◌≤◌, ℕ, ◌+◌, ◌*◌, ◌^◌, ◌-◌, List, ap, length, arith}
use Rattle.std.proofs.Math.Nat.{min-le_left}
use Rattle.std.proofs.lemmas.List.{length-map}
use Rattle.rap_events.specs.Forest.{Forest, flat}
use Rattle.rap_events.specs.Record.{Record}
use Rattle.rap_c.specs.Item.{counted, output_item, output_items}
use Rattle.rap_c.specs.Parsed.{IsRawOutput}
use Rattle.rap_c.specs.Record.{IsInputOf, row_of}
use Rattle.rap_c.specs.declared.answer.RapAnswer.{RapAnswer}
use Rattle.rap_c.specs.declared.record.RapRecord.{RapRecord}
use Rattle.rap_c.specs.declared.step.RapStep.{RapStep}

counted_few : (n : ℕ) → counted n ≤ n
counted_few n = min-le_left n (2 ^ 64 - 1)

-- the output of records
pub raw_room : (rows : List RapRecord) (records : List Record) (output : Forest) (steps steps_after : List RapStep) (messages messages_after : List ℕ) (answer : RapAnswer)
    → IsInputOf rows records → length (flat output) ≤ 256 * (length records + 1) → IsRawOutput output steps steps_after messages messages_after answer → answer.steps ≤ 256 * (length rows + 1)
raw_room rows records output steps steps_after messages messages_after answer i few r =
    omega (
      arith,
      r.given.count,
      counted_few (length (output_items (flat output))),
      length-map (flat output) output_item,
      ap length i.rows_are,
      length-map records row_of,
      few,
    )
