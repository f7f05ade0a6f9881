-- Records of a parser's input, in numbers.
use Rattle.std.specs.Prelude.{◌≡◌, List, map, All, if◌then◌else◌}
use Rattle.rap_base.specs.Edition.{year}
use Rattle.rap_events.specs.Record.{Record, IsTokenRecord}
use Rattle.rap_c.specs.declared.record.RapRecord.{RapRecord}

-- a record's numbers
abbrev pub row_of : Record → RapRecord
row_of r = record { kind = r.kind; contextual_kind = r.contextual; edition = year r.edition; joint = (if r.joint then 1 else 0) }

-- The numbers are those of these records, each of which is a token's.
pub record IsInputOf (rows : List RapRecord) (records : List Record) : Type 0 where
  pub rows_are : rows ≡ map row_of records
  pub tokens : All IsTokenRecord records

-- they are not those of such records
abbrev pub IsNoInput : List RapRecord → Type 0
IsNoInput rows = (records : List Record) → ¬ IsInputOf rows records
