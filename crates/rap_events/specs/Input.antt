-- How an input keeps its records.
use Rattle.std.specs.Prelude.{◌≡◌, ℕ, ◌-◌, ◌*◌, ◌<◌, ◌≤◌, List, length, map, slice_index_or, nat_lt, if◌then◌else◌, false}
use Rattle.std.specs.List.{range_with_len}
use Rattle.rap_base.specs.Bits.{bit}
use Rattle.rap_base.specs.TokenKind.{EOF, IDENT}
use Rattle.rap_base.specs.declared.edition.Edition.{Edition}
use Rattle.rap_events.specs.KindRecords.{contextual_of_kind}
use Rattle.rap_events.specs.Record.{Record}
use Rattle.rap_events.specs.declared.input.columns.Columns.{Columns}

-- A code below this is the number of the token's kind; an identifier may then be read as nothing else. Any other code
-- is an identifier's: this, and the number of the kind that it may be read as.
abbrev pub CONTEXTUAL : ℕ
CONTEXTUAL = 512

-- the kind of a token with this code
abbrev pub kind_of_code : ℕ → ℕ
kind_of_code code = if nat_lt code CONTEXTUAL then code else IDENT

-- what it may be read as
abbrev pub contextual_of_code : ℕ → ℕ
contextual_of_code code = if nat_lt code CONTEXTUAL then contextual_of_kind code else code - CONTEXTUAL

-- the record at a place; where the list of editions is empty, all records have the same one
abbrev pub record_at : Columns → ℕ → Record
record_at columns i = record {
  kind = kind_of_code (slice_index_or columns.codes.items i EOF);
  contextual = contextual_of_code (slice_index_or columns.codes.items i EOF);
  edition = slice_index_or columns.editions.items i columns.edition;
  joint = bit columns.joints.items i;
}

-- the first records
unfoldable pub records : Columns → ℕ → List Record
records columns len = map (record_at columns) (range_with_len 0 len)

-- The codes, and the editions if there are any, have a place for each bit of the joints, the records are among these
-- places, and no bit is set past them.
pub record Holds (columns : Columns) (len : ℕ) : Type 0 where
  pub room : len ≤ 64 * length columns.joints.items
  pub codes : 64 * length columns.joints.items ≤ length columns.codes.items
  pub editions : 0 < length columns.editions.items → 64 * length columns.joints.items ≤ length columns.editions.items
  pub clear : (i : ℕ) → len ≤ i → bit columns.joints.items i ≡ false

-- there is a place for a record of this edition after the first ones
pub record HasPlace (columns : Columns) (len : ℕ) (edition : Edition) : Type 0 where
  pub room : len < 64 * length columns.joints.items
  pub same : length columns.editions.items ≡ 0 → columns.edition ≡ edition

-- the lists have as many places, and what is known of editions is as before
pub record KeepsRoom (old new : Columns) : Type 0 where
  pub words : length new.joints.items ≡ length old.joints.items
  pub edition : new.edition ≡ old.edition
  pub editions : new.editions.items ≡ old.editions.items
