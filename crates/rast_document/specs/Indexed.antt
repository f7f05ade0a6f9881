-- What calls promise one another of lines and of units counted ahead.
-- (Used in contracts between internal functions and in what a document keeps true; no public contract rests on it.)
use Rattle.std.specs.Prelude.{◌≡◌, ℕ, Bool, nat_le, ◌==◌, ◌+◌, ◌-◌, ◌*◌, ◌/◌, ◌<◌, ◌≤◌, true, false, List, length, take, slice_index}
use Rattle.rast_document.specs.declared.encoding.Encoding.{Encoding}
use Rattle.rast_document.specs.declared.position.Span.{Span}
use Rattle.rast_document.specs.Changes.{IsInOrder}
use Rattle.rast_document.specs.Lines.{ends_line, line_start, line_starts}
use Rattle.rast_document.specs.Places.{IsAt}
use Rattle.rast_document.specs.Units.{units}

-- the offset is on the line with this number
pub record IsOnLine (s : List ℕ) (offset line : ℕ) : Type 0 where
  pub within : offset ≤ length s
  pub some : line < length (line_starts s)
  pub from : line_start s line ≤ offset
  pub next : line + 1 < length (line_starts s) → offset < line_start s (line + 1)

-- the line with this number begins at start
pub record IsStart (s : List ℕ) (line start : ℕ) : Type 0 where
  pub some : line < length (line_starts s)
  pub here : start ≡ line_start s line

-- the second text is the first one up to the offset
pub record AgreeTo (s t : List ℕ) (same : ℕ) : Type 0 where
  pub within : same ≤ length s
  pub bytes : take same s ≡ take same t

-- the ends of the range are in order and mean these offsets
pub record IsRange (e : Encoding) (s : List ℕ) (span : Span) (from to : ℕ) : Type 0 where
  pub order : IsInOrder span.start span.end
  pub start : IsAt e s span.start from
  pub end : IsAt e s span.end to

-- a line begins at start, and the line after it at next
pub record IsNextStart (s : List ℕ) (start next : ℕ) : Type 0 where
  pub rising : start < next
  pub within : next ≤ length s
  pub ended : ends_line s (next - 1) ≡ true
  pub whole : (i : ℕ) → start ≤ i → i + 1 < next → ends_line s i ≡ false

-- the last line begins at start
pub record IsLastStart (s : List ℕ) (start : ℕ) : Type 0 where
  pub within : start ≤ length s
  pub whole : (i : ℕ) → start ≤ i → i < length s → ends_line s i ≡ false

-- a `\r\n` that begins at start or after it has its last byte here
pub record IsPair (s : List ℕ) (start last : ℕ) : Type 0 where
  pub later : start < last
  pub feed : slice_index s last ≡ 10
  pub return : slice_index s (last - 1) ≡ 13

-- the units of the text before each 256th byte, up to the offset given
pub record AreMarks (e : Encoding) (s : List ℕ) (offset : ℕ) (marks : List ℕ) : Type 0 where
  pub count : length marks ≡ offset / 256 + 1
  pub each : (k : ℕ) → k * 256 ≤ offset → slice_index marks k ≡ units e (take (k * 256) s)

-- the lines that the first ones of the 256th bytes are on, if the starts are where the lines begin
pub record AreRows (starts rows : List ℕ) (count : ℕ) : Type 0 where
  pub long : length rows ≡ count
  pub some : (k : ℕ) → k < count → slice_index rows k < length starts
  pub rising : (k : ℕ) → k + 1 < count → slice_index rows k ≤ slice_index rows (k + 1)
  pub begins : (k : ℕ) → k < count → slice_index starts (slice_index rows k) ≤ k * 256
  pub next : (k : ℕ) → k < count → slice_index rows k + 1 < length starts → k * 256 < slice_index starts (slice_index rows k + 1)

-- the last offset from start to end up to which at most count units stand, counted from start
pub record IsReached (e : Encoding) (s : List ℕ) (start end count offset : ℕ) : Type 0 where
  pub from : start ≤ offset
  pub to : offset ≤ end
  pub few : units e (take offset s) ≤ units e (take start s) + count
  pub next : offset < end → units e (take start s) + count < units e (take (offset + 1) s)

-- the byte is this one or a greater one
abbrev pub is_from : ℕ → ℕ → Bool
is_from least b = nat_le least b

-- the byte is this one
abbrev pub is_byte : ℕ → ℕ → Bool
is_byte byte b = b == byte
