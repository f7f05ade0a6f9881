-- Positions and the offsets that they mean.
use Rattle.std.specs.Prelude.{◌≡◌, ℕ, ◌<◌, ◌≤◌, ◌-◌, List, min, length, slice_index, slice_range, IsCharBoundary}
use Rattle.rast_document.specs.declared.encoding.Encoding.{Encoding}
use Rattle.rast_document.specs.declared.position.Position.{Position}
use Rattle.rast_document.specs.Lines.{line_at, line_end, line_start, line_starts}
use Rattle.rast_document.specs.Units.{units}

-- how many units stand in a line before an offset; past the line's end all of the line's
abbrev pub units_before : Encoding → List ℕ → ℕ → ℕ → ℕ
units_before e s start offset = units e (slice_range s start (min offset (line_end s start)))

-- how many units a line has, its line end left out
abbrev pub units_of_line : Encoding → List ℕ → ℕ → ℕ
units_of_line e s start = units e (slice_range s start (line_end s start))

-- the position of an offset
abbrev pub position : Encoding → List ℕ → ℕ → Position
position e s offset = record {
  line = line_at s offset;
  character = units_before e s (line_start s (line_at s offset)) offset;
}

-- The position means the offset: it is on the line, on a character boundary, and as many units of the line are before it
-- as the position says, or all of them if it says more.
pub record IsAt (e : Encoding) (s : List ℕ) (p : Position) (offset : ℕ) : Type 0 where
  pub line : p.line < length (line_starts s)
  pub boundary : IsCharBoundary s offset
  pub from : line_start s p.line ≤ offset
  pub to : offset ≤ line_end s (line_start s p.line)
  pub character : units e (slice_range s (line_start s p.line) offset) ≡ min p.character (units_of_line e s (line_start s p.line))

-- the offset is between the `\r` and the `\n` of one line end, where no position is
pub record IsInLineEnd (s : List ℕ) (offset : ℕ) : Type 0 where
  pub return : slice_index s (offset - 1) ≡ 13
  pub feed : slice_index s offset ≡ 10

-- the position with the line's end in the place of what is past it
abbrev pub within_line : Encoding → List ℕ → Position → Position
within_line e s p = record { line = p.line; character = min p.character (units_of_line e s (line_start s p.line)) }
