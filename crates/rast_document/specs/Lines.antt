-- The lines of a text: `\n` (10), `\r\n` and `\r` (13) end one.
use Rattle.std.specs.Prelude.{ℕ, suc, zero, ◌+◌, ◌-◌, Bool, ◌&&◌, ◌||◌, not, ◌==◌, List, [], ◌∷◌, ◌++◌, if◌then◌else◌, length, drop, slice_index}
use Rattle.std.specs.List.{position_or_len}

-- a line end is complete with byte i: it is a `\n`, or a `\r` that no `\n` follows
abbrev pub ends_line : List ℕ → ℕ → Bool
ends_line s i = slice_index s i == 10 || (slice_index s i == 13 && not (slice_index s (i + 1) == 10))

-- the offsets, up to the one given, at which a line begins: the start of the text, and after each line end
abbrev pub starts_to : List ℕ → ℕ → List ℕ
starts_to s zero = 0 ∷ []
starts_to s (suc n) = if ends_line s n then starts_to s n ++ (n + 1) ∷ [] else starts_to s n

abbrev pub line_starts : List ℕ → List ℕ
line_starts s = starts_to s (length s)

-- the line of an offset: how many line ends are complete before it
abbrev pub line_at : List ℕ → ℕ → ℕ
line_at s offset = length (starts_to s offset) - 1

-- where the line with this number begins
abbrev pub line_start : List ℕ → ℕ → ℕ
line_start s n = slice_index (line_starts s) n

abbrev pub is_line_break : ℕ → Bool
is_line_break b = b == 10 || b == 13

-- where the line that begins here ends: before its line end, or with the text
abbrev pub line_end : List ℕ → ℕ → ℕ
line_end s start = start + position_or_len is_line_break (drop start s)
