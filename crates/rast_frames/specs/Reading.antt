-- Whole streams: what is written, what is kept of what has come, and what is read.
use Rattle.std.specs.Prelude.{◌≡◌, ℕ, ◌+◌, ◌-◌, ◌≤◌, List, [], ◌∷◌, ◌++◌, codes, drop, length, slice_range}
use Rattle.std.specs.Fmt.{decimal}
use Rattle.rast_frames.specs.Fronts.{Fronts}
use Rattle.rast_frames.specs.declared.front.Front.{Front}
use Rattle.rast_frames.specs.declared.front.Front.TheVariants.{Part, Message, TooLong, Wrong, Lost}

-- the header of a content of so many bytes, as it is written
unfoldable pub header : ℕ → List ℕ
header long = codes "Content-Length: " ++ (decimal long ++ (13 ∷ 10 ∷ 13 ∷ 10 ∷ []))

-- a message with its header
abbrev pub frame : List ℕ → List ℕ
frame message = header (length message) ++ message

-- messages in a row, each with its header
abbrev pub frames : List (List ℕ) → List ℕ
frames [] = []
frames (m ∷ ms) = frame m ++ frames ms

-- how many bytes a front takes
abbrev pub taken : Front → ℕ
taken Part = 0
taken (Message start end) = end
taken (TooLong start long) = start + long
taken (Wrong fault end) = end
taken Lost = 0

-- The bytes that wait to be read, and how many of those that come after them belong to a content that is left out.
pub record Waiting : Type 0 where
  pub bytes : List ℕ
  pub skip : ℕ

-- what waits after a piece has come
abbrev pub come : Waiting → List ℕ → Waiting
come w piece = record { bytes = w.bytes ++ drop w.skip piece; skip = w.skip - length piece }

-- what waits after a number of bytes is taken, some of which may not have come
abbrev pub passed : Waiting → ℕ → Waiting
passed w count = record { bytes = drop count w.bytes; skip = w.skip + (count - length w.bytes) }

-- from the front of a stream on these messages are read, and this is left
pub data Reads (limit : ℕ) : List ℕ → List (List ℕ) → List ℕ → Type 0 where
  none : (s : List ℕ) → Reads limit s [] s
  next : (s : List ℕ) (start end : ℕ) (ms : List (List ℕ)) (rest : List ℕ) → Fronts limit s (Message start end)
      → Reads limit (drop end s) ms rest → Reads limit s (slice_range s start end ∷ ms) rest
