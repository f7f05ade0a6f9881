-- The header of a message. A byte is a number: `\n` is 10, `\r` is 13.
use Rattle.std.specs.Prelude.{◌≡◌, ℕ, ◌+◌, ◌-◌, ◌<◌, ◌≤◌, ◌^◌, ◌⊎◌, Bool, true, false, ◌&&◌, ◌==◌, List, Result, Ok, Err, map, length, slice_index, slice_range, codes}
use Rattle.std.specs.Char.{to_ascii_lowercase}
use Rattle.std.specs.Str.{IsTrimAscii}
use Rattle.std.specs.Str.Parse.{IsNumeral, digits_value}
use Rattle.rast_frames.specs.declared.header.TheConstants.{MAX_HEADER, MAX_STATED}
use Rattle.rast_frames.specs.declared.header.HeaderFault.{HeaderFault}
use Rattle.rast_frames.specs.declared.header.HeaderFault.TheVariants.{NoLength, TwoLengths, WrongLength}

-- the line end and the empty line that end a header begin at this index
abbrev pub ends_header : List ℕ → ℕ → Bool
ends_header s i = slice_index s i == 13 && (slice_index s (i + 1) == 10 && (slice_index s (i + 2) == 13 && slice_index s (i + 3) == 10))

-- the header ends here, within its longest length
pub record IsFirstEnd (s : List ℕ) (i : ℕ) : Type 0 where
  pub within : i ≤ MAX_HEADER
  pub ends : ends_header s i ≡ true
  pub first : (k : ℕ) → k < i → ends_header s k ≡ false

abbrev pub HasNoEnd : List ℕ → Type 0
HasNoEnd s = (k : ℕ) → k ≤ MAX_HEADER → ends_header s k ≡ false

-- a line begins here: with the header, or after a line end
abbrev pub BeginsLine : List ℕ → ℕ → Type 0
BeginsLine s i = (i ≡ 0) ⊎ ((2 ≤ i) × (slice_index s (i - 2) ≡ 13) × (slice_index s (i - 1) ≡ 10))

-- a field that says a length begins here
pub record IsLengthField (s : List ℕ) (i : ℕ) : Type 0 where
  pub begins : BeginsLine s i
  pub name : map to_ascii_lowercase (slice_range s i (i + 15)) ≡ codes "content-length:"

-- it is the first such field from an index on; there is none
pub record IsFirstField (s : List ℕ) (from i : ℕ) : Type 0 where
  pub later : from ≤ i
  pub field : IsLengthField s i
  pub first : (k : ℕ) → from ≤ k → k < i → ¬ IsLengthField s k

abbrev pub HasNoField : List ℕ → ℕ → Type 0
HasNoField s from = (k : ℕ) → from ≤ k → ¬ IsLengthField s k

-- `\r\n` stands here
abbrev pub IsBreak : List ℕ → ℕ → Type 0
IsBreak s i = (slice_index s i ≡ 13) × (slice_index s (i + 1) ≡ 10)

-- the line that goes on at an index ends here: before its `\r\n`, or with the header
pub record IsLineEnd (s : List ℕ) (from i : ℕ) : Type 0 where
  pub later : from ≤ i
  pub within : i ≤ length s
  pub ends : i < length s → IsBreak s i
  pub first : (k : ℕ) → from ≤ k → k < i → ¬ IsBreak s k

-- the bytes are a number of bytes that a header may say; it is this one
abbrev pub IsLength : List ℕ → Type 0
IsLength ds = IsNumeral 10 ds × (digits_value 10 ds < MAX_STATED)

abbrev pub IsLengthOf : List ℕ → ℕ → Type 0
IsLengthOf ds n = IsLength ds × (n ≡ digits_value 10 ds)

-- the value of the only field that says a length, without the white space around it
pub record IsValue (s value : List ℕ) : Type 0 where
  pub field : ℕ
  pub end : ℕ
  pub first : IsFirstField s 0 field
  pub only : HasNoField s (field + 1)
  pub line : IsLineEnd s (field + 15) end
  pub trimmed : IsTrimAscii (slice_range s (field + 15) end) value

-- the length that a header says, or why it says none
abbrev pub Says : List ℕ → Result ℕ HeaderFault → Type 0
Says s (Ok n) = (value : List ℕ) × IsValue s value × IsLengthOf value n
Says s (Err NoLength) = HasNoField s 0
Says s (Err TwoLengths) = (i : ℕ) × (k : ℕ) × IsFirstField s 0 i × IsFirstField s (i + 1) k
Says s (Err WrongLength) = (value : List ℕ) × IsValue s value × ¬ IsLength value
