-- What stands at the front of a stream.
use Rattle.std.specs.Prelude.{◌≡◌, ℕ, ◌+◌, ◌<◌, ◌≤◌, ◌⊎◌, List, Result, Ok, Err, length, take}
use Rattle.rast_frames.specs.Header.{HasNoEnd, IsFirstEnd, Says}
use Rattle.rast_frames.specs.declared.header.TheConstants.{MAX_HEADER}
use Rattle.rast_frames.specs.declared.front.Front.{Front}
use Rattle.rast_frames.specs.declared.front.Front.TheVariants.{Part, Message, TooLong, Wrong, Lost}
use Rattle.rast_frames.specs.declared.header.HeaderFault.{HeaderFault}

-- a header stands at the front, with this to say of its content, which begins here
pub record IsHeader (s : List ℕ) (start : ℕ) (said : Result ℕ HeaderFault) : Type 0 where
  pub end : ℕ
  pub first : IsFirstEnd s end
  pub start_is : start ≡ end + 4
  pub says : Says (take end s) said

-- a header that may still come to its end
pub record IsOpen (s : List ℕ) : Type 0 where
  pub short : length s < MAX_HEADER + 4
  pub none : HasNoEnd s

-- a header whose content is not all there
pub record IsShort (limit : ℕ) (s : List ℕ) : Type 0 where
  pub start : ℕ
  pub long : ℕ
  pub header : IsHeader s start (Ok long)
  pub small : long ≤ limit
  pub short : length s < start + long

pub record IsMessage (limit : ℕ) (s : List ℕ) (start end : ℕ) : Type 0 where
  pub long : ℕ
  pub header : IsHeader s start (Ok long)
  pub small : long ≤ limit
  pub end_is : end ≡ start + long
  pub within : end ≤ length s

abbrev pub Fronts : ℕ → List ℕ → Front → Type 0
Fronts limit s Part = IsOpen s ⊎ IsShort limit s
Fronts limit s (Message start end) = IsMessage limit s start end
Fronts limit s (TooLong start long) = IsHeader s start (Ok long) × (limit < long)
Fronts limit s (Wrong fault end) = IsHeader s end (Err fault)
Fronts limit s Lost = (MAX_HEADER + 4 ≤ length s) × HasNoEnd s
