-- What is known of the tokens that come next, and what it says of a test.
use Rattle.std.specs.Prelude.{◌≡◌, ℕ, zero, suc, Bool, true, false, ◌&&◌, ◌||◌, ◌==◌, not, List, [], ◌∷◌, Option, Some, None}
use Rattle.rap_events.specs.Record.{Record, kind_at, contextual_at, joint_at}

-- it is so, it is not so, or that is not known
pub data Answer : Type 0 where
  sure : Answer
  never : Answer
  unclear : Answer

-- Of a token: kinds of which it has one, words of which it is read as one, and whether it touches the next one.
pub record Place : Type 0 where
  pub kinds : Option (List ℕ)
  pub words : Option (List ℕ)
  pub joint : Answer

abbrev pub unknown : Place
unknown = record { kinds = None; words = None; joint = unclear }

abbrev pub place_at : ℕ → List Place → Place
place_at n [] = unknown
place_at zero (p ∷ ps) = p
place_at (suc n) (p ∷ ps) = place_at n ps

abbrev pub among : List ℕ → ℕ → Bool
among [] k = false
among (j ∷ js) k = (j == k) || among js k

abbrev pub within : Option (List ℕ) → ℕ → Bool
within None k = true
within (Some ks) k = among ks k

abbrev pub agrees : Answer → Bool → Bool
agrees sure b = b
agrees never b = not b
agrees unclear b = true

-- a token is as it is known to be
pub record Fits (p : Place) (kind word : ℕ) (touching : Bool) : Type 0 where
  pub kinds : within p.kinds kind ≡ true
  pub words : within p.words word ≡ true
  pub joint : agrees p.joint touching ≡ true

-- the tokens that come next are
pub record Shows (ps : List Place) (rs : List Record) : Type 0 where
  pub fits : (n : ℕ) → Fits (place_at n ps) (kind_at rs n) (contextual_at rs n) (joint_at rs n)

-- they go on in one of these ways
pub data Sees : List (List Place) → List Record → Type 0 where
  this_way : {p : List Place} {ps : List (List Place)} {rs : List Record} → Shows p rs → Sees (p ∷ ps) rs
  later_way : {p : List Place} {ps : List (List Place)} {rs : List Record} → Sees ps rs → Sees (p ∷ ps) rs

-- of each of some numbers
abbrev pub every_one : (ℕ → Bool) → List ℕ → Bool
every_one f [] = true
every_one f (k ∷ ks) = f k && every_one f ks

-- any tokens
abbrev pub anything : List (List Place)
anything = [] ∷ []
