-- Operators that are written with two or three tokens.
use Rattle.std.specs.Prelude.{ℕ, List, [], ◌∷◌, Bool, true, false, ◌&&◌, ◌==◌, length, if◌then◌else◌}
use Rattle.rap_events.specs.OperatorTable.{composites}
use Rattle.rap_events.specs.Record.{Record, next_kind}

abbrev pub row_of : List (ℕ × List ℕ) → ℕ → List ℕ
row_of [] kind = []
row_of (row ∷ rows) kind = if row.0 == kind then row.1 else row_of rows kind

-- the tokens of an operator, or none where the kind is written with one token
abbrev pub parts : ℕ → List ℕ
parts kind = row_of composites kind

-- tokens of these kinds come first, each but the last touching the one after it
abbrev pub begins_with : List ℕ → List Record → Bool
begins_with [] rs = true
begins_with (k ∷ ks) [] = false
begins_with (k ∷ []) (r ∷ rs) = r.kind == k
begins_with (k ∷ j ∷ ks) (r ∷ rs) = (r.kind == k) && (r.joint && begins_with (j ∷ ks) rs)

-- a token of this kind comes first and touches the one after it
abbrev pub touches_next : List Record → ℕ → Bool
touches_next [] kind = false
touches_next (r ∷ rs) kind = (r.kind == kind) && r.joint

abbrev pub is_first : List ℕ → ℕ → List Record → Bool
is_first [] kind rs = next_kind rs == kind
is_first (k ∷ ks) kind rs = begins_with (k ∷ ks) rs

-- whether the tokens of a kind come first: all of an operator's, or one token of that kind
abbrev pub is_at : ℕ → List Record → Bool
is_at kind rs = is_first (parts kind) kind rs

abbrev pub width_of : List ℕ → ℕ
width_of [] = 1
width_of (k ∷ ks) = length (k ∷ ks)

-- how many tokens a token of this kind is written with
abbrev pub width : ℕ → ℕ
width kind = width_of (parts kind)
