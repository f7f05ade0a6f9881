-- Lists of lists as one, and what stands at a number.
use Rattle.std.proofs.Common.{◌≡◌, ℕ, zero, suc, ◌+◌, ◌≤◌, ◌<◌, List, [], ◌∷◌, length, get_or, map, slice_range, refl, sym, ap, ◌∙◌, arith}
use Rattle.rap_grammar_rows.specs.Code.{row_places, sets, turns, places, place_starts, members, member_starts}
use Rattle.rap_grammar_rows.specs.Decode.{set_in, turn_in}

-- the lists of which each ends where the next begins
abbrev spans : List ℕ → ℕ → List ℕ → List (List ℕ)
spans xs a [] = []
spans xs a (b ∷ bs) = slice_range xs a b ∷ spans xs b bs

abbrev spans_of : List ℕ → List ℕ → List (List ℕ)
spans_of xs [] = []
spans_of xs (a ∷ bs) = spans xs a bs

span_at : (xs : List ℕ) (a : ℕ) (bs : List ℕ) (n : ℕ) → n < length bs →
    slice_range xs (get_or (a ∷ bs) n 0) (get_or bs n 0) ≡ set_in n (spans xs a bs)
span_at xs a [] n h = absurd (omega arith)
span_at xs a (b ∷ bs) zero h = refl
span_at xs a (b ∷ bs) (suc n) h = span_at xs b bs n (omega arith)

past : (ss : List (List ℕ)) (n : ℕ) → length ss ≤ n → set_in n ss ≡ []
past [] n h = refl
past (s ∷ ss) zero h = absurd (omega arith)
past (s ∷ ss) (suc n) h = past ss n (omega arith)

span_of : (xs ss : List ℕ) (n : ℕ) → suc n < length ss →
    slice_range xs (get_or ss n 0) (get_or ss (suc n) 0) ≡ set_in n (spans_of xs ss)
span_of xs [] n h = absurd (omega arith)
span_of xs (a ∷ bs) n h = span_at xs a bs n (omega arith)

-- sets by their numbers
sets_are : spans_of members member_starts ≡ sets
unfolding members member_starts sets
sets_are = refl

starts_length : length member_starts ≡ 107
unfolding member_starts
starts_length = refl

sets_length : length sets ≡ 106
unfolding sets
sets_length = refl

pub set_is : (ms ss r : List ℕ) (n a b : ℕ) → n < 106 → ms ≡ members → ss ≡ member_starts →
    a ≡ get_or ss n 0 → b ≡ get_or ss (n + 1) 0 → r ≡ slice_range ms a b → r ≡ set_in n sets
set_is ms ss r n a b h m s f t e =
    let next : n + 1 ≡ suc n = omega arith in
    rw (e, f, t, m, s, next) (span_of members member_starts n (omega (arith, starts_length)) ∙ ap (set_in n) sets_are)

pub set_past : (n : ℕ) → 106 ≤ n → set_in n sets ≡ []
set_past n h = past sets n (omega (arith, sets_length))

-- the places of a category's rows
places_are : spans_of places place_starts ≡ row_places
unfolding places place_starts row_places
places_are = refl

place_starts_length : length place_starts ≡ 135
unfolding place_starts
place_starts_length = refl

places_length : length row_places ≡ 134
unfolding row_places
places_length = refl

pub places_is : (ms ss r : List ℕ) (n a b : ℕ) → n < 134 → ms ≡ places → ss ≡ place_starts →
    a ≡ get_or ss n 0 → b ≡ get_or ss (n + 1) 0 → r ≡ slice_range ms a b → r ≡ set_in n row_places
places_is ms ss r n a b h m s f t e =
    let next : n + 1 ≡ suc n = omega arith in
    rw (e, f, t, m, s, next) (span_of places place_starts n (omega (arith, place_starts_length)) ∙ ap (set_in n) places_are)

pub places_past : (n : ℕ) → 134 ≤ n → set_in n row_places ≡ []
places_past n h = past row_places n (omega (arith, places_length))

-- turns by their numbers
turn_now : (bs : List (ℕ × ℕ)) (n : ℕ) → get_or bs n (0, 0) ≡ turn_in n (map {B = ℕ × ℕ} (λ t. (t.0, t.1)) bs)
turn_now [] n = refl
turn_now (b ∷ bs) zero = refl
turn_now (b ∷ bs) (suc n) = turn_now bs n

pub turn_is : (bs : List (ℕ × ℕ)) (n : ℕ) → map {B = ℕ × ℕ} (λ t. (t.0, t.1)) bs ≡ turns →
    get_or bs n (0, 0) ≡ turn_in n turns
turn_is bs n h = turn_now bs n ∙ ap (turn_in n) h
