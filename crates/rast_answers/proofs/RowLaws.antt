-- Rows.
use Rattle.std.proofs.Common.{◌≡◌, ℕ, zero, suc, ◌+◌, ◌-◌, ◌<◌, ◌≤◌, List, [], ◌∷◌, ◌++◌, Option, Some, None, refl, ap, sym, ◌∙◌, arith, add-one}
use Rattle.std.specs.Option.{unwrap_or, option_to_list}
use Rattle.std.specs.List.{filter_map, flat_map, cons_option}
use Rattle.std.proofs.lemmas.List.Elements.{filter_map-append}
use Rattle.std.proofs.lemmas.Grind.{flat_map-append}
use Rattle.std.proofs.lemmas.List.{append-nil}
use Rattle.rast_answers.specs.Rows.{indices_to, last_in_row}

-- what nothing comes after is the last of its row
pub row_ends : (next : ℕ → Option ℕ) (n i : ℕ) → next i ≡ None → last_in_row next n i ≡ i
row_ends next zero i h = refl
row_ends next (suc n) i h = ap (λ o. last_in_row next n (unwrap_or o i)) h ∙ row_ends next n i h

-- a step
pub row_goes_on : (next : ℕ → Option ℕ) (n m i j : ℕ) → n ≡ m + 1 → next i ≡ Some j → last_in_row next n i ≡ last_in_row next m j
row_goes_on next zero m i j e h = absurd (omega (arith, e))
row_goes_on next (suc k) m i j e h =
    let same : k ≡ m = omega (arith, e) in
    ap (λ o. last_in_row next k (unwrap_or o i)) h ∙ ap (λ n. last_in_row next n j) same

one_of : {X : Type 0} (o : Option X) → cons_option o [] ≡ option_to_list o
one_of None = refl
one_of (Some x) = refl

-- what is given of one number more
pub filter_map_next : {X : Type 0} (h : ℕ → Option X) (n : ℕ) → filter_map h (indices_to (n + 1)) ≡ filter_map h (indices_to n) ++ option_to_list (h n)
filter_map_next h n =
    ap (λ k. filter_map h (indices_to k)) (add-one n)
    ∙ filter_map-append h (indices_to n) (n ∷ [])
    ∙ ap (λ l. filter_map h (indices_to n) ++ l) (one_of (h n))

pub flat_map_next : {X : Type 0} (h : ℕ → List X) (n : ℕ) → flat_map h (indices_to (n + 1)) ≡ flat_map h (indices_to n) ++ h n
flat_map_next h n =
    ap (λ k. flat_map h (indices_to k)) (add-one n)
    ∙ flat_map-append h (indices_to n) (n ∷ [])
    ∙ ap (λ l. flat_map h (indices_to n) ++ l) (append-nil (h n))
