-- What is picked of the numbers below a number.
use Rattle.std.proofs.Common.{◌≡◌, ℕ, zero, suc, ◌+◌, ◌<◌, ◌≤◌, List, [], ◌∷◌, ◌++◌, Option, Some, None, refl, ap, sym, subst, ◌∙◌, length, length-append, get_or, arith, add-one, inl, inr}
use Rattle.std.specs.List.{All, AllPairs, filter_map}
use Rattle.std.specs.Option.{option_to_list}
use Rattle.std.proofs.lemmas.Bool.{cases_lt}
use Rattle.std.proofs.lemmas.List.{append-nil, get_or_append_left}
use Rattle.std.proofs.Math.Seq.{get_or-append_seam}
use Rattle.std.proofs.lemmas.List.Elements.{All-append}
use Rattle.rast_answers.specs.Rows.{indices_to}
use Rattle.rast_answers.proofs.RowLaws.{filter_map_next}

-- one item, or none
all_of_option : {X : Type 0} (P : X → Type 0) (o : Option X) → ((x : X) → o ≡ Some x → P x) → All P (option_to_list o)
all_of_option P None h = λ k d low. absurd (omega (arith, low))
all_of_option P (Some x) h = λ k d low. elim k as (λ i. i < 1 → P (get_or (x ∷ []) i d)) [ zero ↦ λ z. h x refl | suc i ↦ λ z. absurd (omega (arith, z)) ] low

next_is : {X : Type 0} (h : ℕ → Option X) (n : ℕ) → filter_map h (indices_to (suc n)) ≡ filter_map h (indices_to n) ++ option_to_list (h n)
next_is h n = ap (λ k. filter_map h (indices_to k)) (sym (add-one n)) ∙ filter_map_next h n

pub picked_all : {X : Type 0} (P : X → Type 0) (h : ℕ → Option X) (n : ℕ) → ((k : ℕ) (x : X) → k < n → h k ≡ Some x → P x)
    → All P (filter_map h (indices_to n))
picked_all P h zero each = λ k d low. absurd (omega (arith, low))
picked_all P h (suc n) each =
    let before : All P (filter_map h (indices_to n)) = picked_all P h n (λ k x low is. each k x (omega (arith, low)) is) in
    let here : All P (option_to_list (h n)) = all_of_option P (h n) (λ x is. each n x (omega arith) is) in
    subst (All P) (sym (next_is h n)) (All-append P (filter_map h (indices_to n)) (option_to_list (h n)) before here)

pairs_push : {X : Type 0} (R : X → X → Type 0) (xs : List X) (x : X) → AllPairs R xs → All (λ a. R a x) xs → AllPairs R (xs ++ x ∷ [])
pairs_push R xs x pairs each = λ i j d low high.
    let count : length (xs ++ x ∷ []) ≡ length xs + 1 = length-append xs (x ∷ []) in
    elim (cases_lt j (length xs)) [
      | inl inside ↦
          let first : get_or (xs ++ x ∷ []) i d ≡ get_or xs i d = get_or_append_left xs (x ∷ []) d i (omega (arith, low, inside)) in
          let second : get_or (xs ++ x ∷ []) j d ≡ get_or xs j d = get_or_append_left xs (x ∷ []) d j inside in
          subst (λ a. R a (get_or (xs ++ x ∷ []) j d)) (sym first) (subst (R (get_or xs i d)) (sym second) (pairs i j d low inside))
      | inr past ↦
          let last : j ≡ length xs = omega (arith, past, high, count) in
          let first : get_or (xs ++ x ∷ []) i d ≡ get_or xs i d = get_or_append_left xs (x ∷ []) d i (omega (arith, low, last)) in
          let second : get_or (xs ++ x ∷ []) j d ≡ x = ap (λ k. get_or (xs ++ x ∷ []) k d) last ∙ get_or-append_seam xs x [] d in
          subst (λ a. R a (get_or (xs ++ x ∷ []) j d)) (sym first) (subst (R (get_or xs i d)) (sym second) (each i d (omega (arith, low, last))))
    ]

pairs_option : {X : Type 0} (R : X → X → Type 0) (xs : List X) (o : Option X) → AllPairs R xs
    → ((x : X) → o ≡ Some x → All (λ a. R a x) xs) → AllPairs R (xs ++ option_to_list o)
pairs_option R xs None pairs each = subst (AllPairs R) (sym (append-nil xs)) pairs
pairs_option R xs (Some x) pairs each = pairs_push R xs x pairs (each x refl)

pub picked_pairs : {X : Type 0} (R : X → X → Type 0) (h : ℕ → Option X) (n : ℕ)
    → ((k l : ℕ) (x y : X) → k < l → l < n → h k ≡ Some x → h l ≡ Some y → R x y) → AllPairs R (filter_map h (indices_to n))
picked_pairs R h zero each = λ i j d low high. absurd (omega (arith, high))
picked_pairs R h (suc n) each =
    let before : AllPairs R (filter_map h (indices_to n)) =
    picked_pairs R h n (λ k l x y low high is it. each k l x y low (omega (arith, high)) is it) in
    subst (AllPairs R) (sym (next_is h n)) (
    pairs_option R (filter_map h (indices_to n)) (h n) before
    (λ x is. picked_all (λ a. R a x) h n (λ k a low has. each k n a x low (omega arith) has is))
    )
