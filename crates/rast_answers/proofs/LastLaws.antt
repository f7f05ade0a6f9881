-- The first and the last number that passes a test.
use Rattle.std.proofs.Common.{◌≡◌, ℕ, zero, suc, ◌+◌, ◌<◌, Bool, true, false, [], ◌∷◌, Some, None, refl, ap, sym, ◌∙◌, arith, add-one, inl, inr}
use Rattle.std.specs.Prelude.{◌-◌, find, if◌then◌else◌}
use Rattle.std.specs.Option.{option_or}
use Rattle.std.proofs.lemmas.List.Folds.{find-append}
use Rattle.std.proofs.lemmas.Bool.{cases_lt, cond-true, cond-false}
use Rattle.rast_answers.specs.Rows.{indices_to, last_below}

pub last_here : (p : ℕ → Bool) (n : ℕ) → p n ≡ true → last_below p (n + 1) ≡ Some n
last_here p n h = rw add-one (cond-true _ _ _ h)

pub last_before : (p : ℕ → Bool) (n : ℕ) → p n ≡ false → last_below p (n + 1) ≡ last_below p n
last_before p n h = rw add-one (cond-false _ _ _ h)

-- the first number that passes, once it is come to
find_one : (p : ℕ → Bool) (n : ℕ) → p n ≡ true → find p (n ∷ []) ≡ Some n
find_one p n h = cond-true _ _ _ h

find_no_one : (p : ℕ → Bool) (n : ℕ) → p n ≡ false → find p (n ∷ []) ≡ None
find_no_one p n h = cond-false _ _ _ h

next_of : (p : ℕ → Bool) (n : ℕ) → find p (indices_to n) ≡ None → find p (indices_to (suc n)) ≡ find p (n ∷ [])
next_of p n none = find-append p (indices_to n) (n ∷ []) ∙ ap (λ o. option_or o (find p (n ∷ []))) none

pub find_none_next : (p : ℕ → Bool) (n : ℕ) → find p (indices_to n) ≡ None → p n ≡ false → find p (indices_to (n + 1)) ≡ None
find_none_next p n none h = rw add-one (next_of p n none ∙ find_no_one p n h)

found_later : (p : ℕ → Bool) (n k i : ℕ) → find p (indices_to n) ≡ Some i → find p (indices_to (k + n)) ≡ Some i
found_later p n zero i h = let same : zero + n ≡ n = omega arith in ap (λ m. find p (indices_to m)) same ∙ h
found_later p n (suc k) i h =
    let before : find p (indices_to (k + n)) ≡ Some i = found_later p n k i h in
    let more : suc k + n ≡ suc (k + n) = omega arith in
    ap (λ m. find p (indices_to m)) more
    ∙ (find-append p (indices_to (k + n)) ((k + n) ∷ []) ∙ ap (λ o. option_or o (find p ((k + n) ∷ []))) before)

pub find_here : (p : ℕ → Bool) (n i : ℕ) → i < n → find p (indices_to i) ≡ None → p i ≡ true → find p (indices_to n) ≡ Some i
find_here p n i low none h =
    let here : find p (indices_to (suc i)) ≡ Some i = next_of p i none ∙ find_one p i h in
    let count : n ≡ (n - suc i) + suc i = omega (arith, low) in
    ap (λ m. find p (indices_to m)) count ∙ found_later p (suc i) (n - suc i) i here

-- the last number that passes
pub record IsLast (p : ℕ → Bool) (n i : ℕ) : Type 0 where
  pub low : i < n
  pub passes : p i ≡ true
  pub none : (k : ℕ) → i < k → k < n → p k ≡ false

last_of : (p : ℕ → Bool) (n i : ℕ) (b : Bool) → p n ≡ b → (last_below p n ≡ Some i → IsLast p n i)
    → (if b then Some n else last_below p n) ≡ Some i → IsLast p (suc n) i
last_of p n i true e rest h =
    let same : n ≡ i = cc in
    record {
      low = omega (arith, same);
      passes = ap p (sym same) ∙ e;
      none = λ k low high. absurd (omega (arith, same, low, high));
    }
last_of p n i false e rest h =
    let r = rest h in
    record {
      low = omega (arith, r.low);
      passes = r.passes;
      none = λ k low high. elim (cases_lt k n) [
        | inl before ↦ r.none k low before
        | inr past ↦ let same : k ≡ n = omega (arith, past, high) in ap p same ∙ e
      ];
    }

pub is_last : (p : ℕ → Bool) (n i : ℕ) → last_below p n ≡ Some i → IsLast p n i
is_last p zero i h = absurd cc
is_last p (suc n) i h =
    let test : last_below p (suc n) ≡ (if p n then Some n else last_below p n) = refl in
    last_of p n i (p n) refl (is_last p n i) (sym test ∙ h)

pub last_is : (p : ℕ → Bool) (n i : ℕ) → IsLast p n i → last_below p n ≡ Some i
last_is p zero i h = absurd (omega (arith, h.low))
last_is p (suc n) i h = elim (cases_lt i n) [
  | inl before ↦
      cond-false _ _ _ (h.none n before (omega arith))
      ∙ last_is p n i (record { low = before; passes = h.passes; none = λ k low high. h.none k low (omega (arith, high)) })
  | inr past ↦
      let same : n ≡ i = omega (arith, past, h.low) in
      cond-true _ _ _ (ap p same ∙ h.passes) ∙ ap Some same
]
