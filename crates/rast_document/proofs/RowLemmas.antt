-- The lines of each 256th byte.
use Rattle.std.proofs.Common.{◌≡◌, ℕ, ◌+◌, ◌*◌, ◌<◌, ◌≤◌, List, [], ◌∷◌, ◌++◌, length, get_or, sym, subst, inl, inr, arith}
use Rattle.std.proofs.lemmas.Bool.{cases_lt}
use Rattle.std.proofs.lemmas.List.{get_or_append_left, get_or_push, length_push}
use Rattle.rast_document.specs.Indexed.{AreRows}

-- what holds of each row and of one more
module _ (starts rows : List ℕ) (count line : ℕ) (are : AreRows starts rows count) (P : ℕ → ℕ → Type 0)
    (each : (k : ℕ) → k < count → P k (get_or rows k 0)) (more : P count line) where
  rows_each : (k : ℕ) → k < count + 1 → P k (get_or (rows ++ line ∷ []) k 0)
  rows_each k h =
      elim (cases_lt k count) [
        | inl x ↦ subst (P k) (sym (get_or_append_left rows (line ∷ []) 0 k (omega (arith, are.long)))) (each k x)
        | inr x ↦ let same : count ≡ k = omega arith in
            subst (P k) (sym (get_or_push rows line 0 k (omega (arith, are.long)))) (subst (λ (j : ℕ). P j line) same more)
      ]

-- one row more, of a line that is not before those of the others
pub rows_push : (starts rows : List ℕ) (count line : ℕ) → AreRows starts rows count → line < length starts →
    ((k : ℕ) → k < count → get_or rows k 0 ≤ line) → get_or starts line 0 ≤ count * 256 →
    (line + 1 < length starts → count * 256 < get_or starts (line + 1) 0) → AreRows starts (rows ++ line ∷ []) (count + 1)
rows_push starts rows count line are some last begins next = record {
  long = omega (arith, are.long, length_push rows line);
  some = rows_each starts rows count line are (λ k r. r < length starts) are.some some;
  rising = λ k h.
      let before = get_or_append_left rows (line ∷ []) 0 k (omega (arith, are.long)) in
      elim (cases_lt (k + 1) count) [
        | inl x ↦ omega (arith, before, get_or_append_left rows (line ∷ []) 0 (k + 1) (omega (arith, are.long)), are.rising k x)
        | inr x ↦ omega (arith, before, get_or_push rows line 0 (k + 1) (omega (arith, are.long)), last k (omega arith))
      ];
  begins = rows_each starts rows count line are (λ k r. get_or starts r 0 ≤ k * 256) are.begins begins;
  next = rows_each starts rows count line are (λ k r. r + 1 < length starts → k * 256 < get_or starts (r + 1) 0) are.next next;
}

pub rows_last : (starts rows : List ℕ) (count line from : ℕ) → AreRows starts rows count → from ≤ line →
    ((k : ℕ) → k < count → get_or rows k 0 ≤ from) → (k : ℕ) → k < count + 1 → get_or (rows ++ line ∷ []) k 0 ≤ line
rows_last starts rows count line from are rising last =
    rows_each starts rows count line are (λ k r. r ≤ line) (λ k h. omega (arith, last k h)) (omega arith)
