-- Bits in lists of words: one more bit, two lists joined, and none.
use Rattle.std.proofs.Common.{◌≡◌, ◌≢◌, ℕ, zero, suc, ◌<◌, ◌≤◌, ◌*◌, ◌/◌, ◌%◌, ◌^◌, false, ◌||◌, ◌==◌, List, [], ◌∷◌, length, get_or, set, max, refl, ap, sym, ◌∙◌, inl, inr, arith, get_or-set_same, get_or-set_other}
use Rattle.std.proofs.Math.Bool.{or-true, or-false}
use Rattle.std.proofs.lemmas.Bool.Decides.{eqb_tells}
use Rattle.std.proofs.lemmas.List.{get_or_past}
use Rattle.std.proofs.lemmas.Nat.Bits.{bit_at_or, bit_at-lt, bit_at-zero, bit_at_set_same, bit_at_set_other, shr_and_one}
use Rattle.std.specs.Int.{bit_at, w64}
use Rattle.std.specs.Int.Bits.{bit_or, bit_and}
use Rattle.rap_base.specs.Bits.{bit}

-- the word with bit i mod 64
abbrev pub mask : ℕ → ℕ
mask i = 1 * 2 ^ (i % 64) % 18446744073709551616

-- a list with one more bit
abbrev pub with : List ℕ → ℕ → List ℕ
with words i = set words (i / 64) (bit_or (get_or words (i / 64) 0) (mask i))

other_place : (i k : ℕ) → i / 64 ≡ k / 64 → i ≢ k → k % 64 ≢ i % 64
other_place i k e other same = other (omega arith)

in_word : (words : List ℕ) (i k : ℕ) → i / 64 < length words → i / 64 ≡ k / 64 → bit (with words i) k ≡ (bit words k || (i == k))
unfolding bit
in_word words i k within e =
    let small : i % 64 < 64 = omega arith in
    elim (eqb_tells i k) [
      | inl (equal, same) ↦
          rw (equal, or-true, ← same, get_or-set_same words (i / 64) _ 0 within, bit_at_set_same w64 (get_or words (i / 64) 0) (i % 64) small) refl
      | inr (unequal, other) ↦
          rw (unequal, or-false, ← e, get_or-set_same words (i / 64) _ 0 within, bit_at_set_other w64 (get_or words (i / 64) 0) (i % 64) small (k % 64) (other_place i k e other)) refl
    ]

pub bit-with : (words : List ℕ) (i k : ℕ) → i / 64 < length words → bit (with words i) k ≡ (bit words k || (i == k))
unfolding bit
bit-with words i k within =
    elim (eqb_tells (i / 64) (k / 64)) [
      | inl (equal, same) ↦ in_word words i k within same
      | inr (unequal, apart) ↦
          let other : i ≢ k = λ e. apart (ap (λ n. n / 64) e) in
          elim (eqb_tells i k) [
            | inl (equal, same) ↦ absurd (other same)
            | inr (unlike, differs) ↦ rw (unlike, or-false) (ap (λ n. bit_at n (k % 64) == 1) (get_or-set_other words (i / 64) (k / 64) _ 0 (λ e. apart (sym e))))
          ]
    ]

-- a bit of two words joined
bit_joined : (x y : ℕ) → x < 2 → y < 2 → (max x y == 1) ≡ ((x == 1) || (y == 1))
bit_joined zero zero p q = refl
bit_joined zero (suc zero) p q = refl
bit_joined (suc zero) zero p q = refl
bit_joined (suc zero) (suc zero) p q = refl
bit_joined (suc (suc x)) y p q = absurd (omega arith)
bit_joined x (suc (suc y)) p q = absurd (omega arith)

-- three words joined with three words
abbrev pub joined : List ℕ → List ℕ → List ℕ
joined a b = bit_or (get_or a 0 0) (get_or b 0 0) ∷ bit_or (get_or a 1 0) (get_or b 1 0) ∷ bit_or (get_or a 2 0) (get_or b 2 0) ∷ []

word_joined : (a b : List ℕ) (j : ℕ) → length a ≡ 3 → length b ≡ 3 → get_or (joined a b) j 0 ≡ bit_or (get_or a j 0) (get_or b j 0)
word_joined a b zero p q = refl
word_joined a b (suc zero) p q = refl
word_joined a b (suc (suc zero)) p q = refl
word_joined a b (suc (suc (suc j))) p q =
    rw (get_or_past a (suc (suc (suc j))) 0 (omega arith), get_or_past b (suc (suc (suc j))) 0 (omega arith)) refl

pub bit-joined : (a b : List ℕ) (k : ℕ) → length a ≡ 3 → length b ≡ 3 → bit (joined a b) k ≡ (bit a k || bit b k)
unfolding bit
bit-joined a b k p q =
    ap (λ n. bit_at n (k % 64) == 1) (word_joined a b (k / 64) p q)
    ∙ ap (λ n. n == 1) (bit_at_or (get_or a (k / 64) 0) (get_or b (k / 64) 0) (k % 64))
    ∙ bit_joined _ _ (bit_at-lt (get_or a (k / 64) 0) (k % 64)) (bit_at-lt (get_or b (k / 64) 0) (k % 64))

-- a list of words that are 0
pub bit-none : (words : List ℕ) (k : ℕ) → get_or words (k / 64) 0 ≡ 0 → bit words k ≡ false
unfolding bit
bit-none words k e = ap (λ n. bit_at n (k % 64) == 1) e ∙ ap (λ n. n == 1) (bit_at-zero (k % 64))

-- past the last word no bit is set
pub bit-past : (words : List ℕ) (k : ℕ) → 64 * length words ≤ k → bit words k ≡ false
bit-past words k past = bit-none words k (get_or_past words (k / 64) 0 (omega arith))

-- the test `(word >> i) & 1 == 1`
pub bit-read : (words : List ℕ) (i k : ℕ) → i ≡ k → (bit_and (get_or words (i / 64) 0 / 2 ^ (i % 64)) 1 == 1) ≡ bit words k
unfolding bit
bit-read words i k e =
    ap (λ n. n == 1) (shr_and_one (get_or words (i / 64) 0) (i % 64))
    ∙ ap (λ j. bit_at (get_or words (j / 64) 0) (j % 64) == 1) e
