-- An ASCII character stands first exactly if its byte does.
use lib.Utf8.{encode}
use Rattle.std.proofs.Common.{◌≡◌, ◌<◌, ◌≤◌, ℕ, false, ◌==◌, List, [], ◌∷◌, ◌++◌, length, get_or, encode_utf8_all, refl, ap, sym, ◌∙◌, inl, inr, arith, append-nil}
use Rattle.std.proofs.lemmas.Bool.{cases_lt}
use Rattle.std.proofs.lemmas.Bool.Decides.{eqb_tells}
use Rattle.std.proofs.lemmas.Str.{encode_ascii, inside_one, length-le-encodes}
use Rattle.rap_lexer.specs.Run.{next_is}

head_is : (c : ℕ) (bs rest : List ℕ) → 0 < length bs → next_is c (bs ++ rest) ≡ (get_or bs 0 0 == c)
head_is c [] rest l = absurd (omega (arith, l))
head_is c (b ∷ bs) rest l = refl

some_bytes : (x : ℕ) → 0 < length (encode x)
some_bytes x = omega (arith, length-le-encodes (x ∷ []), ap length (append-nil (encode x)))

-- a character past ASCII begins with another byte
past : (c x : ℕ) → c < 128 → 128 ≤ x → (get_or (encode x) 0 0 == c) ≡ false
past c x l h = elim (eqb_tells (get_or (encode x) 0 0) c) [
  | inl e ↦ absurd (omega (arith, l, h, e.1, inside_one x [] (encode x) 0 (sym (append-nil (encode x))) (some_bytes x) (omega (arith, l, e.1))))
  | inr e ↦ e.0
]

pub next_byte : (c : ℕ) → c < 128 → (cs : List ℕ) → next_is c cs ≡ next_is c (encode_utf8_all cs)
next_byte c l [] = refl
next_byte c l (x ∷ xs) = elim (cases_lt x 128) [
  | inl h ↦ rw (encode_ascii x h) refl
  | inr h ↦
      let other : (x == c) ≡ false = grind (arith, l, h) in
      other ∙ (sym (past c x l h) ∙ sym (head_is c (encode x) (encode_utf8_all xs) (some_bytes x)))
]
