-- Sets of token kinds, one kind after another.
use Rattle.std.proofs.Common.{◌≡◌, ℕ, zero, suc, ◌<◌, ◌+◌, ◌/◌, false, ◌||◌, ◌==◌, List, [], ◌∷◌, length, get_or, take, ap, sym, ◌∙◌, refl}
use Rattle.std.proofs.lemmas.List.Folds.{list_any_more}
use Rattle.std.specs.List.{list_any}
use Rattle.rap_base.specs.Bits.{bit}
use Rattle.rap_base.proofs.Bits.{with, bit-with, bit-none}

-- the bits of the first kinds of a list, and the next kind
pub with_next : (words kinds : List ℕ) (i x k : ℕ) → x / 64 < length words → i < length kinds → x ≡ get_or kinds i x → bit words k ≡ list_any (λ j. j == k) (take i kinds) → bit (with words x) k ≡ list_any (λ j. j == k) (take (i + 1) kinds)
with_next words kinds i x k within small is first =
    bit-with words x k within
    ∙ ap (λ b. b || (x == k)) first
    ∙ ap (λ y. list_any (λ j. j == k) (take i kinds) || (y == k)) is
    ∙ sym (list_any_more (λ j. j == k) kinds i x small)

abbrev pub no_words : List ℕ
no_words = 0 ∷ 0 ∷ 0 ∷ []

no_word : (j : ℕ) → get_or no_words j 0 ≡ 0
no_word zero = refl
no_word (suc zero) = refl
no_word (suc (suc zero)) = refl
no_word (suc (suc (suc j))) = refl

-- the words of the set without kinds
pub without_kinds : (k : ℕ) → bit no_words k ≡ false
without_kinds k = bit-none no_words k (no_word (k / 64))
