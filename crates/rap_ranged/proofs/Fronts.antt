-- The places of a tree over a front of a text.
use Rattle.std.proofs.Common.{◌≡◌, ℕ, zero, suc, List, [], ◌∷◌, ◌++◌, refl, ap, sym, ◌∙◌, inl, inr, append_assoc, IsUtf8}
use Rattle.std.specs.Prelude.{All}
use Rattle.std.proofs.lemmas.Bool.{cases_Bool, cond-true, cond-false}
use Rattle.std.proofs.lemmas.List.Elements.{All-head, All-tail}
use Rattle.std.proofs.lemmas.Str.{IsUtf8-append, IsUtf8-nil}
use Rattle.rap_lexed.specs.LexedStr.{AreTokens, joined}
use Rattle.rap_lexed.specs.Token.{Token}
use Rattle.rap_lexed.specs.StrForest.{StrForest, str_flat, str_joined}
use Rattle.rap_lexed.specs.Trivia.{is_trivial, front_of}
use Rattle.rap_ranged.specs.Places.{HavePlaces}
use Rattle.rap_ranged.specs.Ranged.{ranged}
use Rattle.rap_ranged.proofs.Texts.{AreTexts, places_inside, texts_of}

-- each token is text
abbrev AreUtf8 : List Token → Type 0
AreUtf8 ts = All (λ t. IsUtf8 t.text) ts

joined_utf8 : (ts : List Token) → AreUtf8 ts → IsUtf8 (joined ts)
joined_utf8 [] h = IsUtf8-nil
joined_utf8 (t ∷ ts) h =
    IsUtf8-append t.text (joined ts) (All-head (λ x. IsUtf8 x.text) t ts h) (joined_utf8 ts (All-tail (λ x. IsUtf8 x.text) t ts h))

-- what follows the tokens of a front is text
record Behind (ts front : List Token) : Type 0 where
  back : List ℕ
  parts : joined ts ≡ joined front ++ back
  utf8 : IsUtf8 back

behind_none : (ts : List Token) → AreUtf8 ts → Behind ts []
behind_none ts h = record { back = joined ts; parts = refl; utf8 = joined_utf8 ts h }

behind_more : (t : Token) (ts front more : List Token) → more ≡ t ∷ front → Behind ts front → Behind (t ∷ ts) more
behind_more t ts front more e b = record {
  back = b.back;
  parts =
      ap (λ l. t.text ++ l) b.parts
      ∙ sym (append_assoc t.text (joined front) b.back)
      ∙ ap (λ l. joined l ++ b.back) (sym e);
  utf8 = b.utf8;
}

behind_all : (ts front : List Token) → front ≡ [] → AreUtf8 ts → Behind ts front
behind_all ts front e h = record { back = joined ts; parts = ap (λ l. joined l ++ joined ts) (sym e); utf8 = joined_utf8 ts h }

behind : (n : ℕ) (ts : List Token) → AreUtf8 ts → Behind ts (front_of n ts)
behind zero [] h = behind_none [] h
behind (suc n) [] h = behind_none [] h
behind zero (t ∷ ts) h = elim (cases_Bool (is_trivial t)) [
  | inl e ↦
      behind_more t ts (front_of 0 ts) (front_of 0 (t ∷ ts)) (cond-true (is_trivial t) (t ∷ front_of 0 ts) [] e)
      (behind 0 ts (All-tail (λ x. IsUtf8 x.text) t ts h))
  | inr e ↦ behind_all (t ∷ ts) (front_of 0 (t ∷ ts)) (cond-false (is_trivial t) (t ∷ front_of 0 ts) [] e) h
]
behind (suc n) (t ∷ ts) h = elim (cases_Bool (is_trivial t)) [
  | inl e ↦
      behind_more t ts (front_of (suc n) ts) (front_of (suc n) (t ∷ ts))
      (ap (λ l. t ∷ l) (cond-true (is_trivial t) (front_of (suc n) ts) (front_of n ts) e))
      (behind (suc n) ts (All-tail (λ x. IsUtf8 x.text) t ts h))
  | inr e ↦
      behind_more t ts (front_of n ts) (front_of (suc n) (t ∷ ts))
      (ap (λ l. t ∷ l) (cond-false (is_trivial t) (front_of (suc n) ts) (front_of n ts) e))
      (behind n ts (All-tail (λ x. IsUtf8 x.text) t ts h))
]

-- the nodes and leaves of a forest whose leaves joined are the text of a front
pub places_of_front : (f : StrForest) (ts : List Token) (n : ℕ) → AreTokens ts → AreTexts (str_flat f) → str_joined f ≡ joined (front_of n ts) → HavePlaces (joined ts) (ranged 0 f)
places_of_front f ts n tokens h front =
    let b : Behind ts (front_of n ts) = behind n ts tokens.utf8 in
    places_inside f (joined ts) [] b.back 0 refl (b.parts ∙ ap (λ l. l ++ b.back) (sym front)) b.utf8 (texts_of f h)
