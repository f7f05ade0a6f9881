-- The texts of leaves, and the places between them.
use Rattle.std.proofs.Common.{◌≡◌, ℕ, ◌+◌, List, [], ◌∷◌, ◌++◌, refl, ap, subst, sym, ◌∙◌, append_assoc, append-nil, length, length-append, arith, IsUtf8, IsCharBoundary}
use Rattle.std.proofs.lemmas.Str.{IsUtf8-append, IsUtf8-nil, IsCharBoundary-at_seam}
use Rattle.rap_lexed.specs.StrForest.{StrForest, str_none, str_node, str_leaf, str_message, str_flat, str_joined}
use Rattle.rap_lexed.specs.StrStep.{StrStepValue, str_enter, str_exit, str_token, str_error}
use Rattle.rap_ranged.specs.StepTexts.{IsText}
use Rattle.rap_ranged.specs.Places.{IsPlace, HavePlaces}
use Rattle.rap_ranged.specs.Ranged.{end_from, ranged}

-- the tokens among these steps are text
abbrev pub AreTexts : List StrStepValue → Type 0
AreTexts [] = Unit {0}
AreTexts (s ∷ ss) = IsText s × AreTexts ss

-- the leaves of a forest are text
abbrev pub HasTexts : StrForest → Type 0
HasTexts str_none = Unit {0}
HasTexts (str_node before kind children) = HasTexts before × HasTexts children
HasTexts (str_leaf before kind text) = HasTexts before × IsUtf8 text
HasTexts (str_message before bytes pos) = HasTexts before

pub texts_of_flat : (f : StrForest) (ss : List StrStepValue) → AreTexts (str_flat f ++ ss) → HasTexts f × AreTexts ss
texts_of_flat str_none ss h = (tt, h)
texts_of_flat (str_node before kind children) ss h =
    let regroup : str_flat (str_node before kind children) ++ ss ≡ str_flat before ++ (str_enter kind ∷ (str_flat children ++ (str_exit ∷ ss))) = simp append_assoc in
    let first = texts_of_flat before (str_enter kind ∷ (str_flat children ++ (str_exit ∷ ss))) (subst AreTexts regroup h) in
    let second = texts_of_flat children (str_exit ∷ ss) first.1.1 in
    ((first.0, second.0), second.1.1)
texts_of_flat (str_leaf before kind text) ss h =
    let first = texts_of_flat before (str_token kind text ∷ ss) (subst AreTexts (append_assoc (str_flat before) (str_token kind text ∷ []) ss) h) in
    ((first.0, first.1.0), first.1.1)
texts_of_flat (str_message before bytes pos) ss h =
    let first = texts_of_flat before (str_error bytes pos ∷ ss) (subst AreTexts (append_assoc (str_flat before) (str_error bytes pos ∷ []) ss) h) in
    (first.0, first.1.1)

pub texts_of : (f : StrForest) → AreTexts (str_flat f) → HasTexts f
texts_of f h = (texts_of_flat f [] (subst AreTexts (sym (append-nil (str_flat f))) h)).0

pub text_joined : (f : StrForest) → HasTexts f → IsUtf8 (str_joined f)
text_joined str_none h = IsUtf8-nil
text_joined (str_node before kind children) h = IsUtf8-append (str_joined before) (str_joined children) (text_joined before h.0) (text_joined children h.1)
text_joined (str_leaf before kind text) h = IsUtf8-append (str_joined before) text (text_joined before h.0) h.1
text_joined (str_message before bytes pos) h = text_joined before h

-- a character boundary between two parts of a text
border : (text front back : List ℕ) (at : ℕ) → at ≡ length front → text ≡ front ++ back → IsUtf8 back → IsCharBoundary text at
border text front back at e parts h = let P : ℕ → Type 0 = λ n. IsCharBoundary text n in subst P (sym e) (IsCharBoundary-at_seam text front back parts h)

-- the range of a part of a text is on character boundaries
place : (text front part back : List ℕ) (at : ℕ) → at ≡ length front → text ≡ front ++ (part ++ back) → IsUtf8 part → IsUtf8 back → IsPlace text at (at + length part)
place text front part back at e parts p b = record {
  begins = border text front (part ++ back) at e parts (IsUtf8-append part back p b);
  ends = border text (front ++ part) back (at + length part) (omega (arith, e, length-append front part)) (parts ∙ sym (append_assoc front part back)) b;
  rising = omega arith;
}

-- the nodes and leaves of a forest inside a text
pub places_inside : (f : StrForest) (text front back : List ℕ) (at : ℕ) → at ≡ length front → text ≡ front ++ (str_joined f ++ back) → IsUtf8 back → HasTexts f → HavePlaces text (ranged at f)
places_inside str_none text front back at e parts b h = tt
places_inside (str_node before kind children) text front back at e parts b h =
    let jb : List ℕ = str_joined before in
    let jc : List ℕ = str_joined children in
    let around : text ≡ front ++ (jb ++ (jc ++ back)) = parts ∙ ap (λ l. front ++ l) (append_assoc jb jc back) in
    let here : end_from at before ≡ length (front ++ jb) = omega (arith, e, length-append front jb) in
    let cut : text ≡ (front ++ jb) ++ (jc ++ back) = around ∙ sym (append_assoc front jb (jc ++ back)) in
    let utf8 : IsUtf8 jc = text_joined children h.1 in (
      places_inside before text front (jc ++ back) at e around (IsUtf8-append jc back utf8 b) h.0,
      place text (front ++ jb) jc back (end_from at before) here cut utf8 b,
      places_inside children text (front ++ jb) back (end_from at before) here cut b h.1,
    )
places_inside (str_leaf before kind part) text front back at e parts b h =
    let jb : List ℕ = str_joined before in
    let around : text ≡ front ++ (jb ++ (part ++ back)) = parts ∙ ap (λ l. front ++ l) (append_assoc jb part back) in
    let here : end_from at before ≡ length (front ++ jb) = omega (arith, e, length-append front jb) in
    let cut : text ≡ (front ++ jb) ++ (part ++ back) = around ∙ sym (append_assoc front jb (part ++ back)) in (
      places_inside before text front (part ++ back) at e around (IsUtf8-append part back h.1 b) h.0,
      place text (front ++ jb) part back (end_from at before) here cut h.1 b,
    )
places_inside (str_message before bytes pos) text front back at e parts b h = places_inside before text front back at e parts b h

-- the nodes and leaves of a forest whose leaves joined are the text
pub places_of : (f : StrForest) (text : List ℕ) → AreTexts (str_flat f) → str_joined f ≡ text → HavePlaces text (ranged 0 f)
places_of f text h whole =
    places_inside f text [] [] 0 refl (sym whole ∙ sym (append-nil (str_joined f))) IsUtf8-nil (texts_of f h)
