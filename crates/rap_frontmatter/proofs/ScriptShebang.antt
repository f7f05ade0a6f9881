-- what white space and `[` mean after `#!`
use Rattle.std.proofs.Common.{◌≡◌, ℕ, zero, suc, Bool, true, false, cond, List, [], ◌∷◌, ◌++◌, ◌<◌, length, drop, get_or, chars, encode_utf8_all, refl, ap, ◌∙◌, arith, lit<}
use Rattle.std.specs.Char.{is_whitespace}
use Rattle.std.specs.Str.{skip_leading_whitespace, trim_start}
use Rattle.std.specs.List.{AllPass}
use Rattle.std.proofs.lemmas.Str.{char_from_byte, byte_from_char, length-le-encodes}

-- white space and then `[` begin the text
pub record BeginsAttribute (cs : List ℕ) : Type 0 where
  pub white : List ℕ
  pub more : List ℕ
  pub split : cs ≡ white ++ 91 ∷ more
  pub blank : AllPass is_whitespace white

all_cons : (p : ℕ → Bool) (x : ℕ) (xs : List ℕ) → p x ≡ true → AllPass p xs → AllPass p (x ∷ xs)
all_cons p x xs h t zero d l = h
all_cons p x xs h t (suc k) d l = t k d (omega arith)

abbrev Bracket : List ℕ → Type 0
Bracket cs = (more : List ℕ) × (cs ≡ 91 ∷ more)

bracket_cons : (b : Bool) (c : ℕ) (cs : List ℕ) → is_whitespace c ≡ b → (Bracket (skip_leading_whitespace cs) → BeginsAttribute cs) → Bracket (cond b (skip_leading_whitespace cs) (c ∷ cs)) → BeginsAttribute (c ∷ cs)
bracket_cons true c cs w ih h =
    let r = ih h in
    record { white = c ∷ r.white; more = r.more; split = ap (λ l. c ∷ l) r.split; blank = all_cons is_whitespace c r.white w r.blank }
bracket_cons false c cs w ih h = record { white = []; more = h.0; split = h.1; blank = λ k d l. absurd (omega arith) }

pub attribute_from_skipped : (cs : List ℕ) → Bracket (skip_leading_whitespace cs) → BeginsAttribute cs
attribute_from_skipped [] h = let e = h.1 in cc
attribute_from_skipped (c ∷ cs) h = bracket_cons (is_whitespace c) c cs refl (attribute_from_skipped cs) h

cond_true : (b : Bool) (xs ys : List ℕ) → b ≡ true → cond b xs ys ≡ xs
cond_true b xs ys e = ap (λ v. cond v xs ys) e

pub skipped_from_attribute : (white more : List ℕ) → AllPass is_whitespace white → skip_leading_whitespace (white ++ 91 ∷ more) ≡ 91 ∷ more
skipped_from_attribute [] more h = refl
skipped_from_attribute (c ∷ white) more h =
    cond_true (is_whitespace c) _ _ (h 0 c (omega arith)) ∙ skipped_from_attribute white more (λ k d l. h (suc k) d (omega arith))

bracket_from_byte : (cs : List ℕ) → get_or (encode_utf8_all cs) 0 0 ≡ 91 → Bracket cs
bracket_from_byte [] h = absurd (omega (arith, h))
bracket_from_byte (c ∷ cs) h =
    let some : 0 < length (encode_utf8_all (c ∷ cs)) = omega (arith, length-le-encodes (c ∷ cs)) in
    let is : c ≡ 91 = char_from_byte (encode_utf8_all (c ∷ cs)) (encode_utf8_all cs) c refl (omega (arith, h)) some ∙ h in
    (cs, ap (λ x. x ∷ cs) is)

pub attribute_from_byte : (rest : List ℕ) → get_or (trim_start rest) 0 0 ≡ 91 → BeginsAttribute (chars rest)
unfolding trim_start
attribute_from_byte rest h = attribute_from_skipped (chars rest) (bracket_from_byte _ h)

pub byte_from_attribute : (rest white more : List ℕ) → chars rest ≡ white ++ 91 ∷ more → AllPass is_whitespace white → get_or (trim_start rest) 0 0 ≡ 91
unfolding trim_start
byte_from_attribute rest white more e h =
    let s : skip_leading_whitespace (chars rest) ≡ 91 ∷ more = ap skip_leading_whitespace e ∙ skipped_from_attribute white more h in
    ap (λ l. get_or (encode_utf8_all l) 0 0) s ∙ byte_from_char (encode_utf8_all (91 ∷ more)) (encode_utf8_all more) 91 refl (lit< tt)

-- what stands after `#!`
pub after_marks : (text rest : List ℕ) → text ≡ 35 ∷ 33 ∷ rest → drop 2 text ≡ rest
after_marks text rest e = ap (λ l. drop 2 l) e
