-- The digits of numbers, and what follows them.
use Rattle.std.proofs.Common.{◌≡◌, ◌≢◌, inl, inr, ℕ, ◌+◌, ◌-◌, ◌*◌, ◌^◌, ◌<◌, ◌≤◌, Bool, true, false, ◌&&◌, ◌||◌, if◌then◌else◌, List, [], ◌∷◌, ◌++◌, length, drop, get_or, Option, Some, None, MatchOption, Bor, IsUtf8, nat_lt, refl, sym, ap, ◌∙◌, subst, arith, lit<, length-append, append_assoc}
use Rattle.std.proofs.lemmas.Bool.{ne_eqb, lt-ltb, ltb-true, ltb-false}
use Rattle.std.proofs.lemmas.Bool.Decides.{eqb_tells}
use Rattle.std.proofs.lemmas.Grind.{common_steps}
use Rattle.std.proofs.lemmas.Str.{IsCharBoundary-at_seam}
use Rattle.std.proofs.Math.Nat.{le-mul_of_pos_right}
use Rattle.std.proofs.lemmas.List.{drop_more, drop_all}
use Rattle.std.specs.Char.{digit_value}
use Rattle.std.specs.List.{AllByRecursion}
use Rattle.std.specs.Option.{SomeIff}
use Rattle.std.specs.Str.{IsCharBoundary}
use Rattle.std.specs.Str.Parse.{digits_value_after}
use Rattle.rap_lexer.proofs.AsciiRuns.{tested_border}
use Rattle.rap_lexer.proofs.Runs.{run_of-after_run, after_drop}
use Rattle.rap_lexer.specs.Class.{is_in}
use Rattle.rap_lexer.specs.Escape.{without_underscores}
use Rattle.rap_lexer.specs.Number.{starts_exponent, after_sign}
use Rattle.rap_lexer.specs.Run.{next_is, tail, run_of}
use Rattle.rap_literals.specs.Number.{number_of, AreOf, value_of, class_of, after_digits, after_fraction, after_exponent, EndsWith}
use Rattle.rap_literals.specs.Reading.{with_digit, with_digits}
use Rattle.rap_literals.specs.declared.digits.Radix.{Radix}
use Rattle.rap_literals.specs.declared.digits.Radix.TheVariants.{Binary, Octal, Decimal, Hexadecimal}

-- ---- where digits end

digit_ascii : (radix : Radix) (b : ℕ) → is_in (class_of radix) b ≡ true → b < 128
digit_ascii Binary b e = grind (arith, common_steps)
digit_ascii Octal b e = grind (arith, common_steps)
digit_ascii Decimal b e = grind (arith, common_steps)
digit_ascii Hexadecimal b e = grind (arith, common_steps)

pub digits_border : (radix : Radix) (text : List ℕ) → IsUtf8 text → IsCharBoundary text (length (run_of (is_in (class_of radix)) text))
digits_border radix text u = tested_border (is_in (class_of radix)) (digit_ascii radix) text u

pub past_digits : (radix : Radix) (text : List ℕ) (n : ℕ) → n ≡ length (run_of (is_in (class_of radix)) text) → drop n text ≡ after_digits radix text
past_digits radix text n e = ap (λ k. drop k text) e ∙ after_drop (is_in (class_of radix)) text

-- ---- one character

pub stripped : (c : ℕ) (text : List ℕ) (r : Option (Bor (List ℕ))) → MatchOption r ((rest : List ℕ) → text ≢ c ∷ rest) (λ x. text ≡ c ∷ x.now) → MatchOption r (next_is c text ≡ false) (λ x. text ≡ c ∷ x.now)
stripped c [] None h = refl
stripped c (d ∷ ds) None h = ne_eqb d c (λ e. h ds (ap (λ x. x ∷ ds) e))
stripped c text (Some x) h = h

-- ---- rests of texts

pub seam : (text rest : List ℕ) → EndsWith text rest → IsUtf8 rest → IsCharBoundary text (length text - length rest)
seam text rest f u =
    let size : length f.0 ≡ length text - length rest = omega (arith, ap length f.1, length-append f.0 rest) in
    subst (λ n. IsCharBoundary text n) size (IsCharBoundary-at_seam text f.0 rest f.1 u)

ends_self : (text : List ℕ) → EndsWith text text
ends_self text = ([], refl)

ends_twice : (a b c : List ℕ) → EndsWith a b → EndsWith b c → EndsWith a c
ends_twice a b c f g = (f.0 ++ g.0, f.1 ∙ (ap (λ l. f.0 ++ l) g.1 ∙ sym (append_assoc f.0 g.0 c)))

ends_tail : (text : List ℕ) → EndsWith text (tail text)
ends_tail [] = ([], refl)
ends_tail (c ∷ cs) = (c ∷ [], refl)

ends_if : (b : Bool) (text a c : List ℕ) → EndsWith text a → EndsWith text c → EndsWith text (if b then a else c)
ends_if true text a c f g = f
ends_if false text a c f g = g

pub ends_digits : (radix : Radix) (text : List ℕ) → EndsWith text (after_digits radix text)
ends_digits radix text = (run_of (is_in (class_of radix)) text, sym (run_of-after_run (is_in (class_of radix)) text))

ends_fraction : (text : List ℕ) → EndsWith text (after_fraction text)
ends_fraction text = ends_if (next_is 46 text) text _ _ (ends_twice text (tail text) _ (ends_tail text) (ends_digits Decimal (tail text))) (ends_self text)

ends_sign : (text : List ℕ) → EndsWith text (after_sign text)
ends_sign text = ends_if (next_is 43 text || next_is 45 text) text _ _ (ends_tail text) (ends_self text)

ends_exponent : (text : List ℕ) → EndsWith text (after_exponent text)
ends_exponent text =
    let past = after_sign (tail text) in
    ends_if (starts_exponent text) text _ _ (ends_twice text (tail text) _ (ends_tail text) (ends_twice (tail text) past _ (ends_sign (tail text)) (ends_digits Decimal past))) (ends_self text)

pub ends_float : (text : List ℕ) → EndsWith text (after_exponent (after_fraction (after_digits Decimal text)))
ends_float text =
    let digits = after_digits Decimal text in
    ends_twice text digits _ (ends_digits Decimal text) (ends_twice digits (after_fraction digits) _ (ends_fraction digits) (ends_exponent (after_fraction digits)))

-- ---- the value of digits

not_both : (a b : Bool) → ¬ ((a ≡ true) × (b ≡ true)) → (a && b) ≡ false
not_both true true h = absurd (h (refl, refl))
not_both true false h = refl
not_both false b h = refl

-- a digit by what the checked operations give
pub no_digit : (radix n c : ℕ) → c ≢ 95 → ¬ ((digit_value c < radix) × (n * radix + digit_value c < 2 ^ 128)) → with_digit radix n c ≡ None
no_digit radix n c d h =
    let f = not_both (nat_lt (digit_value c) radix) (nat_lt (n * radix + digit_value c) (2 ^ 128)) (λ k. h (ltb-true (digit_value c) radix k.0, ltb-true (n * radix + digit_value c) (2 ^ 128) k.1)) in
    rw (ne_eqb c 95 d, f) refl

pub one_digit : (radix n c : ℕ) → c ≢ 95 → digit_value c < radix → n * radix + digit_value c < 2 ^ 128 → with_digit radix n c ≡ Some (n * radix + digit_value c)
one_digit radix n c d h k = rw (ne_eqb c 95 d, lt-ltb (digit_value c) radix h, lt-ltb (n * radix + digit_value c) (2 ^ 128) k) refl

abbrev AreBelow : ℕ → List ℕ → Type 0
AreBelow radix cs = AllByRecursion (λ c. digit_value c < radix) cs

-- more digits make no smaller number
grows : (radix n : ℕ) (cs : List ℕ) → 0 < radix → n ≤ digits_value_after radix n cs
grows radix n [] h = omega arith
grows radix n (c ∷ cs) h =
    let more = grows radix (n * radix + digit_value c) cs h in
    let times : n ≤ n * radix = le-mul_of_pos_right n h in
    omega (arith, more, times)

same_iff : (P Q : Type 0) (v : ℕ) (o : Option ℕ) → (P → Q) → (Q → P) → SomeIff o P v → SomeIff o Q v
same_iff P Q v None f g h = λ q. h (g q)
same_iff P Q v (Some x) f g h = (f h.0, h.1)

-- what is read of the digits is the number that they write
abbrev IsRead : ℕ → ℕ → List ℕ → Type 0
IsRead radix n cs =
    let plain = without_underscores cs in
    SomeIff (with_digits radix n cs) (AreBelow radix plain × (digits_value_after radix n plain < 2 ^ 128)) (digits_value_after radix n plain)

module _ (radix n c : ℕ) (cs : List ℕ) (d : c ≢ 95) where
  abbrev m : ℕ
  m = n * radix + digit_value c

  abbrev later : List ℕ
  later = without_underscores cs

  read_one : 0 < radix → (m < 2 ^ 128 → IsRead radix m cs) → (a b : Bool) → nat_lt (digit_value c) radix ≡ a → nat_lt m (2 ^ 128) ≡ b → IsRead radix n (c ∷ cs)
  read_one h more true true f g =
      let low : digit_value c < radix = ltb-true (digit_value c) radix f in
      rw (ne_eqb c 95 d, f, g) (same_iff (AreBelow radix later × (digits_value_after radix m later < 2 ^ 128)) (((digit_value c < radix) × AreBelow radix later) × (digits_value_after radix m later < 2 ^ 128)) (digits_value_after radix m later) (with_digits radix m cs) (λ p. ((low, p.0), p.1)) (λ p. (p.0.1, p.1)) (more (ltb-true m (2 ^ 128) g)))
  read_one h more true false f g = rw (ne_eqb c 95 d, f, g) (λ p. absurd (omega (arith, ltb-false m (2 ^ 128) g, grows radix m later h, p.1)))
  read_one h more false b f g = rw (ne_eqb c 95 d, f) (λ p. absurd (omega (arith, ltb-false (digit_value c) radix f, p.0.0)))

read_all : (radix n : ℕ) (cs : List ℕ) → 0 < radix → n < 2 ^ 128 → IsRead radix n cs
read_all radix n [] h k = ((tt, k), refl)
read_all radix n (c ∷ cs) h k = elim (eqb_tells c 95) [
  | inl e ↦ rw e.0 (read_all radix n cs h k)
  | inr e ↦ read_one radix n c cs e.1 h (λ l. read_all radix (n * radix + digit_value c) cs h l) (nat_lt (digit_value c) radix) (nat_lt (n * radix + digit_value c) (2 ^ 128)) refl refl
]

some_radix : (radix : Radix) → 0 < number_of radix
some_radix Binary = omega arith
some_radix Octal = omega arith
some_radix Decimal = omega arith
some_radix Hexadecimal = omega arith

pub value_read : (radix : Radix) (digits : List ℕ) (r : Option ℕ) → with_digits (number_of radix) 0 digits ≡ r → SomeIff r (AreOf radix digits × (value_of radix digits < 2 ^ 128)) (value_of radix digits)
value_read radix digits r e = subst (λ (o : Option ℕ). SomeIff o (AreOf radix digits × (value_of radix digits < 2 ^ 128)) (value_of radix digits)) e (read_all (number_of radix) 0 digits (some_radix radix) (lit< tt))

pub read_fails : (radix n i : ℕ) (cs : List ℕ) → i < length cs → with_digit radix n (get_or cs i 0) ≡ None → with_digits radix n (drop i cs) ≡ None
read_fails radix n i cs h e = rw (drop_more cs i 0 h, e) refl

pub read_ends : (radix n i : ℕ) (cs : List ℕ) → length cs ≤ i → with_digits radix n (drop i cs) ≡ Some n
read_ends radix n i cs h = rw (drop_all i cs h) refl
