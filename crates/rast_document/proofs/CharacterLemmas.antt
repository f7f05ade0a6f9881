-- What the bytes of a character count.
use Rattle.std.proofs.Common.{◌≡◌, ℕ, ◌+◌, ◌/◌, ◌<◌, ◌≤◌, List, [], ◌∷◌, length, sum_by, ap, ◌∙◌, refl, inl, inr, arith}
use Rattle.std.proofs.lemmas.Bool.{cases_lt, lt-ltb, le-ltb}
use Rattle.std.proofs.lemmas.Bool.Decides.{nat_tests}
use Rattle.std.proofs.lemmas.List.Sums.{sum_by-append, sum_by-cons}
use Rattle.std.specs.Str.{encode_utf8_all}
use lib.Utf8.{encode, next}
use Rattle.rast_document.specs.declared.encoding.Encoding.{Encoding}
use Rattle.rast_document.specs.declared.encoding.Encoding.TheVariants.{Utf8, Utf16, Utf32}
use Rattle.rast_document.specs.Units.{characters_units, units, units_of_byte, units_of_character}

-- the forms of a character in UTF-8
encode_one : (c : ℕ) → c < 128 → encode c ≡ c ∷ []
unfolding encode
encode_one c h = rw (lt-ltb c 128 h) refl

encode_two : (c : ℕ) → 128 ≤ c → c < 2048 → encode c ≡ (192 + c / 64) ∷ next c ∷ []
unfolding encode
encode_two c h k = rw (le-ltb c 128 h, lt-ltb c 2048 k) refl

encode_three : (c : ℕ) → 2048 ≤ c → c < 65536 → encode c ≡ (224 + c / 4096) ∷ next (c / 64) ∷ next c ∷ []
unfolding encode
encode_three c h k = let low : 128 ≤ c = omega arith in rw (le-ltb c 128 low, le-ltb c 2048 h, lt-ltb c 65536 k) refl

encode_four : (c : ℕ) → 65536 ≤ c → encode c ≡ (240 + c / 262144) ∷ next (c / 4096) ∷ next (c / 64) ∷ next c ∷ []
unfolding encode
encode_four c h =
    let low : 128 ≤ c = omega arith in
    let middle : 2048 ≤ c = omega arith in
    rw (le-ltb c 128 low, le-ltb c 2048 middle, le-ltb c 65536 h) refl

-- what one byte counts in UTF-16 and in UTF-32
plain_16 : (b : ℕ) → b < 128 → units_of_byte Utf16 b ≡ 1
plain_16 b h = grind (arith, nat_tests)

later_16 : (c : ℕ) → units_of_byte Utf16 (next c) ≡ 0
later_16 c = let low : 128 ≤ next c = omega arith in let high : next c < 192 = omega arith in grind (arith, nat_tests)

lead_16 : (b : ℕ) → 192 ≤ b → b < 240 → units_of_byte Utf16 b ≡ 1
lead_16 b h k = grind (arith, nat_tests)

long_16 : (b : ℕ) → 240 ≤ b → units_of_byte Utf16 b ≡ 2
long_16 b h = grind (arith, nat_tests)

plain_32 : (b : ℕ) → b < 128 → units_of_byte Utf32 b ≡ 1
plain_32 b h = grind (arith, nat_tests)

later_32 : (c : ℕ) → units_of_byte Utf32 (next c) ≡ 0
later_32 c = let low : 128 ≤ next c = omega arith in let high : next c < 192 = omega arith in grind (arith, nat_tests)

lead_32 : (b : ℕ) → 192 ≤ b → units_of_byte Utf32 b ≡ 1
lead_32 b h = grind (arith, nat_tests)

-- the units of up to four bytes
one : (f : ℕ → ℕ) (a : ℕ) → sum_by f (a ∷ []) ≡ f a
one f a = omega arith

two : (f : ℕ → ℕ) (a b : ℕ) → sum_by f (a ∷ b ∷ []) ≡ f a + f b
two f a b = omega arith

three : (f : ℕ → ℕ) (a b c : ℕ) → sum_by f (a ∷ b ∷ c ∷ []) ≡ f a + f b + f c
three f a b c = omega arith

four : (f : ℕ → ℕ) (a b c d : ℕ) → sum_by f (a ∷ b ∷ c ∷ d ∷ []) ≡ f a + f b + f c + f d
four f a b c d = omega arith

wide_16 : (c : ℕ) → c < 65536 → units_of_character Utf16 c ≡ 1
wide_16 c h = grind (arith, nat_tests)

pair_16 : (c : ℕ) → 65536 ≤ c → units_of_character Utf16 c ≡ 2
pair_16 c h = grind (arith, nat_tests)

in_16 : (c : ℕ) → units Utf16 (encode c) ≡ units_of_character Utf16 c
in_16 c =
    let f = units_of_byte Utf16 in
    elim (cases_lt c 128) [
      | inl h ↦ ap (units Utf16) (encode_one c h) ∙ omega (arith, one (units_of_byte Utf16) c, plain_16 c h, wide_16 c (omega arith))
      | inr h ↦ elim (cases_lt c 2048) [
        | inl k ↦ ap (units Utf16) (encode_two c h k) ∙ omega (
          arith,
          two (units_of_byte Utf16) (192 + c / 64) (next c),
          lead_16 (192 + c / 64) (omega arith) (omega arith),
          later_16 c,
          wide_16 c (omega arith),
        )
        | inr k ↦ elim (cases_lt c 65536) [
          | inl l ↦ ap (units Utf16) (encode_three c k l) ∙ omega (
            arith,
            three (units_of_byte Utf16) (224 + c / 4096) (next (c / 64)) (next c),
            lead_16 (224 + c / 4096) (omega arith) (omega arith),
            later_16 (c / 64),
            later_16 c,
            wide_16 c l,
          )
          | inr l ↦ ap (units Utf16) (encode_four c l) ∙ omega (
            arith,
            four (units_of_byte Utf16) (240 + c / 262144) (next (c / 4096)) (next (c / 64)) (next c),
            long_16 (240 + c / 262144) (omega arith),
            later_16 (c / 4096),
            later_16 (c / 64),
            later_16 c,
            pair_16 c l,
          )
        ]
      ]
    ]

in_32 : (c : ℕ) → units Utf32 (encode c) ≡ 1
in_32 c =
    elim (cases_lt c 128) [
      | inl h ↦ ap (units Utf32) (encode_one c h) ∙ omega (arith, one (units_of_byte Utf32) c, plain_32 c h)
      | inr h ↦ elim (cases_lt c 2048) [
        | inl k ↦ ap (units Utf32) (encode_two c h k) ∙ omega (
          arith,
          two (units_of_byte Utf32) (192 + c / 64) (next c),
          lead_32 (192 + c / 64) (omega arith),
          later_32 c,
        )
        | inr k ↦ elim (cases_lt c 65536) [
          | inl l ↦ ap (units Utf32) (encode_three c k l) ∙ omega (
            arith,
            three (units_of_byte Utf32) (224 + c / 4096) (next (c / 64)) (next c),
            lead_32 (224 + c / 4096) (omega arith),
            later_32 (c / 64),
            later_32 c,
          )
          | inr l ↦ ap (units Utf32) (encode_four c l) ∙ omega (
            arith,
            four (units_of_byte Utf32) (240 + c / 262144) (next (c / 4096)) (next (c / 64)) (next c),
            lead_32 (240 + c / 262144) (omega arith),
            later_32 (c / 4096),
            later_32 (c / 64),
            later_32 c,
          )
        ]
      ]
    ]

each_one : (bs : List ℕ) → units Utf8 bs ≡ length bs
each_one [] = refl
each_one (b ∷ bs) = omega (arith, sum_by-cons (units_of_byte Utf8) b bs, each_one bs)

pub units_of_encoded : (e : Encoding) (c : ℕ) → units e (encode c) ≡ units_of_character e c
units_of_encoded Utf8 c = each_one (encode c)
units_of_encoded Utf16 c = in_16 c
units_of_encoded Utf32 c = in_32 c

pub units_of_characters : (e : Encoding) (cs : List ℕ) → units e (encode_utf8_all cs) ≡ characters_units e cs
units_of_characters e [] = refl
units_of_characters e (c ∷ cs) =
    omega (
      arith,
      sum_by-append (units_of_byte e) (encode c) (encode_utf8_all cs),
      sum_by-cons (units_of_character e) c cs,
      units_of_encoded e c,
      units_of_characters e cs,
    )
