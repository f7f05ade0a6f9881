-- A header says one thing.
use Rattle.std.proofs.Common.{◌≡◌, ◌≢◌, ℕ, ◌+◌, ◌-◌, ◌<◌, ◌≤◌, ◌⊎◌, true, false, List, Result, Ok, Err, length, get_or, take, drop, sym, ap, ◌∙◌, refl, subst, inl, inr, arith}
use Rattle.std.proofs.lemmas.Bool.{cases_lt, false≢true}
use Rattle.std.proofs.lemmas.Str.Ascii.{trim_ascii_is}
use Rattle.std.proofs.lemmas.Bool.Decides.{nat_tests}
use Rattle.std.proofs.lemmas.List.{get_or_past}
use Rattle.std.specs.Str.{IsTrimAscii}
use Rattle.std.specs.Str.Parse.{digits_value}
use Rattle.rast_frames.specs.Header.{HasNoEnd, HasNoField, IsFirstEnd, IsFirstField, IsLength, IsLengthField, IsLengthOf, IsLineEnd, IsValue, Says, ends_header}
use Rattle.rast_frames.specs.declared.header.HeaderFault.{HeaderFault}
use Rattle.rast_frames.specs.declared.header.HeaderFault.TheVariants.{NoLength, TwoLengths, WrongLength}

pub one_end : (s : List ℕ) (i k : ℕ) → IsFirstEnd s i → IsFirstEnd s k → i ≡ k
one_end s i k p q =
    elim (cases_lt i k) [
      | inl below ↦ absurd (false≢true (sym (q.first i below) ∙ p.ends))
      | inr above ↦ elim (cases_lt k i) [
        | inl below ↦ absurd (false≢true (sym (p.first k below) ∙ q.ends))
        | inr same ↦ omega arith
      ]
    ]

pub end_none : (s : List ℕ) (i : ℕ) → IsFirstEnd s i → HasNoEnd s → ⊥
end_none s i p none = false≢true (sym (none i p.within) ∙ p.ends)

pub ends_within : (s : List ℕ) (k : ℕ) → ends_header s k ≡ true → k + 3 < length s
ends_within s k h =
    elim (cases_lt (k + 3) (length s)) [
      | inl below ↦ below
      | inr past ↦ let none = get_or_past s (k + 3) 0 past in
          absurd (grind (arith, nat_tests, h, none))
    ]

-- the header's end and its empty line are there
pub end_within : (s : List ℕ) (i : ℕ) → IsFirstEnd s i → i + 4 ≤ length s
end_within s i p = omega (arith, ends_within s i p.ends)

pub one_field : (s : List ℕ) (from i k : ℕ) → IsFirstField s from i → IsFirstField s from k → i ≡ k
one_field s from i k p q =
    elim (cases_lt i k) [
      | inl below ↦ absurd (q.first i p.later below p.field)
      | inr above ↦ elim (cases_lt k i) [
        | inl below ↦ absurd (p.first k q.later below q.field)
        | inr same ↦ omega arith
      ]
    ]

field_none : (s : List ℕ) (from i : ℕ) → IsFirstField s from i → HasNoField s from → ⊥
field_none s from i p none = none i p.later p.field

line_ends : (s : List ℕ) (from i k : ℕ) → IsLineEnd s from i → IsLineEnd s from k → i < k → ⊥
line_ends s from i k p q below = q.first i p.later below (p.ends (omega (arith, q.within)))

one_line_end : (s : List ℕ) (from i k : ℕ) → IsLineEnd s from i → IsLineEnd s from k → i ≡ k
one_line_end s from i k p q =
    elim (cases_lt i k) [
      | inl below ↦ absurd (line_ends s from i k p q below)
      | inr above ↦ elim (cases_lt k i) [
        | inl below ↦ absurd (line_ends s from k i q p below)
        | inr same ↦ omega arith
      ]
    ]

one_trimmed : (s a b : List ℕ) → IsTrimAscii s a → IsTrimAscii s b → a ≡ b
one_trimmed s a b p q = trim_ascii_is s a _ refl p ∙ sym (trim_ascii_is s b _ refl q)

one_value : (s a b : List ℕ) → IsValue s a → IsValue s b → a ≡ b
one_value s a b p q =
    let field : q.field ≡ p.field = one_field s 0 q.field p.field q.first p.first in
    let line = subst (λ (f : ℕ). IsLineEnd s (f + 15) q.end) field q.line in
    let end : q.end ≡ p.end = one_line_end s (p.field + 15) q.end p.end line p.line in
    let moved = subst (λ (f : ℕ). IsTrimAscii (take (q.end - (f + 15)) (drop (f + 15) s)) b) field q.trimmed in
    let trimmed = subst (λ (e : ℕ). IsTrimAscii (take (e - (p.field + 15)) (drop (p.field + 15) s)) b) end moved in
    one_trimmed (take (p.end - (p.field + 15)) (drop (p.field + 15) s)) a b p.trimmed trimmed

value_none : (s v : List ℕ) → IsValue s v → HasNoField s 0 → ⊥
value_none s v p none = field_none s 0 p.field p.first none

value_two : (s v : List ℕ) (i k : ℕ) → IsValue s v → IsFirstField s 0 i → IsFirstField s (i + 1) k → ⊥
value_two s v i k p first second =
    let same : i ≡ p.field = one_field s 0 i p.field first p.first in
    field_none s (p.field + 1) k (subst (λ (f : ℕ). IsFirstField s (f + 1) k) same second) p.only

value_wrong : (s v w : List ℕ) → IsValue s v → IsValue s w → IsLength v → ¬ IsLength w → ⊥
value_wrong s v w p q good bad = bad (subst (λ (x : List ℕ). IsLength x) (one_value s v w p q) good)

pub one_said : (s : List ℕ) (a b : Result ℕ HeaderFault) → Says s a → Says s b → a ≡ b
one_said s (Ok m) (Ok n) p q =
    let same : p.0 ≡ q.0 = one_value s p.0 q.0 p.1 q.1 in
    ap Ok (p.2.1 ∙ (ap (digits_value 10) same ∙ sym q.2.1))
one_said s (Ok m) (Err NoLength) p q = absurd (value_none s p.0 p.1 q)
one_said s (Ok m) (Err TwoLengths) p q = absurd (value_two s p.0 q.0 q.1 p.1 q.2 q.3)
one_said s (Ok m) (Err WrongLength) p q = absurd (value_wrong s p.0 q.0 p.1 q.1 p.2.0 q.2)
one_said s (Err NoLength) (Ok n) p q = absurd (value_none s q.0 q.1 p)
one_said s (Err NoLength) (Err NoLength) p q = refl
one_said s (Err NoLength) (Err TwoLengths) p q = absurd (field_none s 0 q.0 q.2 p)
one_said s (Err NoLength) (Err WrongLength) p q = absurd (value_none s q.0 q.1 p)
one_said s (Err TwoLengths) (Ok n) p q = absurd (value_two s q.0 p.0 p.1 q.1 p.2 p.3)
one_said s (Err TwoLengths) (Err NoLength) p q = absurd (field_none s 0 p.0 p.2 q)
one_said s (Err TwoLengths) (Err TwoLengths) p q = refl
one_said s (Err TwoLengths) (Err WrongLength) p q = absurd (value_two s q.0 p.0 p.1 q.1 p.2 p.3)
one_said s (Err WrongLength) (Ok n) p q = absurd (value_wrong s q.0 p.0 q.1 p.1 q.2.0 p.2)
one_said s (Err WrongLength) (Err NoLength) p q = absurd (value_none s p.0 p.1 q)
one_said s (Err WrongLength) (Err TwoLengths) p q = absurd (value_two s p.0 q.0 q.1 p.1 q.2 q.3)
one_said s (Err WrongLength) (Err WrongLength) p q = refl
