-- Units of parts of a text.
use Rattle.std.proofs.Common.{◌≡◌, ℕ, ◌+◌, ◌-◌, ◌*◌, ◌<◌, ◌≤◌, List, [], ◌∷◌, length, take, drop, get_or, slice_range, sym, ap, ◌∙◌, arith}
use Rattle.std.proofs.lemmas.Bool.Decides.{nat_tests}
use Rattle.std.proofs.lemmas.List.{take-take, take-append-drop, drop-take}
use Rattle.std.proofs.lemmas.List.Elements.{All-from_get_or}
use Rattle.std.proofs.lemmas.List.Sums.{sum_by-append, sum_by-take-le, sum_by-le, sum_by_more}
use Rattle.rast_document.specs.declared.encoding.Encoding.{Encoding}
use Rattle.rast_document.specs.declared.encoding.Encoding.TheVariants.{Utf8, Utf16, Utf32}
use Rattle.rast_document.specs.Indexed.{AreMarks}
use Rattle.rast_document.specs.Units.{units, units_of_byte}

-- a byte counts at most two units
pub units_of_byte_le : (e : Encoding) (b : ℕ) → units_of_byte e b ≤ 2
units_of_byte_le Utf8 b = omega arith
units_of_byte_le Utf16 b = grind (arith, nat_tests)
units_of_byte_le Utf32 b = grind (arith, nat_tests)

-- the first byte of a character counts some
pub units_of_first : (e : Encoding) (b : ℕ) → (128 ≤ b → 192 ≤ b) → 0 < units_of_byte e b
units_of_first Utf8 b h = omega arith
units_of_first Utf16 b h = grind (arith, nat_tests)
units_of_first Utf32 b h = grind (arith, nat_tests)

pub units_le : (e : Encoding) (s : List ℕ) → units e s ≤ length s * 2
units_le e s = sum_by-le (units_of_byte e) 2 s (All-from_get_or (λ x. units_of_byte e x ≤ 2) s 0 (λ i h. units_of_byte_le e (get_or s i 0)))

-- one byte more
pub units_more : (e : Encoding) (s : List ℕ) (i : ℕ) → i < length s → units e (take (i + 1) s) ≡ units e (take i s) + units_of_byte e (get_or s i 0)
units_more e s i h = sum_by_more (units_of_byte e) s i 0 h

-- the units of a longer front
pub units_rise : (e : Encoding) (s : List ℕ) (a b : ℕ) → a ≤ b → units e (take a s) ≤ units e (take b s)
units_rise e s a b h =
    let part = sum_by-take-le (units_of_byte e) (take b s) a in
    let same : units e (take a (take b s)) ≡ units e (take a s) = ap (units e) (take-take a b s h) in
    omega (arith, part, same)

-- the units of a front and of what follows it
pub units_range : (e : Encoding) (s : List ℕ) (a b : ℕ) → a ≤ b → units e (take a s) + units e (slice_range s a b) ≡ units e (take b s)
units_range e s a b h =
    let sum : a + (b - a) ≡ b = omega arith in
    let whole = ap (units e) (take-append-drop a (take b s)) in
    let parts = sum_by-append (units_of_byte e) (take a (take b s)) (drop a (take b s)) in
    let front : units e (take a (take b s)) ≡ units e (take a s) = ap (units e) (take-take a b s h) in
    let back : units e (drop a (take b s)) ≡ units e (slice_range s a b) =
    ap (units e) (ap (λ n. drop a (take n s)) (sym sum) ∙ drop-take a (b - a) s) in
    omega (arith, whole, parts, front, back)

-- after the first byte of a character there are more
pub units_past : (e : Encoding) (s : List ℕ) (a b : ℕ) → a < b → b ≤ length s → (128 ≤ get_or s a 0 → 192 ≤ get_or s a 0) → units e (take a s) < units e (take b s)
units_past e s a b h within first =
    omega (arith, units_more e s a (omega arith), units_of_first e (get_or s a 0) first, units_rise e s (a + 1) b (omega arith))

-- the first mark
pub marks_none : (e : Encoding) (s : List ℕ) → AreMarks e s 0 (0 ∷ [])
marks_none e s = record {
  count = omega arith;
  each = λ k h.
      let first : k ≡ 0 = omega arith in
      let here : k * 256 ≡ 0 = omega arith in
      ap {B = ℕ} (λ i. get_or (0 ∷ []) i 0) first ∙ sym (ap (λ i. units e (take i s)) here);
}
