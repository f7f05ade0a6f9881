-- Blocks of 64 bytes, by the bits and the counts of their lanes.
use Rattle.std.proofs.Common.{◌≡◌, ◌≢◌, ℕ, zero, suc, ◌+◌, ◌-◌, ◌*◌, ◌/◌, ◌%◌, ◌^◌, ◌<◌, ◌≤◌, Bool, true, false, not, cond, ◌||◌, leb, eqb, bit_and, bit_or, List, [], ◌∷◌, map, length, take, drop, get_or, replicate, w8, refl, sym, ap, ap₂, ◌∙◌, ◌++◌, slice_range, inl, inr, arith, lit≤, add-zero}
use Rattle.std.specs.List.{count_by, drop-map, prefix_len, take-map}
use Rattle.std.specs.Int.Count.{count_trailing_zeros}
use Rattle.std.specs.Simd.Lanes.{chunk, mask_l, top, zip2}
use Rattle.std.proofs.Math.Arith.{mod-mul}
use Rattle.std.proofs.Math.Nat.{div-div-eq-div-mul, div-one, mod-one, pow-suc, pow-succ', zero-div, zero-mod}
use Rattle.std.proofs.lemmas.Nat.{and_mask, one_shl, pow_pos}
use Rattle.std.proofs.lemmas.Bool.{cases_lt, not-false, not-true, cases_Bool, false_from_ne_true}
use Rattle.std.proofs.lemmas.Bool.Decides.{nat_tests}
use Rattle.std.proofs.lemmas.Simd.{get_or-chunk, leading_from_mask_l, length-chunk, map-map, mask_l-mod, trailing_mask_l, tops_compared, zip2_of_maps, zip2_splat, zip2_splat_left}
use Rattle.std.proofs.lemmas.List.{drop-drop, get_or-drop, get_or_append_left, get_or_push, length-drop, length-map, length-take-le, length_push, take-take, take_all}
use Rattle.std.proofs.lemmas.List.Sums.{prefix_len-le-length, prefix_len_passes, prefix_len_stops, sum_by-cons, sum_by-le-sum_by, get_or-le-sum_by, count_by_more_yes, count_by_more_no}
use Rattle.rast_document.specs.declared.encoding.Encoding.{Encoding}
use Rattle.rast_document.specs.declared.encoding.Encoding.TheVariants.{Utf8, Utf16, Utf32}
use Rattle.rast_document.specs.Indexed.{AreMarks, is_from, is_byte}
use Rattle.rast_document.specs.Lines.{is_line_break, ends_line, starts_to}
use Rattle.rast_document.specs.Units.{units, units_of_byte}
use Rattle.rast_document.proofs.UnitLemmas.{units_range}
use Rattle.rast_document.proofs.LineLemmas.{ends_more, starts_open}

-- the bits of a test of each lane against one byte
pub from_mask : (least : ℕ) (xs : List ℕ) → length xs ≡ 64 →
    mask_l (map (top 7) (zip2 (λ a b. cond (leb a b) 255 0) (replicate 64 least) xs)) % 2 ^ 64 ≡ mask_l (map (is_from least) xs)
from_mask least xs long =
    ap (λ (ms : List Bool). mask_l ms % 2 ^ 64) (tops_compared w8 leb (replicate 64 least) xs ∙ zip2_splat_left leb least 64 xs long)
    ∙ mask_l-mod (map (is_from least) xs) 64 (omega (arith, length-map xs (is_from least), long))

same_map : (f g : ℕ → Bool) → ((x : ℕ) → f x ≡ g x) → (xs : List ℕ) → map f xs ≡ map g xs
same_map f g same [] = refl
same_map f g same (x ∷ xs) = ap₂ (λ (b : Bool) (bs : List Bool). b ∷ bs) (same x) (same_map f g same xs)

-- and of a test against either of two
abbrev either : ℕ → ℕ
either x = bit_or (cond (eqb x 10) 255 0) (cond (eqb x 13) 255 0)

either_cases : (a b : Bool) → top 7 (bit_or (cond a 255 0) (cond b 255 0)) ≡ (a || b)
either_cases true true = refl
either_cases true false = refl
either_cases false true = refl
either_cases false false = refl

pub break_mask : (xs : List ℕ) → length xs ≡ 64 →
    mask_l (map (top 7) (zip2 bit_or (zip2 (λ a b. cond (eqb a b) 255 0) xs (replicate 64 10)) (zip2 (λ a b. cond (eqb a b) 255 0) xs (replicate 64 13)))) % 2 ^ 64
    ≡ mask_l (map is_line_break xs)
break_mask xs long =
    let equal : ℕ → ℕ → ℕ = λ a b. cond (eqb a b) 255 0 in
    let lanes = zip2_of_maps bit_or (λ x. equal x 10) (λ x. equal x 13) xs (zip2_splat equal xs 64 10 long) (zip2_splat equal xs 64 13 long) in
    let tops : map (top 7) (map either xs) ≡ map is_line_break xs =
    map-map (top 7) either xs ∙ same_map (λ x. top 7 (either x)) is_line_break (λ x. either_cases (eqb x 10) (eqb x 13)) xs in
    ap (λ (zs : List ℕ). mask_l (map (top 7) zs) % 2 ^ 64) lanes
    ∙ (ap (λ (ms : List Bool). mask_l ms % 2 ^ 64) tops ∙ mask_l-mod (map is_line_break xs) 64 (omega (arith, length-map xs is_line_break, long)))

-- the units of bytes, by how many are from three of them on
character_of : (b : ℕ) → units_of_byte Utf32 b + cond (is_from 128 b) 1 0 ≡ 1 + cond (is_from 192 b) 1 0
character_of b = grind (arith, nat_tests)

pub characters_by : (xs : List ℕ) → units Utf32 xs + count_by (is_from 128) xs ≡ length xs + count_by (is_from 192) xs
characters_by [] = refl
characters_by (x ∷ xs) = omega (
  arith,
  sum_by-cons (units_of_byte Utf32) x xs,
  sum_by-cons (λ b. cond (is_from 128 b) 1 0) x xs,
  sum_by-cons (λ b. cond (is_from 192 b) 1 0) x xs,
  character_of x,
  characters_by xs,
)

code_units_of : (b : ℕ) → units_of_byte Utf16 b + cond (is_from 128 b) 1 0 ≡ 1 + cond (is_from 192 b) 1 0 + cond (is_from 240 b) 1 0
code_units_of b = grind (arith, nat_tests)

pub code_units_by : (xs : List ℕ) → units Utf16 xs + count_by (is_from 128) xs ≡ length xs + count_by (is_from 192) xs + count_by (is_from 240) xs
code_units_by [] = refl
code_units_by (x ∷ xs) = omega (
  arith,
  sum_by-cons (units_of_byte Utf16) x xs,
  sum_by-cons (λ b. cond (is_from 128 b) 1 0) x xs,
  sum_by-cons (λ b. cond (is_from 192 b) 1 0) x xs,
  sum_by-cons (λ b. cond (is_from 240 b) 1 0) x xs,
  code_units_of x,
  code_units_by xs,
)

pub bytes_by : (xs : List ℕ) → units Utf8 xs ≡ length xs
bytes_by [] = refl
bytes_by (x ∷ xs) = omega (arith, sum_by-cons (units_of_byte Utf8) x xs, bytes_by xs)

from_order : (a b x : ℕ) → a ≤ b → cond (is_from b x) 1 0 ≤ cond (is_from a x) 1 0
from_order a b x h = grind (arith, nat_tests)

-- the fewer, the greater the byte
pub fewer_from : (a b : ℕ) (xs : List ℕ) → a ≤ b → count_by (is_from b) xs ≤ count_by (is_from a) xs
fewer_from a b xs h = sum_by-le-sum_by (λ x. cond (is_from b x) 1 0) (λ x. cond (is_from a x) 1 0) xs (λ x. from_order a b x h)

-- the bits of the lanes after some
one_fewer : (b : Bool) (ms : List Bool) → mask_l (b ∷ ms) / 2 ≡ mask_l ms
one_fewer true ms = omega arith
one_fewer false ms = omega arith

mask_drop : (ms : List Bool) (k : ℕ) → mask_l ms / 2 ^ k ≡ mask_l (drop k ms)
mask_drop ms zero = div-one (mask_l ms)
mask_drop [] (suc k) = zero-div (2 ^ suc k)
mask_drop (b ∷ ms) (suc k) =
    ap (λ n. mask_l (b ∷ ms) / n) (pow-succ' 2 k)
    ∙ (sym (div-div-eq-div-mul (mask_l (b ∷ ms)) 2 (2 ^ k)) ∙ (ap (λ n. n / 2 ^ k) (one_fewer b ms) ∙ mask_drop ms k))

-- the bits of the first lanes
odd_by : (b : Bool) (ms : List Bool) → mask_l (b ∷ ms) % 2 ≡ cond b 1 0
odd_by true ms = omega arith
odd_by false ms = omega arith

mask_take : (ms : List Bool) (k : ℕ) → mask_l ms % 2 ^ k ≡ mask_l (take k ms)
mask_take ms zero = mod-one (mask_l ms)
mask_take [] (suc k) = zero-mod (2 ^ suc k)
mask_take (b ∷ ms) (suc k) =
    ap (λ n. mask_l (b ∷ ms) % n) (pow-suc 2 k)
    ∙ (mod-mul (mask_l (b ∷ ms)) {m = 2 ^ k} {c = 2} (pow_pos k) (omega arith)
    ∙ omega (arith, ap (λ n. n % 2 ^ k) (one_fewer b ms), odd_by b ms, mask_take ms k))

pub first_mask : (p : ℕ → Bool) (xs : List ℕ) (k : ℕ) → k < 64 → bit_and (mask_l (map p xs)) (1 * 2 ^ k % 2 ^ 64 - 1) ≡ mask_l (map p (take k xs))
first_mask p xs k few =
    ap (λ n. bit_and (mask_l (map p xs)) (n - 1)) (one_shl k 64 few)
    ∙ (and_mask (mask_l (map p xs)) k ∙ (mask_take (map p xs) k ∙ ap mask_l (take-map p k xs)))

pub mask_later : (p : ℕ → Bool) (xs : List ℕ) (k : ℕ) → mask_l (map p xs) / 2 ^ k / 2 ≡ mask_l (map p (drop (k + 1) xs))
mask_later p xs k =
    div-div-eq-div-mul (mask_l (map p xs)) (2 ^ k) 2
    ∙ (ap (λ n. mask_l (map p xs) / n) (sym (pow-suc 2 k) ∙ ap (λ j. 2 ^ j) (omega arith))
    ∙ (mask_drop (map p xs) (k + 1) ∙ ap mask_l (drop-map p (k + 1) xs)))

-- where a bit is set some lane passes
none_passes : (p : ℕ → Bool) (xs : List ℕ) → prefix_len (λ x. not (p x)) xs ≡ length xs → mask_l (map p xs) ≡ 0
none_passes p [] h = refl
none_passes p (x ∷ xs) h = elim (p x) as (λ b. cond (not b) (1 + prefix_len (λ y. not (p y)) xs) 0 ≡ suc (length xs) → cond b 1 0 + 2 * mask_l (map p xs) ≡ 0) [
  | true ↦ λ e. absurd (omega (arith, e))
  | false ↦ λ e. omega (arith, none_passes p xs (omega (arith, e)))
] h

-- What is left of a block's breaks, from an offset in it on: the lowest bit leads to the next one.
pub record IsNextBreak (s : List ℕ) (at from left : ℕ) : Type 0 where
  pub inside : from + count_trailing_zeros 64 left < at + 64
  pub none : (i : ℕ) → from ≤ i → i < from + count_trailing_zeros 64 left → is_line_break (get_or s i 0) ≡ false
  pub here : is_line_break (get_or s (from + count_trailing_zeros 64 left) 0) ≡ true
  pub rest : left / 2 ^ count_trailing_zeros 64 left / 2 ≡ mask_l (map is_line_break (drop (from + count_trailing_zeros 64 left + 1 - at) (chunk at 64 s)))

-- a byte of the rest of a block
in_rest : (s : List ℕ) (at from i : ℕ) → at ≤ from → from ≤ i → i < at + 64 → get_or (drop (from - at) (chunk at 64 s)) (i - from) 0 ≡ get_or s i 0
in_rest s at from i low high within =
    get_or-drop (from - at) (chunk at 64 s) (i - from) 0
    ∙ (get_or-chunk at 64 s (from - at + (i - from)) 0 (omega arith) ∙ ap {B = ℕ} (λ j. get_or s j 0) (omega arith))

long_rest : (s : List ℕ) (at from : ℕ) → at + 64 ≤ length s → at ≤ from → from ≤ at + 64 → from + length (drop (from - at) (chunk at 64 s)) ≡ at + 64
long_rest s at from within low high = omega (arith, length-drop (from - at) (chunk at 64 s), length-chunk at 64 s within)

-- the bytes that no bit points at are no breaks
passed_rest : (s : List ℕ) (at from k : ℕ) → at + 64 ≤ length s → at ≤ from → from ≤ at + 64 →
    k ≤ prefix_len (λ x. not (is_line_break x)) (drop (from - at) (chunk at 64 s)) → (i : ℕ) → from ≤ i → i < from + k → is_line_break (get_or s i 0) ≡ false
passed_rest s at from k within low high few i after before =
    let xs = drop (from - at) (chunk at 64 s) in
    let bound = prefix_len-le-length (λ x. not (is_line_break x)) xs in
    let byte = in_rest s at from i low after (omega (arith, bound, long_rest s at from within low high)) in
    ap is_line_break (sym byte) ∙ not-true _ (prefix_len_passes (λ x. not (is_line_break x)) xs (i - from) 0 (omega arith))

pub next_break : (s : List ℕ) (at from left : ℕ) → at + 64 ≤ length s → at ≤ from → from ≤ at + 64 →
    left ≡ mask_l (map is_line_break (drop (from - at) (chunk at 64 s))) → left ≢ 0 → IsNextBreak s at from left
next_break s at from left within low high same some =
    let xs = drop (from - at) (chunk at 64 s) in
    let long = long_rest s at from within low high in
    let there : 0 < mask_l (map is_line_break xs) = omega arith in
    let found : count_trailing_zeros 64 left ≡ prefix_len (λ x. not (is_line_break x)) xs =
    ap (count_trailing_zeros 64) same ∙ trailing_mask_l is_line_break 64 xs (omega arith) there in
    let fewer : prefix_len (λ x. not (is_line_break x)) xs ≢ length xs = λ h. omega (arith, none_passes is_line_break xs h) in
    let bound = prefix_len-le-length (λ x. not (is_line_break x)) xs in
    let inside : from + count_trailing_zeros 64 left < at + 64 = omega (arith, found, long, fewer, bound) in
    record {
      inside = inside;
      none = passed_rest s at from (count_trailing_zeros 64 left) within low high (omega (arith, found));
      here =
          let byte = in_rest s at from (from + count_trailing_zeros 64 left) low (omega arith) inside in
          let place : from + count_trailing_zeros 64 left - from ≡ prefix_len (λ x. not (is_line_break x)) xs = omega (arith, found) in
          ap is_line_break (sym byte ∙ ap (λ j. get_or xs j 0) place)
          ∙ not-false _ (prefix_len_stops (λ x. not (is_line_break x)) xs 0 (omega (arith, fewer, bound)));
      rest = ap (λ n. n / 2 ^ count_trailing_zeros 64 left / 2) same
          ∙ (mask_later is_line_break xs (count_trailing_zeros 64 left)
          ∙ ap (λ ys. mask_l (map is_line_break ys)) (drop-drop (count_trailing_zeros 64 left + 1) (from - at) (chunk at 64 s)
          ∙ ap (λ j. drop j (chunk at 64 s)) (omega (arith, low))));
    }

pub last_break : (s : List ℕ) (at from left : ℕ) → at + 64 ≤ length s → at ≤ from → from ≤ at + 64 →
    left ≡ mask_l (map is_line_break (drop (from - at) (chunk at 64 s))) → left ≡ 0 → (i : ℕ) → from ≤ i → i < at + 64 → is_line_break (get_or s i 0) ≡ false
last_break s at from left within low high same none i after before =
    let xs = drop (from - at) (chunk at 64 s) in
    let long = long_rest s at from within low high in
    let whole = leading_from_mask_l is_line_break xs (sym same ∙ none) in
    passed_rest s at from (length xs) within low high (omega (arith, whole)) i after (omega (arith, long))

-- the same of a whole block
whole_rest : (s : List ℕ) (at left : ℕ) → left ≡ mask_l (map is_line_break (chunk at 64 s)) → left ≡ mask_l (map is_line_break (drop (at - at) (chunk at 64 s)))
whole_rest s at left same = let none : 0 ≡ at - at = omega arith in same ∙ ap (λ n. mask_l (map is_line_break (drop n (chunk at 64 s)))) none

pub first_break : (s : List ℕ) (at left : ℕ) → at + 64 ≤ length s → left ≡ mask_l (map is_line_break (chunk at 64 s)) → left ≢ 0 → IsNextBreak s at at left
first_break s at left within same some = next_break s at at left within (omega arith) (omega arith) (whole_rest s at left same) some

pub no_break_in : (s : List ℕ) (at left : ℕ) → at + 64 ≤ length s → left ≡ mask_l (map is_line_break (chunk at 64 s)) → left ≡ 0 →
    (i : ℕ) → at ≤ i → i < at + 64 → is_line_break (get_or s i 0) ≡ false
no_break_in s at left within same none = last_break s at at left within (omega arith) (omega arith) (whole_rest s at left same) none

-- a block with no `\r` has the line ends that its `\n` make
uncounted : (p : ℕ → Bool) (xs : List ℕ) (k : ℕ) → k < length xs → count_by p xs ≡ 0 → p (get_or xs k 0) ≡ false
uncounted p xs k within none =
    let least : cond (p (get_or xs k 0)) 1 0 ≤ count_by p xs = get_or-le-sum_by (λ x. cond (p x) 1 0) xs k 0 within in
    false_from_ne_true (p (get_or xs k 0)) (λ e. omega (arith, least, none, ap {B = ℕ} (λ b. cond b 1 0) e))

feed_ends : (s : List ℕ) (i : ℕ) → is_byte 13 (get_or s i 0) ≡ false → ends_line s i ≡ is_byte 10 (get_or s i 0)
feed_ends s i h = grind (arith, nat_tests)

feeds_to : (s : List ℕ) (at k : ℕ) → at + 64 ≤ length s → count_by (is_byte 13) (chunk at 64 s) ≡ 0 → k ≤ 64 →
    length (starts_to s (at + k)) ≡ length (starts_to s at) + count_by (is_byte 10) (take k (chunk at 64 s))
feeds_to s at zero within none few = omega (arith, ap {B = ℕ} (λ n. length (starts_to s n)) (add-zero at))
feeds_to s at (suc k) within none few =
    let xs = chunk at 64 s in
    let before = feeds_to s at k within none (omega arith) in
    let some : k < length xs = omega (arith, length-chunk at 64 s within) in
    let byte : get_or xs k 0 ≡ get_or s (at + k) 0 = get_or-chunk at 64 s k 0 (omega arith) in
    let ended = feed_ends s (at + k) (ap (is_byte 13) (sym byte) ∙ uncounted (is_byte 13) xs k some none) ∙ ap (is_byte 10) (sym byte) in
    let here : at + suc k ≡ at + k + 1 = omega arith in
    let next : suc k ≡ k + 1 = omega arith in
    let ends : length (starts_to s (at + suc k)) ≡ length (starts_to s (at + k + 1)) = ap (λ n. length (starts_to s n)) here in
    let counts : count_by (is_byte 10) (take (suc k) xs) ≡ count_by (is_byte 10) (take (k + 1) xs) = ap (λ n. count_by (is_byte 10) (take n xs)) next in
    elim (cases_Bool (is_byte 10 (get_or xs k 0))) [
      | inl b ↦ omega (arith, before, ends, counts, ends_more s (at + k) (ended ∙ b), count_by_more_yes (is_byte 10) xs k 0 some b)
      | inr b ↦ omega (arith, before, ends, counts, ap length (starts_open s (at + k) (ended ∙ b)), count_by_more_no (is_byte 10) xs k 0 some b)
    ]

pub feeds_end : (s : List ℕ) (at : ℕ) → at + 64 ≤ length s → count_by (is_byte 13) (chunk at 64 s) ≡ 0 →
    length (starts_to s (at + 64)) ≡ length (starts_to s at) + count_by (is_byte 10) (chunk at 64 s)
feeds_end s at within none =
    feeds_to s at 64 within none (lit≤ tt) ∙ ap (λ ys. length (starts_to s at) + count_by (is_byte 10) ys) (take_all 64 (chunk at 64 s) (omega (arith, length-chunk at 64 s within)))

-- units up to the end of a block
pub units_chunk : (e : Encoding) (s : List ℕ) (a : ℕ) → units e (take a s) + units e (chunk a 64 s) ≡ units e (take (a + 64) s)
units_chunk e s a =
    let same : a + 64 - a ≡ 64 = omega arith in
    let part : units e (slice_range s a (a + 64)) ≡ units e (chunk a 64 s) = ap (λ n. units e (take n (drop a s))) same in
    omega (arith, part, units_range e s a (a + 64) (omega arith))

-- units up to an offset in a block, or at its end
pub units_of_part : (e : Encoding) (s : List ℕ) (a b : ℕ) → a ≤ b → b ≤ a + 64 → units e (take a s) + units e (take (b - a) (chunk a 64 s)) ≡ units e (take b s)
units_of_part e s a b rising few =
    let part : units e (take (b - a) (chunk a 64 s)) ≡ units e (slice_range s a b) = ap (units e) (take-take (b - a) 64 (drop a s) (omega arith)) in
    omega (arith, part, units_range e s a b rising)

pub length_of_first : (s : List ℕ) (a k : ℕ) → a + 64 ≤ length s → k < 64 → length (take k (chunk a 64 s)) ≡ k
length_of_first s a k within few = length-take-le k (chunk a 64 s) (omega (arith, length-chunk a 64 s within))

-- marks, one step further
pub marks_step : (e : Encoding) (s marks : List ℕ) (b n : ℕ) → AreMarks e s (b * 256) marks → n ≡ units e (take ((b + 1) * 256) s) →
    AreMarks e s ((b + 1) * 256) (marks ++ n ∷ [])
marks_step e s marks b n are same = record {
  count = omega (arith, are.count, length_push marks n);
  each = λ k h.
      elim (cases_lt k (length marks)) [
        | inl x ↦ get_or_append_left marks (n ∷ []) 0 k x ∙ are.each k (omega (arith, are.count))
        | inr x ↦ let here : b + 1 ≡ k = omega (arith, are.count) in
            get_or_push marks n 0 k (omega (arith, are.count)) ∙ (same ∙ ap (λ j. units e (take (j * 256) s)) here)
      ];
}
