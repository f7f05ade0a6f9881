-- What was written is read.
use Rattle.std.proofs.Common.{◌≡◌, ◌≢◌, ℕ, zero, suc, ◌+◌, ◌-◌, ◌^◌, ◌<◌, ◌≤◌, ◌⊎◌, Bool, true, false, not, ◌&&◌, ◌==◌, List, [], ◌∷◌, ◌++◌, Result, Ok, length, get_or, take, drop, codes, slice_range, sym, ap, ◌∙◌, refl, subst, inl, inr, arith, append_assoc, lit<}
use Rattle.std.proofs.Math.Seq.{drop-append-add, drop-append_seam, take-append_seam}
use Rattle.std.proofs.lemmas.Bool.{cases_lt, false≢true}
use Rattle.std.proofs.lemmas.Bool.Decides.{nat_tests}
use Rattle.std.proofs.lemmas.Fmt.{decimal_is_IsNumeral, decimal_nonempty, length-decimal-le}
use Rattle.std.proofs.lemmas.List.{get_or_append_left, get_or-append-add, get_or-append_right, get_or_past, length-append, length-take-le, take_all, take-append-le}
use Rattle.std.proofs.lemmas.Str.Parse.{digit_at}
use Rattle.std.specs.Char.{is_ascii_whitespace}
use Rattle.std.specs.Fmt.{decimal}
use Rattle.std.specs.List.{All}
use Rattle.std.specs.Str.{IsTrimAscii}
use Rattle.std.specs.Str.Parse.{AllDigits, IsNumeral, digits_value}
use Rattle.rast_frames.specs.Fronts.{Fronts, IsHeader, IsMessage}
use Rattle.rast_frames.specs.Header.{HasNoField, IsFirstEnd, IsFirstField, IsLength, IsLengthField, IsLineEnd, IsValue, Says, ends_header}
use Rattle.rast_frames.specs.Reading.{Reads, frame, frames, header}
use Rattle.rast_frames.specs.Reading.Reads.{none, next}
use Rattle.rast_frames.specs.declared.front.Front.{Front}
use Rattle.rast_frames.specs.declared.front.Front.TheVariants.{Message}
use Rattle.rast_frames.specs.declared.header.HeaderFault.{HeaderFault}
use Rattle.rast_frames.specs.declared.header.TheConstants.{MAX_HEADER, MAX_STATED}

-- the field as it is written
abbrev field : ℕ → List ℕ
field n = codes "Content-Length: " ++ decimal n

small : (n : ℕ) → n < MAX_STATED → n < 2 ^ 64
small n h = omega arith

digit_not_return : (n : ℕ) → n < MAX_STATED → (k : ℕ) → get_or (decimal n) k 0 ≢ 13
digit_not_return n h k e =
    elim (cases_lt k (length (decimal n))) [
      | inl below ↦ let digit = digit_at (decimal n) k (decimal_is_IsNumeral n (small n h)).0.1 below in omega (arith, digit.0)
      | inr past ↦ omega (arith, get_or_past (decimal n) k 0 past)
    ]

and_right : (a b : Bool) → (a && b) ≡ true → b ≡ true
and_right true b h = h
and_right false b h = cc h

abbrev no_return : List ℕ → Bool
no_return [] = true
no_return (x ∷ xs) = not (x == 13) && no_return xs

not_there : (xs : List ℕ) → no_return xs ≡ true → (k : ℕ) → get_or xs k 0 ≢ 13
not_there [] h k e = omega arith
not_there (x ∷ xs) h zero e = grind (arith, nat_tests, h, e)
not_there (x ∷ xs) h (suc k) e = not_there xs (and_right (not (x == 13)) (no_return xs) h) k e

name_not_return : (k : ℕ) → get_or (codes "Content-Length: ") k 0 ≢ 13
name_not_return k e = not_there (codes "Content-Length: ") refl k e

pub field_not_return : (n : ℕ) → n < MAX_STATED → (k : ℕ) → get_or (field n) k 0 ≢ 13
field_not_return n h k e =
    elim (cases_lt k 16) [
      | inl below ↦ name_not_return k (sym (get_or_append_left (codes "Content-Length: ") (decimal n) 0 k below) ∙ e)
      | inr past ↦ digit_not_return n h (k - 16) (sym (get_or-append_right (codes "Content-Length: ") (decimal n) 16 k 0 refl past) ∙ e)
    ]

-- what the field says
in_value : (n : ℕ) → n < MAX_STATED → (k : ℕ) → k < length (decimal n) → is_ascii_whitespace (get_or (decimal n) k 0) ≡ false
in_value n h k below =
    let digit = digit_at (decimal n) k (decimal_is_IsNumeral n (small n h)).0.1 below in
    grind (arith, nat_tests, digit.0, digit.1)

trimmed : (n : ℕ) → n < MAX_STATED → IsTrimAscii (32 ∷ decimal n) (decimal n)
trimmed n h =
    let some = decimal_nonempty n (small n h) in (
      1,
      sym (take_all (length (decimal n)) (decimal n) (omega arith)),
      λ i below. let e : i ≡ 0 = omega arith in ap (λ (k : ℕ). is_ascii_whitespace (get_or (32 ∷ decimal n) k 0)) e,
      λ within. in_value n h 0 some,
      λ i late within. absurd (omega arith),
      λ longer. in_value n h (length (decimal n) - 1) (omega arith),
    )

length_field_at : (n : ℕ) → n < MAX_STATED → (k : ℕ) → 1 ≤ k → IsLengthField (field n) k → ⊥
length_field_at n h k later f =
    elim f.begins [
      | inl start ↦ omega arith
      | inr after ↦ field_not_return n h (k - 2) after.1
    ]

value : (n : ℕ) → n < MAX_STATED → IsValue (field n) (decimal n)
value n h =
    let long : length (field n) ≡ 16 + length (decimal n) = length-append (codes "Content-Length: ") (decimal n) in
    let all : take (length (field n) - 15) (32 ∷ decimal n) ≡ 32 ∷ decimal n = take_all (length (field n) - 15) (32 ∷ decimal n) (omega (arith, long)) in
    record {
      field = 0;
      end = length (field n);
      first = record { later = omega arith; field = record { begins = inl refl; name = refl }; first = λ k from below. absurd (omega arith) };
      only = λ k later f. length_field_at n h k later f;
      line = record {
        later = omega (arith, long);
        within = omega arith;
        ends = λ below. absurd (omega arith);
        first = λ k from below stop. field_not_return n h k stop.0;
      };
      trimmed = subst (λ (x : List ℕ). IsTrimAscii x (decimal n)) (sym all) (trimmed n h);
    }

pub says : (n : ℕ) → n < MAX_STATED → Says (field n) (Ok n)
says n h =
    let own = decimal_is_IsNumeral n (small n h) in
    (decimal n, value n h, ((own.0, omega (arith, own.1)), sym own.1))

-- where the header ends
abbrev ending : List ℕ
ending = 13 ∷ 10 ∷ 13 ∷ 10 ∷ []

ends_by : (s : List ℕ) (i : ℕ) → get_or s i 0 ≡ 13 → get_or s (i + 1) 0 ≡ 10 → get_or s (i + 2) 0 ≡ 13 → get_or s (i + 3) 0 ≡ 10 → ends_header s i ≡ true
ends_by s i a b c d = rw (a, b, c, d)

fails_by : (s : List ℕ) (i : ℕ) → get_or s i 0 ≢ 13 → ends_header s i ≡ false
fails_by s i h = grind (arith, nat_tests, h)

front_ends : (first rest : List ℕ) → ((k : ℕ) → get_or first k 0 ≢ 13) → length first ≤ MAX_HEADER → IsFirstEnd (first ++ (ending ++ rest)) (length first)
front_ends first rest plain few =
    let after = ending ++ rest in
    let a = get_or-append-add first after 0 0 in
    let b = get_or-append-add first after 1 0 in
    let c = get_or-append-add first after 2 0 in
    let d = get_or-append-add first after 3 0 in
    let e : length first + 0 ≡ length first = omega arith in
    let at = subst (λ (k : ℕ). get_or (first ++ after) k 0 ≡ 13) e a in
    record {
      within = few;
      ends = ends_by (first ++ after) (length first) at b c d;
      first = λ k below. fails_by (first ++ after) k (λ h. plain k (sym (get_or_append_left first after 0 k below) ∙ h));
    }

abbrev pub stream : List ℕ → List ℕ → List ℕ → List ℕ
stream first m rest = first ++ (ending ++ (m ++ rest))

message : (limit : ℕ) (first m rest : List ℕ) → ((k : ℕ) → get_or first k 0 ≢ 13) → length first ≤ MAX_HEADER → Says first (Ok (length m)) → length m ≤ limit
    → IsMessage limit (stream first m rest) (length first + 4) (length first + 4 + length m)
message limit first m rest plain few said fits =
    let front : take (length first) (stream first m rest) ≡ first = take-append_seam first (ending ++ (m ++ rest)) in
    record {
      long = length m;
      header = record {
        end = length first;
        first = front_ends first (m ++ rest) plain few;
        start_is = refl;
        says = subst (λ (x : List ℕ). Says x (Ok (length m))) (sym front) said;
      };
      small = fits;
      end_is = refl;
      within = omega (arith, length-append first (ending ++ (m ++ rest)), length-append ending (m ++ rest), length-append m rest);
    }

content : (first m rest : List ℕ) → slice_range (stream first m rest) (length first + 4) (length first + 4 + length m) ≡ m
content first m rest =
    let count : length first + 4 + length m - (length first + 4) ≡ length m = omega arith in
    let behind : drop (length first + 4) (stream first m rest) ≡ m ++ rest = drop-append-add first (ending ++ (m ++ rest)) 4 in
    rw (count, behind) (take-append_seam m rest)

left : (first m rest : List ℕ) → drop (length first + 4 + length m) (stream first m rest) ≡ rest
left first m rest =
    let count : length first + 4 + length m ≡ length first + (4 + length m) = omega arith in
    rw (count, drop-append-add first (ending ++ (m ++ rest)) (4 + length m), drop-append-add ending (m ++ rest) (length m)) (drop-append_seam m rest)

header_is : (n : ℕ) → header n ≡ field n ++ ending
unfolding header
header_is n = refl

framed : (m rest : List ℕ) → frame m ++ rest ≡ stream (field (length m)) m rest
framed m rest =
    ap (λ (h : List ℕ). h ++ m ++ rest) (header_is (length m))
    ∙ (append_assoc (field (length m) ++ ending) m rest ∙ append_assoc (field (length m)) ending (m ++ rest))

written : (limit : ℕ) (m rest : List ℕ) → length m ≤ limit → length m < MAX_STATED
    → IsMessage limit (stream (field (length m)) m rest) (length (field (length m)) + 4) (length (field (length m)) + 4 + length m)
written limit m rest fits h =
    let n = length m in
    let long : length (field n) ≡ 16 + length (decimal n) = length-append (codes "Content-Length: ") (decimal n) in
    let few = length-decimal-le 15 n (omega arith) (omega arith) (small n h) in
    message limit (field n) m rest (field_not_return n h) (omega (arith, long, few)) (says n h) fits

pub reads : (limit : ℕ) (ms : List (List ℕ)) (rest : List ℕ) → All (λ m. (length m ≤ limit) × (length m < MAX_STATED)) ms → Reads limit (frames ms ++ rest) ms rest
reads limit [] rest h = none rest
reads limit (m ∷ ms) rest h =
    let first = field (length m) in
    let first_fits : (length m ≤ limit) × (length m < MAX_STATED) = h 0 [] (omega arith) in
    let others = frames ms ++ rest in
    let whole : frames (m ∷ ms) ++ rest ≡ stream first m others = append_assoc (frame m) (frames ms) rest ∙ framed m others in
    let start = length first + 4 in
    let later = subst (λ (x : List ℕ). Reads limit x ms rest) (sym (left first m others)) (reads limit ms rest (λ k d below. h (suc k) d (omega arith))) in
    let both = next (stream first m others) start (start + length m) ms rest (written limit m others first_fits.0 first_fits.1) later in
    subst (λ (x : List ℕ). Reads limit x (m ∷ ms) rest) (sym whole)
    (subst (λ (c : List ℕ). Reads limit (stream first m others) (c ∷ ms) rest) (content first m others) both)
