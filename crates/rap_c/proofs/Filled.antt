-- What the caller's room holds after the items.
use Rattle.std.proofs.Common.{◌≡◌, ℕ, suc, ◌+◌, ◌^◌, ◌≤◌, ◌<◌, List, [], ◌∷◌, ◌++◌, length, refl, ap, sym, ◌∙◌, inl, inr, arith, add-zero, add_assoc, length-append, length-set, add-one}
use Rattle.std.proofs.lemmas.Bool.{cases_lt}
use Rattle.std.proofs.lemmas.List.{set_past}
use Rattle.std.specs.Prelude.{slice_set, if◌then◌else◌}
use Rattle.rap_c.specs.Item.{Item, enter, exit, token, split, message, remark, width_of, said_by, counted, row, rows, all_said}
use Rattle.rap_c.specs.Filling.{write_at, Filling, after, after_all}
use Rattle.rap_c.specs.declared.step.RapStep.{RapStep}
use Rattle.rap_c.proofs.Written.{write_at-nothing, write_at-past, write_at-length, write_at-set, write_at-twice}

-- The machine's numbers are the exact ones, saturated at 2^64 - 1.
pub record IsAt (f : Filling) (count said place : ℕ) : Type 0 where
  pub count_is : f.count ≡ counted count
  pub said_is : f.said ≡ counted said
  pub place_is : f.place ≡ counted place
  pub short_steps : length f.steps < 2 ^ 64
  pub short_messages : length f.messages < 2 ^ 64

further : (m n k : ℕ) → m ≡ counted n → counted (m + k) ≡ counted (n + k)
further m n k e = omega (arith, e)

again : (m n : ℕ) → m ≡ counted n → counted m ≡ counted n
again m n e = omega (arith, e)

abbrev border : ℕ → ℕ → ℕ → RapStep
border what kind at = record { what = what; kind = kind; at = at; start = at; end = at }

abbrev wide : ℕ → ℕ → ℕ → ℕ → RapStep
wide what kind at end = record { what = what; kind = kind; at = at; start = at; end = end }

abbrev message_step : ℕ → ℕ → ℕ → RapStep
message_step at start end = record { what = 3; kind = 0; at = at; start = start; end = end }

-- the step of an item is that of the exact numbers
row_at : (p q m n : ℕ) (x : Item) → p ≡ counted q → m ≡ counted n → row p m x ≡ row q n x
row_at p q m n (enter kind) e f = ap (λ a. border 0 kind a) (again p q e)
row_at p q m n exit e f = ap (λ a. border 1 0 a) (again p q e)
row_at p q m n (token kind width) e f = ap (λ a. wide 2 kind a (counted (p + width))) (again p q e) ∙ ap (λ b. wide 2 kind (counted q) b) (further p q width e)
row_at p q m n (split ends_in_dot) e f =
    ap (λ a. wide 4 (if ends_in_dot then 1 else 0) a (counted (p + 1))) (again p q e) ∙ ap (λ b. wide 4 (if ends_in_dot then 1 else 0) (counted q) b) (further p q 1 e)
row_at p q m n (message bytes at) e f =
    ap (λ a. message_step at a (counted (m + length bytes))) (again m n f) ∙ ap (λ b. message_step at (counted n) b) (further m n (length bytes) f)
row_at p q m n (remark bytes) e f =
    ap (λ a. message_step a (counted m) (counted (m + length bytes))) (again p q e)
    ∙ (ap (λ a. message_step (counted q) a (counted (m + length bytes))) (again m n f) ∙ ap (λ b. message_step (counted q) (counted n) b) (further m n (length bytes) f))

-- one item on
at_after : (f : Filling) (x : Item) (n m p : ℕ) → IsAt f n m p → IsAt (after f x) (suc n) (m + length (said_by x)) (p + width_of x)
at_after f x n m p h = record {
  count_is = further f.count n 1 h.count_is ∙ ap counted (add-one n);
  said_is = further f.said m (length (said_by x)) h.said_is;
  place_is = further f.place p (width_of x) h.place_is;
  short_steps = omega (arith, h.short_steps, length-set f.steps f.count (row f.place f.said x));
  short_messages = omega (arith, h.short_messages, write_at-length f.messages f.said (said_by x));
}

-- a place above 2^64 - 1 is after the end of the room
set_then : (s : List RapStep) (c n : ℕ) (y : RapStep) (ys : List RapStep) → c ≡ counted n → length s < 2 ^ 64 → write_at (slice_set s c y) (suc n) ys ≡ write_at s n (y ∷ ys)
set_then s c n y ys e short = elim (cases_lt n (2 ^ 64)) [
  | inl low ↦
      let same : c ≡ n = omega (arith, e, low) in
      ap (λ k. write_at (slice_set s k y) (suc n) ys) same ∙ write_at-set s n y ys
  | inr high ↦
      let past : length s ≤ n = omega (arith, short, high) in
      let c_past : length s ≤ c = omega (arith, e, short, high) in
      ap (λ l. write_at l (suc n) ys) (set_past s c y c_past)
      ∙ (write_at-past s (suc n) ys (omega (arith, past)) ∙ sym (write_at-past s n (y ∷ ys) past))
]

write_then : (b : List ℕ) (c m : ℕ) (us vs : List ℕ) → c ≡ counted m → length b < 2 ^ 64 → write_at (write_at b c us) (m + length us) vs ≡ write_at b m (us ++ vs)
write_then b c m us vs e short = elim (cases_lt m (2 ^ 64)) [
  | inl low ↦
      let same : c ≡ m = omega (arith, e, low) in
      ap (λ k. write_at (write_at b k us) (m + length us) vs) same ∙ write_at-twice b m (m + length us) us vs refl
  | inr high ↦
      let past : length b ≤ m = omega (arith, short, high) in
      let c_past : length b ≤ c = omega (arith, e, short, high) in
      ap (λ l. write_at l (m + length us) vs) (write_at-past b c us c_past)
      ∙ (write_at-past b (m + length us) vs (omega (arith, past)) ∙ sym (write_at-past b m (us ++ vs) past))
]

pub steps_along : (xs : List Item) (f : Filling) (n m p : ℕ) → IsAt f n m p → (after_all f xs).steps ≡ write_at f.steps n (rows p m xs)
steps_along [] f n m p h = sym (write_at-nothing f.steps n)
steps_along (x ∷ xs) f n m p h =
    steps_along xs (after f x) (suc n) (m + length (said_by x)) (p + width_of x) (at_after f x n m p h)
    ∙ (ap (λ r. write_at (slice_set f.steps f.count r) (suc n) (rows (p + width_of x) (m + length (said_by x)) xs)) (row_at f.place p f.said m x h.place_is h.said_is)
    ∙ set_then f.steps f.count n (row p m x) (rows (p + width_of x) (m + length (said_by x)) xs) h.count_is h.short_steps)

pub messages_along : (xs : List Item) (f : Filling) (n m p : ℕ) → IsAt f n m p → (after_all f xs).messages ≡ write_at f.messages m (all_said xs)
messages_along [] f n m p h = sym (write_at-nothing f.messages m)
messages_along (x ∷ xs) f n m p h =
    messages_along xs (after f x) (suc n) (m + length (said_by x)) (p + width_of x) (at_after f x n m p h)
    ∙ write_then f.messages f.said m (said_by x) (all_said xs) h.said_is h.short_messages

pub count_along : (xs : List Item) (f : Filling) (n m p : ℕ) → IsAt f n m p → (after_all f xs).count ≡ counted (n + length xs)
count_along [] f n m p h = h.count_is ∙ ap counted (sym (add-zero n))
count_along (x ∷ xs) f n m p h =
    count_along xs (after f x) (suc n) (m + length (said_by x)) (p + width_of x) (at_after f x n m p h) ∙ ap counted (omega arith)

pub said_along : (xs : List Item) (f : Filling) (n m p : ℕ) → IsAt f n m p → (after_all f xs).said ≡ counted (m + length (all_said xs))
said_along [] f n m p h = h.said_is ∙ ap counted (sym (add-zero m))
said_along (x ∷ xs) f n m p h =
    said_along xs (after f x) (suc n) (m + length (said_by x)) (p + width_of x) (at_after f x n m p h)
    ∙ ap counted (add_assoc m (length (said_by x)) (length (all_said xs)) ∙ ap (λ k. m + k) (sym (length-append (said_by x) (all_said xs))))

-- items after items
pub after_all-append : (f : Filling) (xs ys : List Item) → after_all f (xs ++ ys) ≡ after_all (after_all f xs) ys
after_all-append f [] ys = refl
after_all-append f (x ∷ xs) ys = after_all-append (after f x) xs ys
