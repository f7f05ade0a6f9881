-- Lines of a text.
use Rattle.std.proofs.Common.{◌≡◌, ◌≢◌, ◌⊎◌, ℕ, zero, suc, ◌+◌, ◌-◌, ◌<◌, ◌≤◌, true, false, not, cond, List, [], ◌∷◌, ◌++◌, length, drop, get_or, sym, ap, ◌∙◌, refl, subst, inl, inr, arith}
use Rattle.std.proofs.lemmas.Bool.{cases_lt, false≢true, false_from_ne_true}
use Rattle.std.proofs.lemmas.Bool.Decides.{nat_tests}
use Rattle.std.proofs.lemmas.List.{length_push, get_or_push, get_or_append_left, get_or-drop, get_or_past, get_or_read, length-drop}
use Rattle.std.proofs.lemmas.List.Sums.{position_or_len_is, fails_before_first, passes_at_first, prefix_len-le-length}
use Rattle.std.specs.List.{position_or_len}
use Rattle.rast_document.specs.Indexed.{IsLastStart, IsNextStart, IsPair, IsStart}
use Rattle.rast_document.specs.Lines.{ends_line, is_line_break, line_at, line_end, line_start, line_starts, starts_to}

-- one byte further a line begins, or none
abbrev Stepped : List ℕ → ℕ → Type 0
Stepped s n = ((ends_line s n ≡ true) × (starts_to s (suc n) ≡ starts_to s n ++ (n + 1) ∷ []))
    ⊎ ((ends_line s n ≡ false) × (starts_to s (suc n) ≡ starts_to s n))

pub stepped : (s : List ℕ) (n : ℕ) → Stepped s n
stepped s n =
    elim (ends_line s n) as (λ b. ((b ≡ true) × (cond b (starts_to s n ++ (n + 1) ∷ []) (starts_to s n) ≡ starts_to s n ++ (n + 1) ∷ []))
    ⊎ ((b ≡ false) × (cond b (starts_to s n ++ (n + 1) ∷ []) (starts_to s n) ≡ starts_to s n))) [
      | true ↦ inl (refl, refl)
      | false ↦ inr (refl, refl)
    ]

-- the list grows at its end alone
pub starts_some : (s : List ℕ) (n : ℕ) → 0 < length (starts_to s n)
starts_some s zero = omega arith
starts_some s (suc n) =
    elim (stepped s n) [ inl h ↦ omega (arith, ap length h.1, length_push (starts_to s n) (n + 1)) | inr h ↦ omega (arith, ap length h.1, starts_some s n) ]

pub starts_first : (s : List ℕ) (n : ℕ) → get_or (starts_to s n) 0 0 ≡ 0
starts_first s zero = refl
starts_first s (suc n) =
    elim (stepped s n) [ inl h ↦ ap (λ xs. get_or xs 0 0) h.1 ∙ (get_or_append_left (starts_to s n) ((n + 1) ∷ []) 0 0 (starts_some s n) ∙ starts_first s n) | inr h ↦ ap (λ xs. get_or xs 0 0) h.1 ∙ starts_first s n ]

pub first_start : (s : List ℕ) → IsStart s 0 0
first_start s = record { some = starts_some s (length s); here = sym (starts_first s (length s)) }

-- a start is at most the offset up to which it was looked for
pub starts_bound : (s : List ℕ) (n k : ℕ) → k < length (starts_to s n) → get_or (starts_to s n) k 0 ≤ n
starts_bound s zero k h = let first : k ≡ 0 = omega arith in omega (arith, ap {B = ℕ} (λ i. get_or (0 ∷ []) i 0) first)
starts_bound s (suc n) k h =
    elim (stepped s n) [
      | inl b ↦ let long = ap length b.1 ∙ length_push (starts_to s n) (n + 1) in
          let same = ap (λ xs. get_or xs k 0) b.1 in
          elim (cases_lt k (length (starts_to s n))) [ inl l ↦ omega (arith, same, get_or_append_left (starts_to s n) ((n + 1) ∷ []) 0 k l, starts_bound s n k l) | inr l ↦ omega (arith, same, get_or_push (starts_to s n) (n + 1) 0 k (omega (arith, long))) ]
      | inr b ↦ let same = ap (λ xs. get_or xs k 0) b.1 in
          omega (arith, same, starts_bound s n k (omega (arith, ap length b.1)))
    ]

-- those up to an offset stay where they are
pub starts_keep : (s : List ℕ) (n m k : ℕ) → k < length (starts_to s n) →
    (k < length (starts_to s (n + m))) × (get_or (starts_to s (n + m)) k 0 ≡ get_or (starts_to s n) k 0)
starts_keep s n zero k h = let e : n ≡ n + 0 = omega arith in
    subst (λ (j : ℕ). (k < length (starts_to s j)) × (get_or (starts_to s j) k 0 ≡ get_or (starts_to s n) k 0)) e (h, refl)
starts_keep s n (suc m) k h =
    let e : suc (n + m) ≡ n + suc m = omega arith in
    let ih = starts_keep s n m k h in
    subst (λ (j : ℕ). (k < length (starts_to s j)) × (get_or (starts_to s j) k 0 ≡ get_or (starts_to s n) k 0)) e
    (elim (stepped s (n + m)) [
      | inl b ↦ (
        omega (arith, ih.0, ap length b.1, length_push (starts_to s (n + m)) (n + m + 1)),
        ap (λ xs. get_or xs k 0) b.1 ∙ (get_or_append_left (starts_to s (n + m)) ((n + m + 1) ∷ []) 0 k ih.0 ∙ ih.1),
      )
      | inr b ↦ (omega (arith, ih.0, ap length b.1), ap (λ xs. get_or xs k 0) b.1 ∙ ih.1)
    ])

-- those after them are past it
pub starts_later : (s : List ℕ) (n m k : ℕ) → length (starts_to s n) ≤ k → k < length (starts_to s (n + m)) → n < get_or (starts_to s (n + m)) k 0
starts_later s n zero k h l = let e : n + 0 ≡ n = omega arith in absurd (omega (arith, ap (λ j. length (starts_to s j)) e))
starts_later s n (suc m) k h l =
    let e : suc (n + m) ≡ n + suc m = omega arith in
    let within : k < length (starts_to s (suc (n + m))) = subst (λ (j : ℕ). k < length (starts_to s j)) (sym e) l in
    subst (λ (j : ℕ). n < get_or (starts_to s j) k 0) e
    (elim (stepped s (n + m)) [
      | inl b ↦ let long = ap length b.1 ∙ length_push (starts_to s (n + m)) (n + m + 1) in
          let same = ap (λ xs. get_or xs k 0) b.1 in
          elim (cases_lt k (length (starts_to s (n + m)))) [ inl i ↦ omega (arith, same, get_or_append_left (starts_to s (n + m)) ((n + m + 1) ∷ []) 0 k i, starts_later s n m k h i) | inr i ↦ omega (arith, same, get_or_push (starts_to s (n + m)) (n + m + 1) 0 k (omega (arith, long))) ]
      | inr b ↦ let same = ap (λ xs. get_or xs k 0) b.1 in
          omega (arith, same, starts_later s n m k h (omega (arith, ap length b.1)))
    ])

-- the starts rise
pub starts_rise : (s : List ℕ) (n i j : ℕ) → i < j → j < length (starts_to s n) → get_or (starts_to s n) i 0 < get_or (starts_to s n) j 0
starts_rise s zero i j h l = absurd (omega arith)
starts_rise s (suc n) i j h l =
    elim (stepped s n) [
      | inl b ↦ let long = ap length b.1 ∙ length_push (starts_to s n) (n + 1) in
          let left = ap (λ xs. get_or xs i 0) b.1 ∙ get_or_append_left (starts_to s n) ((n + 1) ∷ []) 0 i (omega (arith, long)) in
          let right = ap (λ xs. get_or xs j 0) b.1 in
          elim (cases_lt j (length (starts_to s n))) [ inl k ↦ omega (arith, left, right, get_or_append_left (starts_to s n) ((n + 1) ∷ []) 0 j k, starts_rise s n i j h k) | inr k ↦ omega (arith, left, right, get_or_push (starts_to s n) (n + 1) 0 j (omega (arith, long)), starts_bound s n i (omega (arith, long))) ]
      | inr b ↦ omega (arith, ap (λ xs. get_or xs i 0) b.1, ap (λ xs. get_or xs j 0) b.1, starts_rise s n i j h (omega (arith, ap length b.1)))
    ]

-- each but the first is right after a line end
pub starts_ended : (s : List ℕ) (n k : ℕ) → 0 < k → k < length (starts_to s n) →
    (0 < get_or (starts_to s n) k 0) × (ends_line s (get_or (starts_to s n) k 0 - 1) ≡ true)
starts_ended s zero k h l = absurd (omega arith)
starts_ended s (suc n) k h l =
    let P : ℕ → Type 0 = λ x. (0 < x) × (ends_line s (x - 1) ≡ true) in
    elim (stepped s n) [
      | inl b ↦ let long = ap length b.1 ∙ length_push (starts_to s n) (n + 1) in
          elim (cases_lt k (length (starts_to s n))) [
            | inl i ↦ subst P (sym (ap (λ xs. get_or xs k 0) b.1 ∙ get_or_append_left (starts_to s n) ((n + 1) ∷ []) 0 k i)) (starts_ended s n k h i)
            | inr i ↦ let back : n ≡ n + 1 - 1 = omega arith in
                subst P (sym (ap (λ xs. get_or xs k 0) b.1 ∙ get_or_push (starts_to s n) (n + 1) 0 k (omega (arith, long))))
                (omega arith, subst (λ (j : ℕ). ends_line s j ≡ true) back b.0)
          ]
      | inr b ↦ subst P (sym (ap (λ xs. get_or xs k 0) b.1)) (starts_ended s n k h (omega (arith, ap length b.1)))
    ]

-- what holds up to an offset of the text, held against the whole text
pub whole_keep : (s : List ℕ) (n k : ℕ) → n ≤ length s → k < length (starts_to s n) →
    (k < length (line_starts s)) × (line_start s k ≡ get_or (starts_to s n) k 0)
whole_keep s n k within h =
    let e : n + (length s - n) ≡ length s = omega arith in
    subst (λ (j : ℕ). (k < length (starts_to s j)) × (get_or (starts_to s j) k 0 ≡ get_or (starts_to s n) k 0)) e (starts_keep s n (length s - n) k h)

pub whole_later : (s : List ℕ) (n k : ℕ) → n ≤ length s → length (starts_to s n) ≤ k → k < length (line_starts s) → n < line_start s k
whole_later s n k within h l =
    let e : n + (length s - n) ≡ length s = omega arith in
    subst (λ (j : ℕ). n < get_or (starts_to s j) k 0) e
    (starts_later s n (length s - n) k h (subst (λ (j : ℕ). k < length (starts_to s j)) (sym e) l))

-- after a line end a later line begins
pub record BeginsAfter (s : List ℕ) (i k : ℕ) : Type 0 where
  pub line : ℕ
  pub later : k < line
  pub within : line < length (line_starts s)
  pub start : line_start s line ≡ i + 1

pub begins_after : (s : List ℕ) (i k : ℕ) → i < length s → ends_line s i ≡ true → k < length (line_starts s) → line_start s k ≤ i → BeginsAfter s i k
begins_after s i k within ended l from =
    let step : starts_to s (suc i) ≡ starts_to s i ++ (i + 1) ∷ [] =
    elim (stepped s i) [ inl b ↦ b.1 | inr b ↦ absurd (false≢true (sym b.0 ∙ ended)) ] in
    let long : length (starts_to s (suc i)) ≡ length (starts_to s i) + 1 = ap length step ∙ length_push (starts_to s i) (i + 1) in
    let meant : get_or (starts_to s (suc i)) (length (starts_to s i)) 0 ≡ i + 1 =
    ap (λ xs. get_or xs (length (starts_to s i)) 0) step ∙ get_or_push (starts_to s i) (i + 1) 0 (length (starts_to s i)) refl in
    let kept = whole_keep s (suc i) (length (starts_to s i)) (omega arith) (omega (arith, long)) in
    record {
      line = length (starts_to s i);
      later = elim (cases_lt k (length (starts_to s i))) [ inl x ↦ x | inr x ↦ absurd (omega (arith, whole_later s i k (omega arith) x l)) ];
      within = kept.0;
      start = kept.1 ∙ meant;
    }

pub next_is : (s : List ℕ) (k : ℕ) → k + 1 < length (line_starts s) → IsNextStart s (line_start s k) (line_start s (k + 1))
next_is s k h =
    let ended = starts_ended s (length s) (k + 1) (omega arith) h in
    let bound = starts_bound s (length s) (k + 1) h in
    record {
      rising = starts_rise s (length s) k (k + 1) (omega arith) h;
      within = bound;
      ended = ended.1;
      whole = λ i from before. false_from_ne_true (ends_line s i) (λ e.
          let after = begins_after s i k (omega arith) e (omega arith) from in
          elim (cases_lt (k + 1) after.line) [
            | inl x ↦ omega (arith, starts_rise s (length s) (k + 1) after.line x after.within, after.start)
            | inr x ↦
                let same : after.line ≡ k + 1 = omega (arith, after.later) in
                omega (arith, after.start, ap (line_start s) same)
          ]);
    }

pub last_is : (s : List ℕ) (k : ℕ) → k + 1 ≡ length (line_starts s) → IsLastStart s (line_start s k)
last_is s k h =
    record {
      within = starts_bound s (length s) k (omega arith);
      whole = λ i from before. false_from_ne_true (ends_line s i) (λ e.
          let after = begins_after s i k before e (omega arith) from in
          omega (arith, after.later, after.within));
    }

-- the line of an offset is the one that begins at it or before, and whose next one begins after it
pub line_found : (s : List ℕ) (o k : ℕ) → o ≤ length s → k < length (line_starts s) → line_start s k ≤ o → (k + 1 < length (line_starts s) → o < line_start s (k + 1)) → line_at s o ≡ k
line_found s o k within h from next =
    let low : k < length (starts_to s o) =
    elim (cases_lt k (length (starts_to s o))) [ inl x ↦ x | inr x ↦ absurd (omega (arith, whole_later s o k within x h)) ] in
    let high : length (starts_to s o) ≤ k + 1 =
    elim (cases_lt (k + 1) (length (starts_to s o))) [
      | inl x ↦ let kept = whole_keep s o (k + 1) within x in
          absurd (omega (arith, next kept.0, kept.1, starts_bound s o (k + 1) x))
      | inr x ↦ x
    ] in
    omega arith

-- what the tests of one byte mean
pub ended_byte : (s : List ℕ) (i : ℕ) → ends_line s i ≡ true → (get_or s i 0 ≡ 10) ⊎ ((get_or s i 0 ≡ 13) × (get_or s (i + 1) 0 ≢ 10))
ended_byte s i h = grind (arith, nat_tests)

pub open_byte : (s : List ℕ) (i : ℕ) → ends_line s i ≡ false → (get_or s i 0 ≢ 10) × (get_or s i 0 ≡ 13 → get_or s (i + 1) 0 ≡ 10)
open_byte s i h = grind (arith, nat_tests)

pub is_break : (b : ℕ) → (b ≡ 10) ⊎ (b ≡ 13) → is_line_break b ≡ true
is_break b h = grind (arith, nat_tests)

pub no_break : (b : ℕ) → b ≢ 10 → b ≢ 13 → is_line_break b ≡ false
no_break b h k = grind (arith, nat_tests)

pub break_is : (b : ℕ) → is_line_break b ≡ true → (b ≡ 10) ⊎ (b ≡ 13)
break_is b h = grind (arith, nat_tests)

pub break_not : (b : ℕ) → is_line_break b ≡ false → (b ≢ 10) × (b ≢ 13)
break_not b h = grind (arith, nat_tests)

-- bytes that are no line breaks begin no line
no_end : (s : List ℕ) (i : ℕ) → is_line_break (get_or s i 0) ≡ false → ends_line s i ≡ false
no_end s i h = let bytes = break_not (get_or s i 0) h in grind (arith, nat_tests)

starts_pass : (s : List ℕ) (n k : ℕ) → ((i : ℕ) → n ≤ i → i < n + k → is_line_break (get_or s i 0) ≡ false) → starts_to s (n + k) ≡ starts_to s n
starts_pass s n zero none = ap (starts_to s) (omega arith)
starts_pass s n (suc k) none =
    let e : n + suc k ≡ suc (n + k) = omega arith in
    let here = no_end s (n + k) (none (n + k) (omega arith) (omega arith)) in
    ap (starts_to s) e
    ∙ (elim (stepped s (n + k)) [ inl b ↦ absurd (false≢true (sym here ∙ b.0)) | inr b ↦ b.1 ]
    ∙ starts_pass s n k (λ i from before. none i from (omega arith)))

pub starts_past : (s : List ℕ) (n m : ℕ) → n ≤ m → ((i : ℕ) → n ≤ i → i < m → is_line_break (get_or s i 0) ≡ false) → starts_to s m ≡ starts_to s n
starts_past s n m rising none =
    let e : m ≡ n + (m - n) = omega arith in
    ap (starts_to s) e ∙ starts_pass s n (m - n) (λ i from before. none i from (omega arith))

-- one byte further, by whether a line ends with it
pub starts_ending : (s : List ℕ) (n : ℕ) → ends_line s n ≡ true → starts_to s (n + 1) ≡ starts_to s n ++ (n + 1) ∷ []
starts_ending s n h = let e : n + 1 ≡ suc n = omega arith in ap (starts_to s) e ∙ elim (stepped s n) [ inl b ↦ b.1 | inr b ↦ absurd (false≢true (sym b.0 ∙ h)) ]

pub starts_open : (s : List ℕ) (n : ℕ) → ends_line s n ≡ false → starts_to s (n + 1) ≡ starts_to s n
starts_open s n h = let e : n + 1 ≡ suc n = omega arith in ap (starts_to s) e ∙ elim (stepped s n) [ inl b ↦ absurd (false≢true (sym h ∙ b.0)) | inr b ↦ b.1 ]

pub ends_more : (s : List ℕ) (n : ℕ) → ends_line s n ≡ true → length (starts_to s (n + 1)) ≡ length (starts_to s n) + 1
ends_more s n h = ap length (starts_ending s n h) ∙ length_push (starts_to s n) (n + 1)

-- up to where a line begins the starts are those of the lines before it and its own
pub starts_at : (s : List ℕ) (k : ℕ) → k < length (line_starts s) → length (starts_to s (line_start s k)) ≡ k + 1
starts_at s k h =
    omega (
      arith,
      starts_some s (line_start s k),
      line_found s (line_start s k) k (starts_bound s (length s) k h) h (omega arith) (λ more. starts_rise s (length s) k (k + 1) (omega arith) more),
    )

-- the line that begins after a line end
pub start_found : (s : List ℕ) (i k : ℕ) → i < length s → ends_line s i ≡ true → length (starts_to s i) ≡ k → IsStart s k (i + 1)
start_found s i k within ended before =
    let step = starts_ending s i ended in
    let long = ends_more s i ended in
    let meant : get_or (starts_to s (i + 1)) k 0 ≡ i + 1 =
    ap (λ xs. get_or xs k 0) step ∙ get_or_push (starts_to s i) (i + 1) 0 k (omega (arith, before)) in
    let kept = whole_keep s (i + 1) k (omega arith) (omega (arith, long, before)) in
    record { some = kept.0; here = sym (kept.1 ∙ meant) }

-- where a line ends, by its bytes
pub line_end_is : (s : List ℕ) (start end : ℕ) → start ≤ end → end ≤ length s → ((i : ℕ) → start ≤ i → i < end → (get_or s i 0 ≢ 10) × (get_or s i 0 ≢ 13)) →
    (end < length s → (get_or s end 0 ≡ 10) ⊎ (get_or s end 0 ≡ 13)) → line_end s start ≡ end
line_end_is s start end rising within before meant =
    let long : length (drop start s) ≡ length s - start = length-drop start s in
    let here : start + (end - start) ≡ end = omega arith in
    let found : position_or_len is_line_break (drop start s) ≡ end - start =
    position_or_len_is is_line_break (drop start s) (end - start) 0 (omega (arith, long))
    (λ k h.
    let byte : get_or (drop start s) k 0 ≡ get_or s (start + k) 0 = get_or-drop start s k 0 in
    let none = before (start + k) (omega arith) (omega arith) in
    ap is_line_break byte ∙ no_break (get_or s (start + k) 0) none.0 none.1)
    (λ h.
    let byte : get_or (drop start s) (end - start) 0 ≡ get_or s end 0 = get_or-drop start s (end - start) 0 ∙ ap (λ i. get_or s i 0) here in
    ap is_line_break byte ∙ is_break (get_or s end 0) (meant (omega (arith, long)))) in
    ap (λ n. start + n) found ∙ here

-- a line ends at the first line break in it
pub end_at_break : (s : List ℕ) (start end : ℕ) → start ≤ end → end ≤ length s → ((i : ℕ) → start ≤ i → i < end → is_line_break (get_or s i 0) ≡ false) →
    (end < length s → is_line_break (get_or s end 0) ≡ true) → line_end s start ≡ end
end_at_break s start end rising within none meant =
    line_end_is s start end rising within (λ i from before. break_not (get_or s i 0) (none i from before)) (λ h. break_is (get_or s end 0) (meant h))

pub line_end_le : (s : List ℕ) (start : ℕ) → start ≤ length s → line_end s start ≤ length s
line_end_le s start within =
    omega (arith, length-drop start s, prefix_len-le-length (λ b. not (is_line_break b)) (drop start s))

pub line_end_from : (s : List ℕ) (start : ℕ) → start ≤ line_end s start
line_end_from s start = omega arith

-- before it there is no line break, and at it there is one, if the text goes on
pub line_end_before : (s : List ℕ) (start i : ℕ) → start ≤ i → i < line_end s start → (get_or s i 0 ≢ 10) × (get_or s i 0 ≢ 13)
line_end_before s start i from before =
    let here : start + (i - start) ≡ i = omega arith in
    let byte : get_or (drop start s) (i - start) 0 ≡ get_or s i 0 = get_or-drop start s (i - start) 0 ∙ ap (λ j. get_or s j 0) here in
    break_not (get_or s i 0) (sym (ap is_line_break byte) ∙ fails_before_first is_line_break (drop start s) (i - start) 0 (omega arith))

pub line_end_at : (s : List ℕ) (start : ℕ) → start ≤ length s → line_end s start < length s → (get_or s (line_end s start) 0 ≡ 10) ⊎ (get_or s (line_end s start) 0 ≡ 13)
line_end_at s start within h =
    let byte : get_or (drop start s) (position_or_len is_line_break (drop start s)) 0 ≡ get_or s (line_end s start) 0 =
    get_or-drop start s (position_or_len is_line_break (drop start s)) 0 in
    break_is (get_or s (line_end s start) 0)
    (sym (ap is_line_break byte) ∙ passes_at_first is_line_break (drop start s) 0 (omega (arith, length-drop start s)))

-- where a line ends that another follows: before the one or two bytes of its line end
pub end_in_one : (s : List ℕ) (start next : ℕ) → IsNextStart s start next → ¬ IsPair s start (next - 1) → line_end s start ≡ next - 1
end_in_one s start next is one =
    line_end_is s start (next - 1) (omega (arith, is.rising)) (omega (arith, is.within))
    (λ i from before.
    let kept_open = open_byte s i (is.whole i from (omega arith)) in (
      kept_open.0,
      λ return.
          let feed = kept_open.1 return in
          elim (cases_lt (i + 2) next) [
            | inl x ↦ let again = open_byte s (i + 1) (is.whole (i + 1) (omega arith) (omega arith)) in
                again.0 feed
            | inr x ↦ let here : i + 1 ≡ next - 1 = omega arith in
                let back : i ≡ next - 1 - 1 = omega arith in
                one (record {
                  later = omega arith;
                  feed = sym (ap (λ j. get_or s j 0) here) ∙ feed;
                  return = sym (ap (λ j. get_or s j 0) back) ∙ return;
                })
          ],
    ))
    (λ h. elim (ended_byte s (next - 1) is.ended) [ inl x ↦ inl x | inr x ↦ inr x.0 ])

pub end_in_two : (s : List ℕ) (start next : ℕ) → IsNextStart s start next → IsPair s start (next - 1) → line_end s start ≡ next - 1 - 1
end_in_two s start next is two =
    line_end_is s start (next - 1 - 1) (omega (arith, two.later)) (omega (arith, is.within))
    (λ i from before.
    let kept_open = open_byte s i (is.whole i from (omega arith)) in (
      kept_open.0,
      λ r.
          let again = open_byte s (i + 1) (is.whole (i + 1) (omega arith) (omega arith)) in
          again.0 (kept_open.1 r),
    ))
    (λ h. inr two.return)

pub end_of_last_is : (s : List ℕ) (start : ℕ) → IsLastStart s start → line_end s start ≡ length s
end_of_last_is s start is =
    line_end_is s start (length s) is.within (omega arith)
    (λ i from before.
    let kept_open = open_byte s i (is.whole i from before) in (
      kept_open.0,
      λ return.
          let feed = kept_open.1 return in
          elim (cases_lt (i + 1) (length s)) [
            | inl x ↦ let again = open_byte s (i + 1) (is.whole (i + 1) (omega arith) x) in
                again.0 feed
            | inr x ↦ absurd (omega (arith, get_or_past s (i + 1) 0 x, feed))
          ],
    ))
    (λ h. absurd (omega arith))

-- the same by a list of the starts, and what was read of it
pub next_from : (s bytes starts : List ℕ) (k a b : ℕ) → bytes ≡ s → starts ≡ line_starts s → k + 1 < length starts →
    a ≡ get_or starts k a → b ≡ get_or starts (k + 1) b → IsNextStart bytes a b
next_from s bytes starts k a b same list more first second =
    let start : a ≡ line_start s k = get_or_read starts k a (omega arith) first 0 ∙ ap (λ (xs : List ℕ). get_or xs k 0) list in
    let next : b ≡ line_start s (k + 1) = get_or_read starts (k + 1) b more second 0 ∙ ap (λ (xs : List ℕ). get_or xs (k + 1) 0) list in
    subst (λ (bs : List ℕ). IsNextStart bs a b) (sym same)
    (subst (λ (x : ℕ). IsNextStart s x b) (sym start)
    (subst (λ (x : ℕ). IsNextStart s (line_start s k) x) (sym next) (next_is s k (omega (arith, ap length list)))))

pub last_from : (s bytes starts : List ℕ) (k a : ℕ) → bytes ≡ s → starts ≡ line_starts s → k + 1 ≡ length starts →
    a ≡ get_or starts k a → IsLastStart bytes a
last_from s bytes starts k a same list last first =
    let start : a ≡ line_start s k = get_or_read starts k a (omega arith) first 0 ∙ ap (λ (xs : List ℕ). get_or xs k 0) list in
    subst (λ (bs : List ℕ). IsLastStart bs a) (sym same)
    (subst (λ (x : ℕ). IsLastStart s x) (sym start) (last_is s k (omega (arith, ap length list))))
