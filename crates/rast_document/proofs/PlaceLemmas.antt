-- Positions and the offsets that they mean.
use Rattle.std.proofs.Common.{◌≡◌, ℕ, ◌+◌, ◌-◌, ◌<◌, ◌≤◌, min, List, length, take, get_or, sym, ap, ◌∙◌, subst, inl, inr, arith}
use Rattle.std.specs.Str.{IsCharBoundary}
use Rattle.std.proofs.lemmas.Bool.{cases_lt, cases_order}
use Rattle.std.proofs.lemmas.List.{get_or_read}
use Rattle.rast_document.specs.declared.encoding.Encoding.{Encoding}
use Rattle.rast_document.specs.declared.position.Position.{Position}
use Rattle.rast_document.specs.Changes.{IsInOrder}
use Rattle.rast_document.specs.Indexed.{IsNextStart, IsOnLine, IsReached}
use Rattle.rast_document.specs.Lines.{line_at, line_end, line_start, line_starts}
use Rattle.rast_document.specs.Places.{IsAt, IsInLineEnd, position, units_before, units_of_line, within_line}
use Rattle.rast_document.specs.Units.{units}
use Rattle.rast_document.proofs.LineLemmas.{end_of_last_is, ended_byte, last_is, line_end_at, line_end_before, line_end_le, line_found, next_is, open_byte, starts_bound, starts_rise}
use Rattle.rast_document.proofs.UnitLemmas.{units_past, units_range, units_rise}

-- the same by the list of the starts
pub on_line_from : (s starts : List ℕ) (o k : ℕ) → starts ≡ line_starts s → o ≤ length s → k < length starts → get_or starts k 0 ≤ o →
    (k + 1 < length starts → o < get_or starts (k + 1) 0) → IsOnLine s o k
on_line_from s starts o k same within some from next =
    let P : List ℕ → Type 0 = λ xs. (k < length xs) × (get_or xs k 0 ≤ o) × (k + 1 < length xs → o < get_or xs (k + 1) 0) in
    let h = subst P same (some, from, next) in
    record { within = within; some = h.0; from = h.1; next = h.2 }

-- a line ends before the next one begins
pub end_before_next : (s : List ℕ) (start next : ℕ) → IsNextStart s start next → line_end s start < next
end_before_next s start next is =
    elim (cases_lt (line_end s start) next) [
      | inl x ↦ x
      | inr x ↦ let none = line_end_before s start (next - 1) (omega (arith, is.rising)) (omega (arith, is.rising)) in
          absurd (elim (ended_byte s (next - 1) is.ended) [ inl b ↦ none.0 b | inr b ↦ none.1 b.0 ])
    ]

-- an offset past the line's end is between a `\r` and a `\n`
pub before_end : (s : List ℕ) (o k : ℕ) → IsOnLine s o k → ¬ IsInLineEnd s o → o ≤ line_end s (line_start s k)
before_end s o k on outside =
    elim (cases_lt (line_end s (line_start s k)) o) [
      | inl x ↦ let end = line_end s (line_start s k) in
          let meant = line_end_at s (line_start s k) (starts_bound s (length s) k on.some) (omega (arith, on.within)) in
          elim (cases_lt (k + 1) (length (line_starts s))) [
            | inl more ↦ let is = next_is s k more in
                let before = on.next more in
                let kept_open = open_byte s (line_end s (line_start s k)) (is.whole (line_end s (line_start s k)) (omega arith) (omega arith)) in
                let return : get_or s (line_end s (line_start s k)) 0 ≡ 13 = elim meant [ inl b ↦ absurd (kept_open.0 b) | inr b ↦ b ] in
                let feed = kept_open.1 return in
                elim (cases_lt (line_end s (line_start s k) + 2) (line_start s (k + 1))) [
                  | inl y ↦ let again = open_byte s (line_end s (line_start s k) + 1) (is.whole (line_end s (line_start s k) + 1) (omega arith) (omega arith)) in
                      absurd (again.0 feed)
                  | inr y ↦ let here : o ≡ line_end s (line_start s k) + 1 = omega arith in
                      let back : o - 1 ≡ line_end s (line_start s k) = omega arith in
                      absurd (outside (record { return = ap (λ i. get_or s i 0) back ∙ return; feed = ap (λ i. get_or s i 0) here ∙ feed }))
                ]
            | inr last ↦ let whole = end_of_last_is s (line_start s k) (last_is s k (omega (arith, on.some))) in
                omega (arith, whole, on.within)
          ]
      | inr x ↦ x
    ]

-- the position of an offset whose line is known
pub position_from : (e : Encoding) (s : List ℕ) (o k n : ℕ) → IsOnLine s o k →
    units e (take (line_start s k) s) + n ≡ units e (take (min o (line_end s (line_start s k))) s) → record { line = k; character = n } ≡ position e s o
position_from e s o k n on same =
    let meant : line_at s o ≡ k = line_found s o k on.within on.some on.from on.next in
    let f : ℕ → Position = λ j. record { line = j; character = units_before e s (line_start s j) o } in
    let g : ℕ → Position = λ m. record { line = k; character = m } in
    let count : n ≡ units_before e s (line_start s k) o =
    omega (arith, same, units_range e s (line_start s k) (min o (line_end s (line_start s k))) (omega (arith, on.from))) in
    ap g count ∙ ap f (sym meant)

-- it means the offset
pub at_position : (e : Encoding) (s : List ℕ) (o k n : ℕ) → IsOnLine s o k →
    units e (take (line_start s k) s) + n ≡ units e (take (min o (line_end s (line_start s k))) s) →
    IsCharBoundary s o → ¬ IsInLineEnd s o → IsAt e s (record { line = k; character = n }) o
at_position e s o k n on same boundary outside =
    let to = before_end s o k on outside in
    let less : min o (line_end s (line_start s k)) ≡ o = omega arith in
    let there : units e (take (min o (line_end s (line_start s k))) s) ≡ units e (take o s) = ap (λ i. units e (take i s)) less in
    record {
      line = on.some;
      boundary = boundary;
      from = on.from;
      to = to;
      character = omega (
        arith,
        same,
        there,
        units_range e s (line_start s k) o on.from,
        units_range e s (line_start s k) (line_end s (line_start s k)) (omega arith),
        units_rise e s o (line_end s (line_start s k)) to,
      );
    }

-- what a position means is on its line
pub on_line : (e : Encoding) (s : List ℕ) (p : Position) (o : ℕ) → IsAt e s p o → IsOnLine s o p.line
on_line e s p o meant =
    let begins = starts_bound s (length s) p.line meant.line in
    record {
      within = omega (arith, meant.to, line_end_le s (line_start s p.line) begins);
      some = meant.line;
      from = meant.from;
      next = λ more. omega (arith, meant.to, end_before_next s (line_start s p.line) (line_start s (p.line + 1)) (next_is s p.line more));
    }

pub position_back : (e : Encoding) (s : List ℕ) (p : Position) (o : ℕ) → IsAt e s p o → position e s o ≡ within_line e s p
position_back e s p o meant =
    let less : min o (line_end s (line_start s p.line)) ≡ o = omega (arith, meant.to) in
    let there : units e (take (min o (line_end s (line_start s p.line))) s) ≡ units e (take o s) = ap (λ i. units e (take i s)) less in
    sym (position_from e s o p.line (min p.character (units_of_line e s (line_start s p.line))) (on_line e s p o meant)
    (omega (arith, there, meant.character, units_range e s (line_start s p.line) o meant.from)))

-- the units before what a position means
pub units_at : (e : Encoding) (s : List ℕ) (p : Position) (o : ℕ) → IsAt e s p o →
    units e (take o s) ≡ units e (take (line_start s p.line) s) + min p.character (units_of_line e s (line_start s p.line))
units_at e s p o meant = omega (arith, meant.character, units_range e s (line_start s p.line) o meant.from)

-- of two character boundaries the later one has more units before it
pub rises : (e : Encoding) (s : List ℕ) (a b : ℕ) → IsCharBoundary s a → a < b → b ≤ length s → units e (take a s) < units e (take b s)
rises e s a b boundary less within = units_past e s a b less within (boundary.1 (omega arith))

pub one_place : (e : Encoding) (s : List ℕ) (p : Position) (a b : ℕ) → IsAt e s p a → IsAt e s p b → a ≡ b
one_place e s p a b first second =
    let same = units_at e s p a first in
    let also = units_at e s p b second in
    elim (cases_order a b) [ inl x ↦ x | inr x ↦ absurd (elim x [ inl y ↦ omega (arith, same, also, rises e s a b first.boundary y (on_line e s p b second).within) | inr y ↦ omega (arith, same, also, rises e s b a second.boundary y (on_line e s p a first).within) ]) ]

-- the end of a line is a character boundary
pub end_boundary : (s : List ℕ) (start : ℕ) → start ≤ length s → IsCharBoundary s (line_end s start)
end_boundary s start within =
    (line_end_le s start within, λ h high. absurd (elim (line_end_at s start within h) [ inl b ↦ omega arith | inr b ↦ omega arith ]))

-- what the bisection reached is what the position means, or nothing is
pub reached_at : (e : Encoding) (s : List ℕ) (p : Position) (o : ℕ) → p.line < length (line_starts s) → IsCharBoundary s o →
    IsReached e s (line_start s p.line) (line_end s (line_start s p.line)) p.character o →
    (o < line_end s (line_start s p.line) → units e (take (line_start s p.line) s) + p.character ≤ units e (take o s)) → IsAt e s p o
reached_at e s p o line boundary is full =
    let range = units_range e s (line_start s p.line) o is.from in
    let whole = units_range e s (line_start s p.line) (line_end s (line_start s p.line)) (omega arith) in
    record {
      line = line;
      boundary = boundary;
      from = is.from;
      to = is.to;
      character = elim (cases_lt o (line_end s (line_start s p.line))) [
        | inl x ↦ omega (arith, range, whole, full x, is.few, units_rise e s o (line_end s (line_start s p.line)) is.to)
        | inr x ↦ let same : o ≡ line_end s (line_start s p.line) = omega (arith, is.to) in
            let there : units e (take o s) ≡ units e (take (line_end s (line_start s p.line)) s) = ap (λ i. units e (take i s)) same in
            omega (arith, range, whole, there, is.few)
      ];
    }

pub missed_none : (e : Encoding) (s : List ℕ) (p : Position) (o other : ℕ) →
    IsReached e s (line_start s p.line) (line_end s (line_start s p.line)) p.character o →
    o < line_end s (line_start s p.line) → units e (take o s) < units e (take (line_start s p.line) s) + p.character → ¬ IsAt e s p other
missed_none e s p o other is before less meant =
    let whole = units_range e s (line_start s p.line) (line_end s (line_start s p.line)) (omega arith) in
    let next = is.next before in
    let end = units_rise e s (o + 1) (line_end s (line_start s p.line)) (omega arith) in
    let there = units_at e s p other meant in
    elim (cases_lt o other) [ inl x ↦ omega (arith, whole, next, end, there, units_rise e s (o + 1) other (omega arith)) | inr x ↦ omega (arith, whole, next, end, there, units_rise e s other o x) ]

pub inside_none : (e : Encoding) (s : List ℕ) (p : Position) (o other : ℕ) → ¬ IsCharBoundary s o →
    IsReached e s (line_start s p.line) (line_end s (line_start s p.line)) p.character o →
    (o < line_end s (line_start s p.line) → units e (take (line_start s p.line) s) + p.character ≤ units e (take o s)) → ¬ IsAt e s p other
inside_none e s p o other inside is full meant =
    let begins = starts_bound s (length s) p.line meant.line in
    let whole = units_range e s (line_start s p.line) (line_end s (line_start s p.line)) (omega arith) in
    let there = units_at e s p other meant in
    let within = line_end_le s (line_start s p.line) begins in
    let end = units_rise e s o (line_end s (line_start s p.line)) is.to in
    elim (cases_lt o (line_end s (line_start s p.line))) [
      | inl x ↦ elim (cases_order other o) [ inl y ↦ inside (subst (IsCharBoundary s) y meant.boundary) | inr y ↦ elim y [ inl z ↦ omega (arith, whole, there, end, full x, is.few, rises e s other o meant.boundary z (omega (arith, is.to))) | inr z ↦ omega (arith, whole, there, end, full x, is.few, is.next x, units_rise e s (o + 1) other (omega arith)) ] ]
      | inr x ↦ let same : line_end s (line_start s p.line) ≡ o = omega (arith, is.to) in
          inside (subst (IsCharBoundary s) same (end_boundary s (line_start s p.line) begins))
    ]

-- positions in order mean offsets in order
pub in_order : (e : Encoding) (s : List ℕ) (p q : Position) (a b : ℕ) → IsInOrder p q → IsAt e s p a → IsAt e s q b → a ≤ b
in_order e s p q a b order first second =
    elim order [
      | inl less ↦ let more : p.line + 1 < length (line_starts s) = omega (arith, second.line) in
          let ends = end_before_next s (line_start s p.line) (line_start s (p.line + 1)) (next_is s p.line more) in
          elim (cases_lt (p.line + 1) q.line) [
            | inl x ↦ omega (arith, first.to, ends, second.from, starts_rise s (length s) (p.line + 1) q.line x second.line)
            | inr x ↦ let same : p.line + 1 ≡ q.line = omega arith in
                omega (arith, first.to, ends, second.from, ap (line_start s) same)
          ]
      | inr same ↦ let start : units e (take (line_start s p.line) s) ≡ units e (take (line_start s q.line) s) = ap (λ k. units e (take (line_start s k) s)) same.0 in
          let line : units_of_line e s (line_start s p.line) ≡ units_of_line e s (line_start s q.line) = ap (λ k. units_of_line e s (line_start s k)) same.0 in
          elim (cases_lt b a) [ inl x ↦ absurd (omega (arith, start, line, units_at e s p a first, units_at e s q b second, same.1, rises e s b a second.boundary x (on_line e s p a first).within)) | inr x ↦ x ]
    ]

-- the same by a list of the starts, and what was read of it
pub start_from : (s starts : List ℕ) (k start : ℕ) → starts ≡ line_starts s → k < length starts → start ≡ get_or starts k start → start ≡ line_start s k
start_from s starts k start list some read = get_or_read starts k start some read 0 ∙ ap (λ (xs : List ℕ). get_or xs k 0) list

pub reached_from : (e : Encoding) (s : List ℕ) (p : Position) (start end o : ℕ) → start ≡ line_start s p.line → end ≡ line_end s (line_start s p.line) →
    IsReached e s start end p.character o → IsReached e s (line_start s p.line) (line_end s (line_start s p.line)) p.character o
reached_from e s p start end o begins ends is =
    subst (λ (x : ℕ). IsReached e s x (line_end s (line_start s p.line)) p.character o) begins
    (subst (λ (y : ℕ). IsReached e s start y p.character o) ends is)
