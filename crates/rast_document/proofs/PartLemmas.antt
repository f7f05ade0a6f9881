-- Parts of lines.
use Rattle.std.proofs.Common.{◌≡◌, ℕ, ◌+◌, ◌≤◌, max, min, List, length, take, get_or, ap, ◌∙◌, inl, inr, arith}
use Rattle.std.proofs.lemmas.Bool.{cases_lt}
use Rattle.std.proofs.lemmas.Bool.Decides.{eqb_tells}
use Rattle.rast_document.specs.declared.encoding.Encoding.{Encoding}
use Rattle.rast_document.specs.declared.position.Position.{Position}
use Rattle.rast_document.specs.Indexed.{IsOnLine}
use Rattle.rast_document.specs.Lines.{line_end, line_start}
use Rattle.rast_document.specs.Places.{position}
use Rattle.rast_document.specs.Units.{units}
use Rattle.rast_document.proofs.LineLemmas.{line_end_at, line_end_before, line_end_is, line_end_le, next_is, starts_bound}
use Rattle.rast_document.proofs.PlaceLemmas.{before_end, end_before_next, position_from}

-- the line goes on from an offset in it to its end; between a `\r` and a `\n` nothing is left of it
pub line_from : (s : List ℕ) (o k : ℕ) → IsOnLine s o k → line_end s o ≡ max (line_end s (line_start s k)) o
line_from s o k on =
    let start = line_start s k in
    let begins = starts_bound s (length s) k on.some in
    elim (cases_lt (line_end s start) o) [
      | inl past ↦ elim (eqb_tells (get_or s o 0) 10) [
        | inl (t, feed) ↦ line_end_is s o o (omega arith) on.within (λ i from to. absurd (omega arith)) (λ more. inl feed) ∙ omega arith
        | inr (f, other) ↦ absurd (omega (arith, before_end s o k on (λ inside. other inside.feed)))
      ]
      | inr x ↦ line_end_is s o (line_end s start) x (line_end_le s start begins)
          (λ i from to. line_end_before s start i (omega (arith, on.from)) to)
          (λ more. line_end_at s start begins more)
          ∙ omega arith
    ]

-- up to that end an offset is on the same line
pub still_on : (s : List ℕ) (o k to : ℕ) → IsOnLine s o k → o ≤ to → to ≤ line_end s o → IsOnLine s to k
still_on s o k to on low high =
    record {
      within = omega (arith, high, line_end_le s o on.within);
      some = on.some;
      from = omega (arith, on.from, low);
      next = λ more.
          omega (
            arith,
            low,
            high,
            on.next more,
            line_from s o k on,
            end_before_next s (line_start s k) (line_start s (k + 1)) (next_is s k more),
          );
    }

-- the units before it, by those before the first offset and those in between
pub part_units : (e : Encoding) (s : List ℕ) (o k to n m : ℕ) → IsOnLine s o k → o ≤ to → to ≤ line_end s o
    → units e (take (line_start s k) s) + n ≡ units e (take (min o (line_end s (line_start s k))) s)
    → units e (take o s) + m ≡ units e (take to s) → n + m ≡ (position e s to).character
part_units e s o k to n m on low high before between =
    let goes = line_from s o k on in
    let same : units e (take (line_start s k) s) + (n + m) ≡ units e (take (min to (line_end s (line_start s k))) s) =
    elim (cases_lt (line_end s (line_start s k)) o) [
      | inl past ↦ let stays : to ≡ o = omega (arith, goes, low, high) in
          let none : units e (take to s) ≡ units e (take o s) = ap (λ (i : ℕ). units e (take i s)) stays in
          let one : min to (line_end s (line_start s k)) ≡ min o (line_end s (line_start s k)) = omega (arith, stays) in
          let there : units e (take (min to (line_end s (line_start s k))) s) ≡ units e (take (min o (line_end s (line_start s k))) s) =
          ap (λ (i : ℕ). units e (take i s)) one in
          omega (arith, before, between, none, there)
      | inr x ↦ let first : min o (line_end s (line_start s k)) ≡ o = omega arith in
          let last : min to (line_end s (line_start s k)) ≡ to = omega (arith, goes, high) in
          let here : units e (take (min o (line_end s (line_start s k))) s) ≡ units e (take o s) = ap (λ (i : ℕ). units e (take i s)) first in
          let there : units e (take (min to (line_end s (line_start s k))) s) ≡ units e (take to s) = ap (λ (i : ℕ). units e (take i s)) last in
          omega (arith, before, between, here, there)
    ] in
    ap (λ (p : Position). p.character) (position_from e s to k (n + m) (still_on s o k to on low high) same)
