use Rattle.std.proofs.Common.{◌≡◌, ℕ, ◌+◌, ◌<◌, ◌≤◌, take, ap, ◌∙◌, arith}
use Rattle.std.specs.Str.{IsCharBoundary}
use Rattle.std.proofs.lemmas.Bool.{both_ways}
use Rattle.rast_document.specs.Lines.{line_end, line_start}
use Rattle.rast_document.specs.Units.{units}
use Rattle.rast_document.proofs.PlaceLemmas.{inside_none, missed_none, one_place, position_back, reached_at, reached_from}
use Rattle.rast_document.proofs.places.meant.Goals as goal
use Rattle.rast_document.proofs.places.meant.Goals.{else-reached-end-via-then-reached-end+else-reached-place, else-reached-end-via-else-reached-end}

pub returns-then-reached-place-clause-none : goal.returns-then-reached-place-clause-none
returns-then-reached-place-clause-none c = λ other meant.
    let s = c.args.text.now in
    let e = c.args.encoding in
    let p = c.args.place in
    let o = c.args.reached.offset in
    let ends : c.args.end ≡ line_end s (line_start s p.line) = c.requires.end ∙ ap (line_end s) c.requires.start.here in
    let is = reached_from e s p c.args.start c.args.end o c.requires.start.here ends c.requires.reached in
    let before : units e (take c.args.start s) ≡ units e (take (line_start s p.line) s) = ap (λ (i : ℕ). units e (take i s)) c.requires.start.here in
    missed_none e s p o other is (omega (arith, c.if-reached-end.true, ends))
    (omega (arith, c.if-reached-place.true, c.requires.units, before)) meant

pub returns-then-is_char_boundary-clause-found : goal.returns-then-is_char_boundary-clause-found
returns-then-is_char_boundary-clause-found c =
    let s = c.args.text.now in
    let e = c.args.encoding in
    let p = c.args.place in
    let o = c.args.reached.offset in
    let ends : c.args.end ≡ line_end s (line_start s p.line) = c.requires.end ∙ ap (line_end s) c.requires.start.here in
    let is = reached_from e s p c.args.start c.args.end o c.requires.start.here ends c.requires.reached in
    let before : units e (take c.args.start s) ≡ units e (take (line_start s p.line) s) = ap (λ (i : ℕ). units e (take i s)) c.requires.start.here in
    let full : o < line_end s (line_start s p.line) → units e (take (line_start s p.line) s) + p.character ≤ units e (take o s) =
    elim c.else-reached-end.branch [
      | else-reached-end-via-then-reached-end+else-reached-place w ↦ λ h. omega (arith, w.if-reached-place.false, c.requires.units, before)
      | else-reached-end-via-else-reached-end w ↦ λ h. absurd (omega (arith, w.if-reached-end.false, ends, h))
    ] in
    let boundary : IsCharBoundary s o = c.is_char_boundary.ensures.test.0 c.if-is_char_boundary.true in
    let found = reached_at e s p o c.requires.start.some boundary is full in
    found

pub returns-then-is_char_boundary-clause-only : goal.returns-then-is_char_boundary-clause-only
returns-then-is_char_boundary-clause-only c = λ other meant.
    let s = c.args.text.now in
    let e = c.args.encoding in
    let p = c.args.place in
    let o = c.args.reached.offset in
    let ends : c.args.end ≡ line_end s (line_start s p.line) = c.requires.end ∙ ap (line_end s) c.requires.start.here in
    let is = reached_from e s p c.args.start c.args.end o c.requires.start.here ends c.requires.reached in
    let before : units e (take c.args.start s) ≡ units e (take (line_start s p.line) s) = ap (λ (i : ℕ). units e (take i s)) c.requires.start.here in
    let full : o < line_end s (line_start s p.line) → units e (take (line_start s p.line) s) + p.character ≤ units e (take o s) =
    elim c.else-reached-end.branch [
      | else-reached-end-via-then-reached-end+else-reached-place w ↦ λ h. omega (arith, w.if-reached-place.false, c.requires.units, before)
      | else-reached-end-via-else-reached-end w ↦ λ h. absurd (omega (arith, w.if-reached-end.false, ends, h))
    ] in
    let boundary : IsCharBoundary s o = c.is_char_boundary.ensures.test.0 c.if-is_char_boundary.true in
    let found = reached_at e s p o c.requires.start.some boundary is full in
    one_place e s p other o meant found

pub returns-then-is_char_boundary-clause-back : goal.returns-then-is_char_boundary-clause-back
returns-then-is_char_boundary-clause-back c =
    let s = c.args.text.now in
    let e = c.args.encoding in
    let p = c.args.place in
    let o = c.args.reached.offset in
    let ends : c.args.end ≡ line_end s (line_start s p.line) = c.requires.end ∙ ap (line_end s) c.requires.start.here in
    let is = reached_from e s p c.args.start c.args.end o c.requires.start.here ends c.requires.reached in
    let before : units e (take c.args.start s) ≡ units e (take (line_start s p.line) s) = ap (λ (i : ℕ). units e (take i s)) c.requires.start.here in
    let full : o < line_end s (line_start s p.line) → units e (take (line_start s p.line) s) + p.character ≤ units e (take o s) =
    elim c.else-reached-end.branch [
      | else-reached-end-via-then-reached-end+else-reached-place w ↦ λ h. omega (arith, w.if-reached-place.false, c.requires.units, before)
      | else-reached-end-via-else-reached-end w ↦ λ h. absurd (omega (arith, w.if-reached-end.false, ends, h))
    ] in
    let boundary : IsCharBoundary s o = c.is_char_boundary.ensures.test.0 c.if-is_char_boundary.true in
    let found = reached_at e s p o c.requires.start.some boundary is full in
    position_back e s p o found

pub returns-else-is_char_boundary-clause-none : goal.returns-else-is_char_boundary-clause-none
returns-else-is_char_boundary-clause-none c = λ other meant.
    let s = c.args.text.now in
    let e = c.args.encoding in
    let p = c.args.place in
    let o = c.args.reached.offset in
    let ends : c.args.end ≡ line_end s (line_start s p.line) = c.requires.end ∙ ap (line_end s) c.requires.start.here in
    let is = reached_from e s p c.args.start c.args.end o c.requires.start.here ends c.requires.reached in
    let before : units e (take c.args.start s) ≡ units e (take (line_start s p.line) s) = ap (λ (i : ℕ). units e (take i s)) c.requires.start.here in
    let full : o < line_end s (line_start s p.line) → units e (take (line_start s p.line) s) + p.character ≤ units e (take o s) =
    elim c.else-reached-end.branch [
      | else-reached-end-via-then-reached-end+else-reached-place w ↦ λ h. omega (arith, w.if-reached-place.false, c.requires.units, before)
      | else-reached-end-via-else-reached-end w ↦ λ h. absurd (omega (arith, w.if-reached-end.false, ends, h))
    ] in
    inside_none e s p o other (λ (b : IsCharBoundary s o). both_ways _ c.if-is_char_boundary.false (c.is_char_boundary.ensures.test.1 b)) is full meant
