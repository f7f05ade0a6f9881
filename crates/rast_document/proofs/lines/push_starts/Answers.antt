use Rattle.std.proofs.Common.{◌≡◌, ◌+◌, ◌++◌, [], ◌∷◌, ap, sym, ◌∙◌, arith}
use Rattle.std.specs.Int.Count.{count_trailing_zeros}
use Rattle.rast_document.specs.Lines.{starts_to}
use Rattle.rast_document.proofs.BlockLemmas.{last_break, next_break}
use Rattle.rast_document.proofs.LineLemmas.{starts_ending, starts_open, starts_past}
use Rattle.rast_document.proofs.lines.push_starts.Goals as goal
use Rattle.rast_document.proofs.lines.push_starts.Goals.{then-ends_line+in_ok-push, else-ends_line}

pub ends_line-requires : goal.ends_line-requires
ends_line-requires c =
    let is = c.breaks.invariant in
    let next = next_break c.args.text.now c.args.at c.breaks.from c.breaks.left c.requires.within is.from is.to is.left c.breaks-test.true in
    omega (arith, next.inside, c.requires.within)

pub breaks-smaller : goal.breaks-smaller
breaks-smaller c =
    let is = c.breaks.invariant in
    let next = next_break c.args.text.now c.args.at c.breaks.from c.breaks.left c.requires.within is.from is.to is.left c.breaks-test.true in
    omega (arith, next.inside)

pub breaks-preserved : goal.breaks-preserved
breaks-preserved c =
    let s = c.args.text.now in
    let is = c.breaks.invariant in
    let next = next_break s c.args.at c.breaks.from c.breaks.left c.requires.within is.from is.to is.left c.breaks-test.true in
    let index = c.breaks.from + count_trailing_zeros 64 c.breaks.left in
    let before : c.breaks.starts.items ≡ starts_to s index = is.starts ∙ sym (starts_past s c.breaks.from index (omega arith) next.none) in
    record {
      from = omega (arith, is.from);
      to = omega (arith, next.inside);
      left = next.rest;
      starts = elim c.if-ends_line.branch [
        | then-ends_line+in_ok-push w ↦
            rw (w.starts-is, w.in_ok-push.ensures.items)
            (ap (λ xs. xs ++ (index + 1) ∷ []) before ∙ sym (starts_ending s index (sym c.ends_line.ensures ∙ w.if-ends_line.true)))
        | else-ends_line w ↦ rw w.starts-is (before ∙ sym (starts_open s index (sym c.ends_line.ensures ∙ w.if-ends_line.false)))
      ];
    }

pub returns : goal.returns
returns c =
    let s = c.args.text.now in
    let is = c.breaks.invariant in
    is.starts ∙ sym (starts_past s c.breaks.from (c.args.at + 64) is.to (last_break s c.args.at c.breaks.from c.breaks.left c.requires.within is.from is.to is.left c.breaks-test.false))
