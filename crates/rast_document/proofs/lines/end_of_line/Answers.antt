use Rattle.std.proofs.Common.{◌≡◌, ◌+◌, true, length, get_or, sym, inl, inr, arith}
use Rattle.std.specs.Int.Count.{count_trailing_zeros}
use Rattle.std.proofs.lemmas.Bool.{cases_lt}
use Rattle.rast_document.specs.Lines.{is_line_break}
use Rattle.rast_document.proofs.BlockLemmas.{first_break, no_break_in}
use Rattle.rast_document.proofs.LineLemmas.{end_at_break, is_break}
use Rattle.rast_document.proofs.lines.end_of_line.Goals as goal
use Rattle.rast_document.proofs.lines.end_of_line.Goals.{then-text-index-eq10-via-then-text-index-eq10, then-text-index-eq10-via-else-text-index-eq10+then-text-index-eq13}

pub returns-then-breaks-ne0 : goal.returns-then-breaks-ne0
returns-then-breaks-ne0 c =
    let s = c.args.text.now in
    let at = c.whole.at in
    let is = c.whole.invariant in
    let next = first_break s at c.breaks_of-breaks.result (omega arith) c.breaks_of-breaks.ensures c.if-breaks-ne0.true in
    sym (end_at_break s c.args.start (at + count_trailing_zeros 64 c.breaks_of-breaks.result) (omega (arith, is.from)) (omega (arith, next.inside))
    (λ i from before. elim (cases_lt i at) [ inl x ↦ is.none i from x | inr x ↦ next.none i x before ]) (λ h. next.here))

pub whole-preserved : goal.whole-preserved
whole-preserved c =
    let s = c.args.text.now in
    let at = c.whole.at in
    let is = c.whole.invariant in
    record {
      from = omega (arith, is.from);
      within = omega arith;
      none = λ i from before.
          elim (cases_lt i at) [ inl x ↦ is.none i from x | inr x ↦ no_break_in s at c.breaks_of-breaks.result (omega arith) c.breaks_of-breaks.ensures c.if-breaks-ne0.false i x before ];
    }

pub returns-then-text-index-eq10 : goal.returns-then-text-index-eq10
returns-then-text-index-eq10 c =
    let s = c.args.text.now in
    let is = c.loop-index.invariant in
    let here : is_line_break (get_or s c.loop-index.index 0) ≡ true =
    is_break (get_or s c.loop-index.index 0) (elim c.then-text-index-eq10.branch [
      | then-text-index-eq10-via-then-text-index-eq10 w ↦ inl w.if-text-index-eq10.true
      | then-text-index-eq10-via-else-text-index-eq10+then-text-index-eq13 w ↦ inr w.if-text-index-eq13.true
    ]) in
    sym (end_at_break s c.args.start c.loop-index.index is.from (omega arith) is.none (λ h. here))

pub returns : goal.returns
returns c =
    let s = c.args.text.now in
    let is = c.loop-index.invariant in
    sym (end_at_break s c.args.start (length s) c.requires (omega arith) (λ i from before. is.none i from (omega arith)) (λ h. absurd (omega arith)))
