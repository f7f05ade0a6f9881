use Rattle.std.proofs.Common.{◌+◌, length, ap, sym, ◌∙◌, arith}
use Rattle.std.specs.Int.Count.{count_trailing_zeros}
use Rattle.rast_document.proofs.BlockLemmas.{last_break, next_break}
use Rattle.rast_document.proofs.LineLemmas.{ends_more, starts_open, starts_past}
use Rattle.rast_document.proofs.lines.ends_by_breaks.Goals as goal
use Rattle.rast_document.proofs.lines.ends_by_breaks.Goals.{then-ends_line, else-ends_line}

pub ends_line-requires : goal.ends_line-requires
ends_line-requires c =
    let is = c.breaks.invariant in
    let next = next_break c.args.text.now c.args.at c.breaks.place c.breaks.bits c.requires is.from is.to is.left c.breaks-test.true in
    omega (arith, next.inside, c.requires)

pub breaks-smaller : goal.breaks-smaller
breaks-smaller c =
    let is = c.breaks.invariant in
    let next = next_break c.args.text.now c.args.at c.breaks.place c.breaks.bits c.requires is.from is.to is.left c.breaks-test.true in
    omega (arith, next.inside)

pub breaks-preserved : goal.breaks-preserved
breaks-preserved c =
    let s = c.args.text.now in
    let is = c.breaks.invariant in
    let next = next_break s c.args.at c.breaks.place c.breaks.bits c.requires is.from is.to is.left c.breaks-test.true in
    let index = c.breaks.place + count_trailing_zeros 64 c.breaks.bits in
    let before = ap length (starts_past s c.breaks.place index (omega arith) next.none) in
    record {
      from = omega (arith, is.from);
      to = omega (arith, next.inside);
      left = next.rest;
      few = elim c.if-ends_line.branch [ then-ends_line w ↦ omega (arith, w.ends-is, is.few, is.from) | else-ends_line w ↦ omega (arith, w.ends-is, is.few, is.from) ];
      ends = elim c.if-ends_line.branch [
        | then-ends_line w ↦ omega (arith, w.ends-is, before, is.ends, ends_more s index (sym c.ends_line.ensures ∙ w.if-ends_line.true))
        | else-ends_line w ↦ omega (arith, w.ends-is, before, is.ends, ap length (starts_open s index (sym c.ends_line.ensures ∙ w.if-ends_line.false)))
      ];
    }

pub returns : goal.returns
returns c =
    let s = c.args.text.now in
    let is = c.breaks.invariant in
    ap length (starts_past s c.breaks.place (c.args.at + 64) is.to (last_break s c.args.at c.breaks.place c.breaks.bits c.requires is.from is.to is.left c.breaks-test.false))
    ∙ is.ends
