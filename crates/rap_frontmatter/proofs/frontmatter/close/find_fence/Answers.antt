use Rattle.std.proofs.Common.{◌+◌, arith}
use Rattle.rap_frontmatter.proofs.ScriptFences.{feed_past, no_feed_past, dashes_past, passed_inside, found_full, passes_longer, passes_other, found_none, found_longest}
use Rattle.rap_frontmatter.proofs.frontmatter.close.find_fence.Goals as goal
use Rattle.rap_frontmatter.proofs.frontmatter.close.find_fence.Goals.{then-len-most, else-len-most}

pub returns-then-len-n : goal.returns-then-len-n
returns-then-len-n c =
    found_full _ _ _ _ _ _ _ c.lines.invariant (feed_past c.args.text.now c.lines.at _ c.in-Some.ensures) (dashes_past c.args.text.now (c.lines.at + c.in-Some.skip + 1) _ c.count_dashes-len.ensures) c.if-len-n.true

pub overflow_add-at : goal.overflow_add-at
overflow_add-at c =
    omega (arith, passed_inside _ _ _ _ c.lines.invariant.inside (feed_past c.args.text.now c.lines.at _ c.in-Some.ensures) (dashes_past c.args.text.now (c.lines.at + c.in-Some.skip + 1) _ c.count_dashes-len.ensures))

pub lines-preserved : goal.lines-preserved
lines-preserved c =
    let s = c.lines.invariant in
    let f = feed_past c.args.text.now c.lines.at _ c.in-Some.ensures in
    let d = dashes_past c.args.text.now (c.lines.at + c.in-Some.skip + 1) _ c.count_dashes-len.ensures in
    elim c.if-len-most.branch [
      | then-len-most w ↦ rw (w.place-is, w.most-is) (passes_longer _ _ _ _ _ _ _ s f d c.if-len-n.false w.if-len-most.true)
      | else-len-most w ↦ rw (w.place-is, w.most-is) (passes_other _ _ _ _ _ _ _ s f d c.if-len-n.false w.if-len-most.false)
    ]

pub returns-then-most-eq0 : goal.returns-then-most-eq0
returns-then-most-eq0 c = found_none _ _ _ _ _ c.lines.invariant (no_feed_past c.args.text.now c.lines.at c.in_default.ensures) c.if-most-eq0.true

pub returns-else-most-eq0 : goal.returns-else-most-eq0
returns-else-most-eq0 c =
    (omega arith, c.lines.invariant.less, found_longest _ _ _ _ _ c.lines.invariant (no_feed_past c.args.text.now c.lines.at c.in_default.ensures) (omega arith))
