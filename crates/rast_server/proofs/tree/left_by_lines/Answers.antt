use Rattle.std.proofs.Common.{arith}
use Rattle.rast_server.proofs.TreeLines.{len_more_lines}
use Rattle.rast_server.proofs.tree.left_by_lines.Goals as goal

pub returns-in_default-clause-none : goal.returns-in_default-clause-none
returns-in_default-clause-none c =
    omega (
      arith,
      rw c.in_default.is at c.in_ok-found.ensures.none,
      c.loop-index.invariant,
      len_more_lines c.args.text.now c.args.elements.now c.loop-index.index c.index-elements-index.result c.loop-index-test.true c.index-elements-index.is,
      c.requires.depths.each c.loop-index.index c.loop-index-test.true,
    )

pub loop-index-preserved : goal.loop-index-preserved
loop-index-preserved c =
    omega (
      arith,
      rw c.in-Some.is at c.in_ok-found.ensures.some,
      c.loop-index.invariant,
      len_more_lines c.args.text.now c.args.elements.now c.loop-index.index c.index-elements-index.result c.loop-index-test.true c.index-elements-index.is,
      c.requires.depths.each c.loop-index.index c.loop-index-test.true,
    )
