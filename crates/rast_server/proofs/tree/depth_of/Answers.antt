use Rattle.std.proofs.Common.{◌<◌, arith}
use Rattle.rast_server.proofs.TreeLines.{depth_low, one_deeper}
use Rattle.rast_server.proofs.tree.depth_of.Goals as goal

pub returns : goal.returns
returns c =
    let some : 0 < c.args.index = omega (arith, c.if-index-eq0.false) in
    one_deeper c.args.elements.now c.args.depths.now c.args.index c.parent.result c.index-elements-index.result c.requires.order c.requires.within some
    c.index-elements-index.is c.requires.before c.parent.ensures

pub overflow_add-result : goal.overflow_add-result
overflow_add-result c =
    let some : 0 < c.args.index = omega (arith, c.if-index-eq0.false) in
    omega (
      arith,
      one_deeper c.args.elements.now c.args.depths.now c.args.index c.parent.result c.index-elements-index.result c.requires.order c.requires.within some
          c.index-elements-index.is c.requires.before c.parent.ensures,
      depth_low c.args.elements.now c.args.index,
      c.ranges.index.fits,
    )
