use Rattle.std.proofs.Common.{ap, arith}
use Rattle.flat_tree.specs.declared.element.Element.{Element}
use Rattle.flat_tree.proofs.Bytes.{read_is}
use Rattle.flat_tree.proofs.leaf_at.begun_between.Goals as goal

pub halves-preserved : goal.halves-preserved
halves-preserved c =
    let middle = c.index-elements-middle in
    record {
      ordered = omega arith;
      bound = omega arith;
      before = c.halves.invariant.before;
      later = λ e h.
          let same = ap (λ (x : Element). x.start) (read_is c.args.elements.now _ middle.result e (omega arith) middle.is h) in
          omega (arith, same, c.start.ensures, c.if-start-offset.false);
    }
