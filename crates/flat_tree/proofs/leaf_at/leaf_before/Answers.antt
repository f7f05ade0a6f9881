use Rattle.std.proofs.Common.{◌-◌, sym, arith}
use Rattle.flat_tree.proofs.Bytes.{read_at}
use Rattle.flat_tree.proofs.ByteLeaves.{leaf_is, none_begun, none_holds, whole_count}
use Rattle.flat_tree.proofs.leaf_at.leaf_before.Goals as goal

pub returns-then-count-eq0 : goal.returns-then-count-eq0
returns-then-count-eq0 c = λ f root r is.
    none_begun f root c.args.elements.now c.args.offset c.args.count r is c.requires c.if-count-eq0.true

pub returns-then-offset-end : goal.returns-then-offset-end
returns-then-offset-end c = λ f root r is.
    let low = c.requires.bound in
    leaf_is f root c.args.elements.now c.args.offset c.args.count (c.args.count - 1) c.index-elements-index.result r is c.requires
    (omega arith) (read_at c.args.elements.now _ c.index-elements-index.result (omega (arith, low)) c.index-elements-index.is) (omega (arith, c.end.ensures, c.if-offset-end.true))

pub returns-else-offset-end : goal.returns-else-offset-end
returns-else-offset-end c = λ f root r is.
    let low = c.requires.bound in
    none_holds f root c.args.elements.now c.args.offset c.args.count (c.args.count - 1) c.index-elements-index.result r is c.requires
    (omega arith) (read_at c.args.elements.now _ c.index-elements-index.result (omega (arith, low)) c.index-elements-index.is) (omega (arith, c.end.ensures, c.if-offset-end.false))

pub returns-then-index-whole : goal.returns-then-index-whole
returns-then-index-whole c = λ f root r is.
    absurd (omega (
      arith,
      whole_count root c.args.elements.now c.in_ok-first.field-0.now is (sym c.in_ok-first.ensures.value),
      c.after-whole.ensures,
      c.requires.bound,
      c.if-index-whole.true,
    ))
