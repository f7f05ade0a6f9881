use Rattle.std.proofs.Common.{ap, arith, subst, sym, ◌∙◌}
use Rattle.syntax_tree.specs.Leaves.{leaf_of_byte}
use Rattle.syntax_tree.specs.Ranged.{Ranged}
use Rattle.syntax_tree.specs.RangedForest.{RangedNode}
use Rattle.rap_ranged.proofs.TreeRows.{root_row, none_from_end}
use Rattle.syntax_tree.proofs.tree.Tree.leaf_at.Goals as goal

pub leaf_below-requires : goal.leaf_below-requires
leaf_below-requires c =
    let P : RangedNode → Type 0 = λ n. Ranged c.requires.0 n in
    let r = root_row c.requires.0 c.root.result.now (subst P (sym c.root.ensures) c.requires.1) in
    record { row = r.0; begins = omega (arith, r.1) }

pub returns : goal.returns
returns c =
    let same = c.leaf_below.ensures ∙ ap (λ (n : RangedNode). leaf_of_byte c.args.offset n.children) c.root.ensures in
    record { leaf = same; none = none_from_end c.requires.0 c.args.self.now.root c.args.offset c.leaf_below.result c.requires.1 same }
