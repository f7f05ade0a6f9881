use Rattle.std.proofs.Common.{◌≡◌, None, drop, map}
use Rattle.rap_fields.specs.Rule.{found, look_of}
use Rattle.rap_ranged.specs.RangedForest.{RangedNode}
use Rattle.flat_tree.specs.FieldChild.{kind_in}
use Rattle.flat_tree.specs.FlatTree.{elements_of_tree}
use Rattle.flat_tree.specs.Navigation.{child_indices}
use Rattle.flat_tree.proofs.tree.FlatTree.found_by.Given as goal

-- what the steps that are left find, with what was found
abbrev pub invariant-steps : goal.invariant-steps
invariant-steps l =
    (root : RangedNode) → l.self.elements.items ≡ elements_of_tree root →
    found (kind_in l.self.elements.items) l.found (map look_of (drop l.step-index l.rule)) (child_indices root l.index)
    ≡ found (kind_in l.self.elements.items) None (map look_of l.rule) (child_indices root l.index)
