use Rattle.std.proofs.Common.{◌≡◌, None}
use Rattle.std.specs.List.{last_or}
use Rattle.rap_fields.specs.Rule.{fitting, look_of}
use Rattle.flat_tree.specs.FieldChild.{kind_in}
use Rattle.flat_tree.proofs.tree.FlatTree.last_fitting.Given as goal

-- the last that fits is that of the children still to come, or else the one that was found
abbrev pub invariant-children : goal.invariant-children
invariant-children l =
    (goal.iterator-children).can_next l.child-iterator ×
    (goal.iterator-children).is_finite l.child-iterator ×
    (last_or l.last (fitting (kind_in l.self.elements.items) l.mark (look_of l.step) l.child-iterator)
    ≡ last_or None (fitting (kind_in l.self.elements.items) l.mark (look_of l.step) l.initial.child-iterator))
