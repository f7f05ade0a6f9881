use Rattle.std.proofs.Common.{◌≡◌}
use Rattle.std.specs.List.{slice_get}
use Rattle.rap_fields.specs.Rule.{fitting, look_of}
use Rattle.flat_tree.specs.FieldChild.{kind_in}
use Rattle.flat_tree.proofs.tree.FlatTree.first_fitting.Given as goal

-- of the children that are still to come the first that fits is that of all
abbrev pub invariant-loop-child : goal.invariant-loop-child
invariant-loop-child l =
    (goal.iterator-loop-child).can_next l.child-iterator ×
    (goal.iterator-loop-child).is_finite l.child-iterator ×
    (slice_get (fitting (kind_in l.self.elements.items) l.mark (look_of l.step) l.child-iterator) 0
    ≡ slice_get (fitting (kind_in l.self.elements.items) l.mark (look_of l.step) l.initial.child-iterator) 0)
