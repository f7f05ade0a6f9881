use Rattle.std.proofs.Common.{◌≡◌, None, length}
use Rattle.rap_fields.specs.Rule.{fitting, look_of}
use Rattle.flat_tree.specs.FieldChild.{kind_in}
use Rattle.flat_tree.proofs.field_children.FieldChildrenIterator.next.Given as goal

-- what is still to come is that of the children that fits
abbrev pub invariant-children : goal.invariant-children
invariant-children l =
    (l.self-inside.one ≡ None) ×
    (l.fn.self ≡ fitting (kind_in l.self-inside.elements.now) l.self-inside.mark (look_of l.self-inside.step) l.self-inside.children)

abbrev pub decreases-children : goal.decreases-children
decreases-children l = length l.self-inside.children
