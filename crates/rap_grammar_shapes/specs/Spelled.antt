-- The children of a node as its shape spells them.
use Rattle.std.specs.Prelude.{true, false, List, [], ◌∷◌, ◌++◌}
use Rattle.rap_base.specs.NodeKind.{NAME_REF}
use Rattle.rap_base.specs.TokenKind.{DOT}
use Rattle.rap_events.specs.Forest.{Forest, none, node, leaf, message, split}
use Rattle.rap_grammar_table.specs.Shapes.{Child, leaf_child, node_child, message_child}

-- What stands behind a field that ends in a float: the dot and the number after it, if there is one.
abbrev pub number_behind : Forest → List Child
number_behind none = []
number_behind (node before kind children) = []
number_behind (leaf before kind width) = []
number_behind (message before bytes) = []
number_behind (split before true) = []
number_behind (split before false) = leaf_child DOT ∷ node_child NAME_REF ∷ []

-- The children of a node, where a float that is taken apart is two names: in `x.1.2` one is last in the inner field, and
-- the dot and the other one stand behind that field. In `x.1.` the dot counts as a part of the field.
abbrev pub spelled_children : Forest → List Child
spelled_children none = []
spelled_children (node before kind children) =
    spelled_children before ++ (node_child kind ∷ number_behind children)
spelled_children (leaf before kind width) = spelled_children before ++ leaf_child kind ∷ []
spelled_children (message before bytes) = spelled_children before ++ message_child ∷ []
spelled_children (split before ends_in_dot) = spelled_children before ++ node_child NAME_REF ∷ []
