-- What a text shows of the children of a node of an output.
use Rattle.std.specs.Prelude.{true, false, List, [], ◌∷◌, ◌++◌}
use Rattle.rap_base.specs.NodeKind.{NAME_REF}
use Rattle.rap_base.specs.TokenKind.{DOT}
use Rattle.rap_events.specs.Forest.{Forest, none, node, leaf, message, split}
use Rattle.rap_grammar_table.specs.Shapes.{Child, leaf_child, node_child, message_child}

-- What stands behind a node of a float at the end of its children: the dot, and the number after it, if there is one.
abbrev pub behind : Forest → List Child
behind none = []
behind (node before kind children) = []
behind (leaf before kind width) = []
behind (message before bytes) = []
behind (split before true) = leaf_child DOT ∷ []
behind (split before false) = leaf_child DOT ∷ node_child NAME_REF ∷ []

-- The children of a node as the text shows them: a float that is taken apart is a name inside the node that it ends, and
-- what stands behind that node.
abbrev pub shown : Forest → List Child
shown none = []
shown (node before kind children) = shown before ++ (node_child kind ∷ behind children)
shown (leaf before kind width) = shown before ++ leaf_child kind ∷ []
shown (message before bytes) = shown before ++ message_child ∷ []
shown (split before ends_in_dot) = shown before ++ node_child NAME_REF ∷ []
