-- A node or a leaf that is returned.
use Rattle.syntax_tree.specs.Elements.{RangedElement, node_element, leaf_element}
use Rattle.syntax_tree.specs.declared.element.Element.{Element}
use Rattle.syntax_tree.specs.declared.element.Element.TheVariants.{Node as whole_node, Leaf as whole_leaf}

-- the value that is returned, as contracts see it
abbrev pub shown : Element → RangedElement
shown (whole_node n) = node_element n.now
shown (whole_leaf l) = leaf_element l
