-- The nodes of a text's tree, and from which nodes of the output they come.
use Rattle.std.specs.Prelude.{◌≡◌, ◌⊎◌, ◌==◌, ◌&&◌, not, ℕ, Bool, true, false, List, [], ◌∷◌, ◌++◌}
use Rattle.rap_base.specs.NodeKind.{NAME_REF}
use Rattle.rap_base.specs.TokenKind.{ERROR, FLOAT_NUMBER, INT_NUMBER}
use Rattle.rap_base.specs.TokenTests.{is_trivia}
use Rattle.rap_base.specs.declared.edition.Edition.{Edition}
use Rattle.rap_events.specs.Cover.{covers}
use Rattle.rap_events.specs.Forest.{Forest, none, node}
use Rattle.rap_grammar_ends.specs.StandsIn.{NodeAt}
use Rattle.rap_grammar_shapes.specs.HaveShapes.{HaveShapesWithin}
use Rattle.rap_grammar_shapes.specs.Shapes.{shape_of}
use Rattle.rap_grammar_shapes.specs.Spelled.{spelled_children}
use Rattle.rap_grammar_table.specs.Shapes.{Child, leaf_child, node_child, message_child, Spells}
use Rattle.rap_lexed.specs.Input.{records}
use Rattle.rap_lexed.specs.StrForest.{StrForest, str_none, str_node, str_leaf, str_message}
use Rattle.rap_lexed.specs.Token.{Token}
use Rattle.rap_lexed.specs.Trivia.{with_trivia}
use Rattle.rap_text_nodes.specs.Shown.{shown}

-- A node of this kind over this forest stands somewhere in a text's forest.
pub data TextNodeAt : StrForest → ℕ → StrForest → Type 0 where
  last_node : {f x : StrForest} {kind : ℕ} → TextNodeAt (str_node f kind x) kind x
  in_last_node : {f x y : StrForest} {k kind : ℕ} → TextNodeAt x kind y → TextNodeAt (str_node f k x) kind y
  before_node : {f x y : StrForest} {k kind : ℕ} → TextNodeAt f kind y → TextNodeAt (str_node f k x) kind y
  before_leaf : {f y : StrForest} {k kind : ℕ} {text : List ℕ} → TextNodeAt f kind y → TextNodeAt (str_leaf f k text) kind y
  before_message : {f y : StrForest} {bytes : List ℕ} {pos kind : ℕ} → TextNodeAt f kind y →
      TextNodeAt (str_message f bytes pos) kind y

-- its children by their kinds, without white space and comments
abbrev pub leaf_if : Bool → ℕ → List Child
leaf_if true kind = []
leaf_if false kind = leaf_child kind ∷ []

abbrev pub text_children : StrForest → List Child
text_children str_none = []
text_children (str_node before kind children) = text_children before ++ node_child kind ∷ []
text_children (str_leaf before kind text) = text_children before ++ leaf_if (is_trivia kind) kind
text_children (str_message before bytes pos) = text_children before ++ message_child ∷ []

-- A message or an ERROR is last in it.
abbrev pub ends_badly : StrForest → Bool
ends_badly str_none = false
ends_badly (str_node before kind children) = kind == ERROR
ends_badly (str_leaf before kind text) = false
ends_badly (str_message before bytes pos) = true

-- No message and no ERROR is right under a node, nor last in a node right under it: a message stands at the end of the
-- node that it follows.
abbrev pub is_whole_text : StrForest → Bool
is_whole_text str_none = true
is_whole_text (str_node before kind children) = is_whole_text before && (not (kind == ERROR) && not (ends_badly children))
is_whole_text (str_leaf before kind text) = is_whole_text before
is_whole_text (str_message before bytes pos) = false

-- Where the node comes from. It is a node of the output, of the same kind, and its children are what the text shows of
-- that node's, of which the shape of the kind spells all but a dot in which a float ends, if the node is no ERROR over
-- everything. Or it is a number of a float that is taken apart, as the name of a field, or such a float that has no dot.
pub data IsShaped (output : Forest) : ℕ → StrForest → Type 0 where
  of_output : {place kind : ℕ} {inside : Forest} {children : StrForest} → NodeAt output place kind inside →
      text_children children ≡ shown inside →
      (output ≡ node none ERROR inside) ⊎ Spells (shape_of kind) (spelled_children inside) → IsShaped output kind children
  of_number : {children : StrForest} → text_children children ≡ leaf_child INT_NUMBER ∷ [] →
      IsShaped output NAME_REF children
  of_no_field : {children : StrForest} → text_children children ≡ leaf_child FLOAT_NUMBER ∷ [] →
      IsShaped output ERROR children

-- Each node of the tree of these tokens comes so from the output, where nothing is wrong right under it.
abbrev pub AreShaped : List Token → Forest → Type 0
AreShaped tokens output =
    (kind : ℕ) (children : StrForest) → TextNodeAt (with_trivia tokens output) kind children →
    is_whole_text children ≡ true → IsShaped output kind children

-- This is so of each output that covers the tokens of a text, and whose nodes have the shapes of their kinds.
abbrev pub TextNodesAreShaped : Type 0
TextNodesAreShaped =
    (tokens : List Token) (edition : Edition) (output : Forest) → covers (records tokens edition) output ≡ true →
    HaveShapesWithin output → AreShaped tokens output
