-- Trees over a text, in a row.
use Rattle.std.specs.Prelude.{ℕ, List, [], ◌∷◌, ◌++◌, Bool, true, false}
use Rattle.rap_lexed.specs.LexedStr.{Token}
use Rattle.rap_lexed.specs.StrStep.{StrStepValue, str_enter, str_exit, str_token, str_error}

-- Nothing, or a forest and one thing after it: a node over a forest, a leaf with its bytes, or a message with the
-- byte of the text at which it stands.
pub data StrForest : Type 0 where
  str_none : StrForest
  str_node : StrForest → ℕ → StrForest → StrForest
  str_leaf : StrForest → ℕ → List ℕ → StrForest
  str_message : StrForest → List ℕ → ℕ → StrForest

-- its steps, from left to right
abbrev pub str_flat : StrForest → List StrStepValue
str_flat str_none = []
str_flat (str_node before kind children) = str_flat before ++ str_enter kind ∷ (str_flat children ++ str_exit ∷ [])
str_flat (str_leaf before kind text) = str_flat before ++ str_token kind text ∷ []
str_flat (str_message before bytes pos) = str_flat before ++ str_error bytes pos ∷ []

-- the texts of its leaves, joined
abbrev pub str_joined : StrForest → List ℕ
str_joined str_none = []
str_joined (str_node before kind children) = str_joined before ++ str_joined children
str_joined (str_leaf before kind text) = str_joined before ++ text
str_joined (str_message before bytes pos) = str_joined before

-- whether it is exactly one node, with nothing beside it
abbrev pub str_one_tree : StrForest → Bool
str_one_tree str_none = false
str_one_tree (str_node str_none kind children) = true
str_one_tree (str_node (str_node f k x) kind children) = false
str_one_tree (str_node (str_leaf f k t) kind children) = false
str_one_tree (str_node (str_message f m p) kind children) = false
str_one_tree (str_leaf before kind text) = false
str_one_tree (str_message before bytes pos) = false

-- the forest, and a leaf after it for each of the tokens
abbrev pub with_leaves : StrForest → List Token → StrForest
with_leaves f [] = f
with_leaves f (t ∷ ts) = with_leaves (str_leaf f t.kind t.text) ts

-- the forest, and a message after it: at the end of the node that it follows, where it follows one
abbrev pub with_message : StrForest → List ℕ → ℕ → StrForest
with_message str_none bytes pos = str_message str_none bytes pos
with_message (str_node before kind children) bytes pos = str_node before kind (str_message children bytes pos)
with_message (str_leaf before kind text) bytes pos = str_message (str_leaf before kind text) bytes pos
with_message (str_message before m p) bytes pos = str_message (str_message before m p) bytes pos
