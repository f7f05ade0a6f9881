-- What the children of each node of the table's trees are, by their kinds: a shape for each kind, from the rows.
use Rattle.std.specs.Prelude.{◌==◌, ◌&&◌, ◌||◌, ℕ, zero, suc, Bool, true, false, List, [], ◌∷◌, ◌++◌, ◌≡◌}
use Rattle.rap_base.specs.NodeKind.{MACRO_ITEMS, MACRO_STMTS, SOURCE_FILE}
use Rattle.rap_events.specs.Forest.{Forest, none, node, leaf, message, split}
use Rattle.rap_grammar_table.specs.Numbers.{categories, number}
use Rattle.rap_grammar_table.specs.Category.{Category}
use Rattle.rap_grammar_table.specs.Rows.{grammar}
use Rattle.rap_grammar_table.specs.Known.{among}
use Rattle.rap_grammar_table.specs.Table.{Piece, tok, word, comp, cat, Items, nil, begin, close, piece, choice, repeat, turns_of, group, folds, folding, way, unless}
use Rattle.rap_grammar_table.specs.Tops.{file_row, items_row, stmts_row}

-- A child: a leaf or a node of this kind, a message, or a float that is taken apart.
pub data Child : Type 0 where
  leaf_child : ℕ → Child
  node_child : ℕ → Child
  message_child : Child
  float_child : Child

abbrev pub children_of : Forest → List Child
children_of none = []
children_of (node before kind children) = children_of before ++ node_child kind ∷ []
children_of (leaf before kind width) = children_of before ++ leaf_child kind ∷ []
children_of (message before bytes) = children_of before ++ message_child ∷ []
children_of (split before ends_in_dot) = children_of before ++ float_child ∷ []

-- Nothing; a leaf of one of these kinds, or any leaf; a node of one of these kinds; a float that is taken apart; one after
-- another; one of two; any number of one. (Of the rows no shape has any leaf or such a float.)
infixl 5 ◌⋅◌
infixl 4 ◌or◌
pub data Shape : Type 0 where
  nothing : Shape
  leaf_of : List ℕ → Shape
  any_leaf : Shape
  node_of : List ℕ → Shape
  a_float : Shape
  ◌⋅◌ : Shape → Shape → Shape
  ◌or◌ : Shape → Shape → Shape
  any_of : Shape → Shape

-- these children, in order, are of this shape
pub data Spells : Shape → List Child → Type 0 where
  no_child : Spells nothing []
  a_leaf : {kinds : List ℕ} {kind : ℕ} → among kinds kind ≡ true → Spells (leaf_of kinds) (leaf_child kind ∷ [])
  some_leaf : {kind : ℕ} → Spells any_leaf (leaf_child kind ∷ [])
  a_node : {kinds : List ℕ} {kind : ℕ} → among kinds kind ≡ true → Spells (node_of kinds) (node_child kind ∷ [])
  the_float : Spells a_float (float_child ∷ [])
  in_order : {a b : Shape} {cs ds : List Child} → Spells a cs → Spells b ds → Spells (a ⋅ b) (cs ++ ds)
  by_first : {a b : Shape} {cs : List Child} → Spells a cs → Spells (a or b) cs
  by_second : {a b : Shape} {cs : List Child} → Spells b cs → Spells (a or b) cs
  no_more : {a : Shape} → Spells (any_of a) []
  one_more : {a : Shape} {cs ds : List Child} → Spells a cs → Spells (any_of a) ds → Spells (any_of a) (cs ++ ds)

-- kinds of both lists, each once
abbrev pub added_if : Bool → ℕ → List ℕ → List ℕ
added_if true k ks = ks
added_if false k ks = k ∷ ks

abbrev pub joined : List ℕ → List ℕ → List ℕ
joined [] js = js
joined (k ∷ ks) js = added_if (among js k) k (joined ks js)

-- one after another, one of two, and turns before what stands last, each written shortly
abbrev pub after : Shape → Shape → Shape
after nothing b = b
after a b = a ⋅ b

abbrev pub either_of : Shape → Shape → Shape
either_of (leaf_of ks) (leaf_of js) = leaf_of (joined ks js)
either_of (node_of ks) (node_of js) = node_of (joined ks js)
either_of a b = a or b

abbrev pub turns : Shape → Shape → Shape
turns a nothing = any_of a
turns a z = any_of a ⋅ z

-- what stands last, and another in its place
abbrev pub last_of : Shape → Shape
last_of (a ⋅ b) = b
last_of a = a

abbrev pub with_last : Shape → Shape → Shape
with_last (a ⋅ b) l = a ⋅ l
with_last a l = l

-- a piece, where a category is of this shape
abbrev pub piece_shape : (Category → Shape) → Piece → Shape
piece_shape f (tok kinds words) = leaf_of kinds
piece_shape f (word kind) = leaf_of (kind ∷ [])
piece_shape f (comp kind) = leaf_of (kind ∷ [])
piece_shape f (cat category) = f category

-- The tree of a row, one leaf or one node: what stands last in it outside of its nodes, of which so many are open. Of
-- turns, what they end, or what they are put around.
abbrev pub root : (Category → Shape) → ℕ → Shape → Items → Shape
root f n x nil = x
root f n x (begin a) = root f (suc n) x a
root f zero x (close k a) = root f zero x a
root f (suc zero) x (close k a) = root f zero (node_of (k ∷ [])) a
root f (suc (suc n)) x (close k a) = root f (suc n) x a
root f zero x (piece p a) = root f zero (piece_shape f p) a
root f (suc n) x (piece p a) = root f (suc n) x a
root f n x (choice a b c) = root f n x c
root f n x (repeat a z c) = root f n x c
root f n x (turns_of a z) = x
root f n x (group a c) = root f n x c
root f zero x (folds m ws c) = root f zero (root f zero x ws) c
root f (suc n) x (folds m ws c) = root f (suc n) x c
root f n x (folding m ws) = x
root f n x (way js a m ws) = either_of (root f (suc zero) nothing a) (root f n x ws)
root f n x (unless h w a) = root f n x a

-- The tree of a category, by its rows; and those of all, after so many rounds, each of which takes what the round
-- before it found where a row is a category alone or has turns behind one. No row takes more than six: it is computed
-- that each row is within its category's.
abbrev pub roots_by : (Category → Shape) → List Items → Shape
roots_by f [] = node_of []
roots_by f (r ∷ []) = root f zero nothing r
roots_by f (r ∷ q ∷ rs) = either_of (root f zero nothing r) (roots_by f (q ∷ rs))

abbrev pub shape_at : List Shape → ℕ → Shape
shape_at [] n = node_of []
shape_at (s ∷ ss) zero = s
shape_at (s ∷ ss) (suc n) = shape_at ss n

abbrev pub root_in : List Shape → Category → Shape
root_in shapes category = shape_at shapes (number category)

abbrev pub roots_each : (Category → Shape) → List Category → List Shape
roots_each f [] = []
roots_each f (c ∷ cs) = roots_by f (grammar c) ∷ roots_each f cs

abbrev pub roots_after : ℕ → List Category → List Shape
roots_after zero cs = []
roots_after (suc n) cs = roots_each (root_in (roots_after n cs)) cs

abbrev pub roots : List Shape
roots = roots_after 6 categories

-- What stands in the newest open node at the end of a part of a row, where this stands before the part, and these in
-- the older ones. Of turns as above.
abbrev pub ends : (Category → Shape) → Shape → List Shape → Items → Shape
ends f x xs nil = x
ends f x xs (begin a) = ends f nothing (x ∷ xs) a
ends f x [] (close k a) = ends f x [] a
ends f x (z ∷ zs) (close k a) = ends f (after z (node_of (k ∷ []))) zs a
ends f x xs (piece p a) = ends f (after x (piece_shape f p)) xs a
ends f x xs (choice a b c) = ends f (after x (either_of (ends f nothing [] a) (ends f nothing [] b))) xs c
ends f x xs (repeat a z c) = ends f (after x (turns (ends f nothing [] a) (ends f nothing [] z))) xs c
ends f x xs (turns_of a z) = x
ends f x xs (group a c) = ends f (after x (ends f nothing [] a)) xs c
ends f x xs (folds n ws c) = ends f (with_last x (ends f (last_of x) [] ws)) xs c
ends f x xs (folding n ws) = x
ends f x xs (way js a m ws) = either_of (ends f nothing (nothing ∷ []) a) (ends f x xs ws)
ends f x xs (unless h w a) = ends f x xs a

-- the nodes in such a part: the kind of each, and what stands in it
abbrev pub nodes_in : (Category → Shape) → Shape → List Shape → Items → List (ℕ × Shape)
nodes_in f x xs nil = []
nodes_in f x xs (begin a) = nodes_in f nothing (x ∷ xs) a
nodes_in f x [] (close k a) = nodes_in f x [] a
nodes_in f x (z ∷ zs) (close k a) = (k, x) ∷ nodes_in f (after z (node_of (k ∷ []))) zs a
nodes_in f x xs (piece p a) = nodes_in f (after x (piece_shape f p)) xs a
nodes_in f x xs (choice a b c) =
    nodes_in f nothing [] a ++
    (nodes_in f nothing [] b ++
    nodes_in f (after x (either_of (ends f nothing [] a) (ends f nothing [] b))) xs c)
nodes_in f x xs (repeat a z c) =
    nodes_in f nothing [] a ++
    (nodes_in f nothing [] z ++ nodes_in f (after x (turns (ends f nothing [] a) (ends f nothing [] z))) xs c)
nodes_in f x xs (turns_of a z) = []
nodes_in f x xs (group a c) = nodes_in f nothing [] a ++ nodes_in f (after x (ends f nothing [] a)) xs c
nodes_in f x xs (folds n ws c) =
    nodes_in f (ends f (last_of x) [] ws) [] ws ++ nodes_in f (with_last x (ends f (last_of x) [] ws)) xs c
nodes_in f x xs (folding n ws) = []
nodes_in f x xs (way js a m ws) = nodes_in f x (nothing ∷ []) a ++ nodes_in f x xs ws
nodes_in f x xs (unless h w a) = nodes_in f x xs a

-- in all rows, and in the rows of the entries, with the nodes over these
abbrev pub nodes_by : (Category → Shape) → List Items → List (ℕ × Shape)
nodes_by f [] = []
nodes_by f (r ∷ rs) = nodes_in f nothing [] r ++ nodes_by f rs

abbrev pub nodes_each : (Category → Shape) → List Category → List (ℕ × Shape)
nodes_each f [] = []
nodes_each f (c ∷ cs) = nodes_by f (grammar c) ++ nodes_each f cs

abbrev pub nodes_over : (Category → Shape) → ℕ → Items → List (ℕ × Shape)
nodes_over f kind row = (kind, ends f nothing [] row) ∷ nodes_in f nothing [] row

abbrev pub nodes_of_all : (Category → Shape) → List (ℕ × Shape)
nodes_of_all f =
    nodes_over f SOURCE_FILE file_row ++
    (nodes_over f MACRO_ITEMS items_row ++ (nodes_over f MACRO_STMTS stmts_row ++ nodes_each f categories))

abbrev pub all_nodes : List (ℕ × Shape)
all_nodes = nodes_of_all (root_in roots)

-- the same kinds, the same shapes, and shapes of which each stands once
abbrev pub same_kinds : List ℕ → List ℕ → Bool
same_kinds [] [] = true
same_kinds (k ∷ ks) (j ∷ js) = (k == j) && same_kinds ks js
same_kinds ks js = false

abbrev pub same_shape : Shape → Shape → Bool
same_shape nothing nothing = true
same_shape (leaf_of ks) (leaf_of js) = same_kinds ks js
same_shape any_leaf any_leaf = true
same_shape (node_of ks) (node_of js) = same_kinds ks js
same_shape a_float a_float = true
same_shape (a ⋅ b) (x ⋅ y) = same_shape a x && same_shape b y
same_shape (a or b) (x or y) = same_shape a x && same_shape b y
same_shape (any_of a) (any_of x) = same_shape a x
same_shape a b = false

abbrev pub is_in : Shape → List Shape → Bool
is_in s [] = false
is_in s (r ∷ rs) = same_shape s r || is_in s rs

abbrev pub unless_in : Bool → Shape → List Shape → List Shape
unless_in true s ss = ss
unless_in false s ss = s ∷ ss

abbrev pub with_shape : Bool → Shape → List Shape → List Shape
with_shape true s ss = unless_in (is_in s ss) s ss
with_shape false s ss = ss

-- The shapes of the nodes of a kind; and its shape, any of these. Of a kind that no row has there is none.
abbrev pub shapes_among : ℕ → List (ℕ × Shape) → List Shape
shapes_among kind [] = []
shapes_among kind (row ∷ rows) = with_shape (row.0 == kind) row.1 (shapes_among kind rows)

abbrev pub any_shape : List Shape → Shape
any_shape [] = node_of []
any_shape (s ∷ []) = s
any_shape (s ∷ r ∷ ss) = s or any_shape (r ∷ ss)

abbrev pub shape : ℕ → Shape
shape kind = any_shape (shapes_among kind all_nodes)
