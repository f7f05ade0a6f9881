-- What may stand under an open node, by the kinds of its children.
use Rattle.std.specs.Prelude.{◌≡◌, ◌==◌, ◌||◌, ℕ, Bool, true, false, List, [], ◌∷◌, ◌++◌, Option, Some, None}
use Rattle.rap_base.specs.TokenKind.{ERROR}
use Rattle.rap_grammar_table.specs.Known.{among}
use Rattle.rap_grammar_table.specs.Shapes.{Child, leaf_child, node_child, message_child, float_child}
use Rattle.rap_grammar_shapes.specs.Whole.{are_sound}

-- whether a message is among these children
abbrev pub is_message : Child → Bool
is_message (leaf_child kind) = false
is_message (node_child kind) = false
is_message message_child = true
is_message float_child = false

abbrev pub has_message : List Child → Bool
has_message [] = false
has_message (c ∷ cs) = is_message c || has_message cs

-- whether a float is among them
abbrev pub is_float : Child → Bool
is_float (leaf_child kind) = false
is_float (node_child kind) = false
is_float message_child = false
is_float float_child = true

abbrev pub has_float : List Child → Bool
has_float [] = false
has_float (c ∷ cs) = is_float c || has_float cs

-- Nothing; a leaf or a node of one of these kinds; any leaf; a float that is taken apart; any children among which a
-- message is; any among which an ERROR is, of which no message may tell yet; one after another; one of two; any number
-- of one.
infixl 5 ◌⋅◌
infixl 4 ◌or◌
pub data Content : Type 0 where
  nothing : Content
  leaf_of : List ℕ → Content
  any_leaf : Content
  node_of : List ℕ → Content
  a_float : Content
  spoilt : Content
  owed : Content
  ◌⋅◌ : Content → Content → Content
  ◌or◌ : Content → Content → Content
  any_of : Content → Content

-- These children, in order, are such a content.
pub data Holds : Content → List Child → Type 0 where
  no_child : Holds nothing []
  a_leaf : {kinds : List ℕ} {kind : ℕ} → among kinds kind ≡ true → Holds (leaf_of kinds) (leaf_child kind ∷ [])
  some_leaf : {kind : ℕ} → Holds any_leaf (leaf_child kind ∷ [])
  a_node : {kinds : List ℕ} {kind : ℕ} → among kinds kind ≡ true → Holds (node_of kinds) (node_child kind ∷ [])
  the_float : Holds a_float (float_child ∷ [])
  is_told : {cs : List Child} → has_message cs ≡ true → Holds spoilt cs
  not_whole : {cs : List Child} → are_sound cs ≡ false → Holds owed cs
  in_order : {a b : Content} {cs ds : List Child} → Holds a cs → Holds b ds → Holds (a ⋅ b) (cs ++ ds)
  by_first : {a b : Content} {cs : List Child} → Holds a cs → Holds (a or b) cs
  by_second : {a b : Content} {cs : List Child} → Holds b cs → Holds (a or b) cs
  no_more : {a : Content} → Holds (any_of a) []
  one_more : {a : Content} {cs ds : List Child} → Holds a cs → Holds (any_of a) ds → Holds (any_of a) (cs ++ ds)

-- one of two answers; the second one waits where it is bound before
abbrev pub choose : {A : Type 0} → Bool → A → A → A
choose true a b = a
choose false a b = b

-- the same kinds in the same order
abbrev pub equal_kinds : List ℕ → List ℕ → Bool
equal_kinds [] [] = true
equal_kinds [] (j ∷ js) = false
equal_kinds (k ∷ ks) [] = false
equal_kinds (k ∷ ks) (j ∷ js) = let rest = equal_kinds ks js in choose (k == j) rest false

-- the same content
abbrev pub equal : Content → Content → Bool
equal nothing nothing = true
equal (leaf_of ks) (leaf_of js) = equal_kinds ks js
equal any_leaf any_leaf = true
equal (node_of ks) (node_of js) = equal_kinds ks js
equal a_float a_float = true
equal spoilt spoilt = true
equal owed owed = true
equal (a ⋅ b) (x ⋅ y) = let rest = equal b y in choose (equal a x) rest false
equal (a or b) (x or y) = let rest = equal b y in choose (equal a x) rest false
equal (any_of a) (any_of x) = equal a x
equal a b = false

-- kinds of both lists, each once
abbrev pub added : Bool → ℕ → List ℕ → List ℕ
added true k ks = ks
added false k ks = k ∷ ks

abbrev pub united : List ℕ → List ℕ → List ℕ
united [] js = js
united (k ∷ ks) js = added (among js k) k (united ks js)

-- whether a content is one of the alternatives of another
abbrev pub is_way : Content → Content → Bool
is_way a (b or c) =
    let first = is_way a b in let second = is_way a c in choose (equal a (b or c)) true (choose first true second)
is_way a b = equal a b

-- The alternatives of a content, and one more, in which a sequence that begins as another goes on where this one does.
abbrev pub begins : Content → Content → Bool
begins h (c ⋅ d) = equal h c
begins h c = equal h c

abbrev pub continued : (Content → Content) → Content → Content
continued f (c ⋅ d) = c ⋅ f d
continued f c = c ⋅ f nothing

abbrev pub put_sequence : Content → Content → (Content → Content) → Content → Content
put_sequence h s f nothing = nothing or s
put_sequence h s f (p or q) =
    let rest = put_sequence h s f q in choose (begins h p) (continued f p or q) (p or rest)
put_sequence h s f b = choose (begins h b) (continued f b) (b or s)

-- leaves, and nodes, of other kinds
abbrev pub put_leaves : List ℕ → Content → Content
put_leaves ks (leaf_of js) = leaf_of (united ks js)
put_leaves ks (leaf_of js or q) = leaf_of (united ks js) or q
put_leaves ks (p or q) = p or put_leaves ks q
put_leaves ks b = b or leaf_of ks

abbrev pub put_nodes : List ℕ → Content → Content
put_nodes ks (node_of js) = node_of (united ks js)
put_nodes ks (node_of js or q) = node_of (united ks js) or q
put_nodes ks (p or q) = p or put_nodes ks q
put_nodes ks b = b or node_of ks

-- nothing too
abbrev pub or_nothing : Content → Content
or_nothing b = choose (is_way nothing b) b (b or nothing)

-- Either of two contents: what both begin with stands there once, and each alternative once.
abbrev pub either_of : Content → Content → Content
either_of nothing b = or_nothing b
either_of (leaf_of ks) b = let more = put_leaves ks b in choose (is_way (leaf_of ks) b) b more
either_of (node_of ks) b = let more = put_nodes ks b in choose (is_way (node_of ks) b) b more
either_of (x ⋅ y) b =
    let more = put_sequence x (x ⋅ y) (λ d. either_of y d) b in choose (is_way (x ⋅ y) b) b more
either_of (x or y) b = let more = either_of x (either_of y b) in choose (is_way (x or y) b) b more
either_of a b = let more = put_sequence a a or_nothing b in choose (is_way a b) b more

-- whether a content is spoilt from its beginning on, or is so in one way
abbrev pub spoils : Content → Bool
spoils spoilt = true
spoils (spoilt ⋅ b) = true
spoils (a or b) = spoils a || spoils b
spoils a = false

-- One content behind another, from left to right. What is spoilt takes in what stands before it, and keeps one part
-- behind it.
abbrev pub append : Content → Content → Content
append nothing b = b
append (spoilt ⋅ y) b = spoilt ⋅ b
append (x ⋅ y) b = x ⋅ append y b
append (x or y) b =
    let apart = either_of (append x b) (append y b) in choose (spoils (x or y)) apart ((x or y) ⋅ b)
append a b = a ⋅ b

abbrev pub onto : Content → Content → Content
onto a nothing = a
onto a spoilt = spoilt
onto a (b ⋅ c) = onto (onto a b) c
onto a (b or c) =
    let apart = either_of (onto a b) (onto a c) in let whole = append a (b or c) in
    choose (spoils (b or c)) apart whole
onto a b = append a b

-- the kinds of both lists, or none where one is not known
abbrev pub both_kinds : Option (List ℕ) → Option (List ℕ) → Option (List ℕ)
both_kinds None o = None
both_kinds (Some ks) None = None
both_kinds (Some ks) (Some js) = let more = united ks js in Some (choose (equal_kinds ks js) ks more)

-- the kinds of the last child, where it is always a node
abbrev pub last_nodes : Content → Option (List ℕ)
last_nodes nothing = None
last_nodes (leaf_of ks) = None
last_nodes any_leaf = None
last_nodes (node_of ks) = Some ks
last_nodes a_float = None
last_nodes spoilt = None
last_nodes owed = None
last_nodes (a ⋅ b) = last_nodes b
last_nodes (a or b) = both_kinds (last_nodes a) (last_nodes b)
last_nodes (any_of a) = None

-- what stands before it
abbrev pub before : Content → Content
before nothing = nothing
before (leaf_of ks) = nothing
before any_leaf = nothing
before (node_of ks) = nothing
before a_float = nothing
before spoilt = nothing
before owed = nothing
before (a ⋅ b) = onto a (before b)
before (a or b) = either_of (before a) (before b)
before (any_of a) = nothing

-- any number of one, written shortly
abbrev pub many : Content → Content
many nothing = nothing
many a = any_of a

-- whether a message is among all that a content holds
abbrev pub is_lost : Content → Bool
is_lost spoilt = true
is_lost (spoilt ⋅ b) = true
is_lost (a or b) = let rest = is_lost b in choose (is_lost a) rest false
is_lost a = false

-- Whether, where no message is among these children, no ERROR is.
abbrev pub is_settled : Content → Bool
is_settled nothing = true
is_settled (leaf_of ks) = true
is_settled any_leaf = true
is_settled (node_of ks) = choose (among ks ERROR) false true
is_settled a_float = true
is_settled spoilt = true
is_settled owed = false
is_settled (a ⋅ b) = let rest = is_settled b in choose (is_settled a) rest false
is_settled (a or b) = let rest = is_settled b in choose (is_settled a) rest false
is_settled (any_of a) = is_settled a
