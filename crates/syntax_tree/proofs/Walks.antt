-- What is left of a walk, and the capacity that it needs.
use Rattle.std.proofs.Common.{◌≡◌, ℕ, ◌+◌, ◌-◌, ◌<◌, ◌≤◌, max, min, List, [], ◌∷◌, ◌++◌, length, length-append, get_or, take, drop, refl, ap, sym, ◌∙◌, append_assoc, append-nil, arith}
use Rattle.std.proofs.Math.Nat.{le-max_left, le-max_right, max-le, max-zero, max-eq_right}
use Rattle.std.proofs.lemmas.List.{take_all, take_more}
use Rattle.std.specs.Borrow.{Bor}
use Rattle.std.specs.declared.ops.Range.{Range}
use Rattle.syntax_tree.specs.Children.{with_child, with_children, children_of}
use Rattle.syntax_tree.specs.Elements.{RangedElement, node_element, leaf_element, descendants_of, elements_of}
use Rattle.syntax_tree.specs.Leaves.{RangedLeaf, leaves_of}
use Rattle.syntax_tree.specs.RangedForest.{RangedForest, RangedNode, ranged_none, ranged_node, ranged_leaf}
use Rattle.syntax_tree.specs.Walking.{element_of, nodes_in, leaves_in, ahead, levels, room}
use Rattle.syntax_tree.specs.declared.node.Child.{Child}
use Rattle.syntax_tree.specs.declared.node.Child.TheVariants.{Node as a_node, Leaf as a_leaf}
use Rattle.syntax_tree.proofs.ChildLists.{children-snoc}
use Rattle.syntax_tree.proofs.ChildRows.{only}
use Rattle.syntax_tree.proofs.Weights.{weight}

max_assoc : (a b c : ℕ) → max (max a b) c ≡ max a (max b c)
max_assoc a b c =
    let outer_a : a ≤ max a (max b c) = le-max_left a (max b c) in
    let outer_b : b ≤ max a (max b c) = omega (arith, le-max_left b c, le-max_right a (max b c)) in
    let outer_c : c ≤ max a (max b c) = omega (arith, le-max_right b c, le-max_right a (max b c)) in
    let inner_a : a ≤ max (max a b) c = omega (arith, le-max_left a b, le-max_left (max a b) c) in
    let inner_b : b ≤ max (max a b) c = omega (arith, le-max_right a b, le-max_left (max a b) c) in
    let inner_c : c ≤ max (max a b) c = le-max_right (max a b) c in
    let p : max (max a b) c ≤ max a (max b c) = max-le (max-le outer_a outer_b) outer_c in
    let q : max a (max b c) ≤ max (max a b) c = max-le inner_a (max-le inner_b inner_c) in
    omega (arith, p, q)

zero_max : (a : ℕ) → max 0 a ≡ a
zero_max a = let p : 0 ≤ a = omega arith in max-eq_right p

-- the nodes and leaves below the first child, and those below the others
elements-with_child : (c : Child) (f : RangedForest) → elements_of (with_child f c) ≡ elements_of f ++ elements_of (only c)
elements-with_child (a_node n) f = refl
elements-with_child (a_leaf kind range) f = refl

abbrev pub child_elements : List Child → List RangedElement
child_elements [] = []
child_elements (c ∷ cs) = elements_of (only c) ++ child_elements cs

elements-with_children : (cs : List Child) (f : RangedForest) → elements_of (with_children f cs) ≡ elements_of f ++ child_elements cs
elements-with_children [] f = sym (append-nil (elements_of f))
elements-with_children (c ∷ cs) f =
    elements-with_children cs (with_child f c)
    ∙ ap (λ l. l ++ child_elements cs) (elements-with_child c f)
    ∙ append_assoc (elements_of f) (elements_of (only c)) (child_elements cs)

pub elements-first : (c : Child) (cs : List Child) → elements_of (children_of (c ∷ cs)) ≡ elements_of (only c) ++ elements_of (children_of cs)
elements-first c cs =
    elements-with_children (c ∷ cs) ranged_none
    ∙ ap (λ l. elements_of (only c) ++ l) (sym (elements-with_children cs ranged_none))

-- how deep children are
levels-with_child : (c : Child) (f : RangedForest) → levels (with_child f c) ≡ max (levels f) (levels (only c))
levels-with_child (a_node n) f = ap (max (levels f)) (sym (zero_max (levels n.children + 1)))
levels-with_child (a_leaf kind range) f = sym (max-zero (levels f))

abbrev pub child_levels : List Child → ℕ
child_levels [] = 0
child_levels (c ∷ cs) = max (levels (only c)) (child_levels cs)

levels-with_children : (cs : List Child) (f : RangedForest) → levels (with_children f cs) ≡ max (levels f) (child_levels cs)
levels-with_children [] f = sym (max-zero (levels f))
levels-with_children (c ∷ cs) f =
    levels-with_children cs (with_child f c)
    ∙ ap (λ n. max n (child_levels cs)) (levels-with_child c f)
    ∙ max_assoc (levels f) (levels (only c)) (child_levels cs)

pub levels-first : (c : Child) (cs : List Child) → levels (children_of (c ∷ cs)) ≡ max (levels (only c)) (levels (children_of cs))
levels-first c cs =
    levels-with_children (c ∷ cs) ranged_none
    ∙ (zero_max (child_levels (c ∷ cs))
    ∙ ap (λ n. max (levels (only c)) n) (sym (levels-with_children cs ranged_none ∙ zero_max (child_levels cs))))

-- their weight
weight-with_child : (c : Child) (f : RangedForest) → weight (with_child f c) ≡ weight f + weight (only c)
weight-with_child (a_node n) f = omega arith
weight-with_child (a_leaf kind range) f = omega arith

abbrev pub child_weight : List Child → ℕ
child_weight [] = 0
child_weight (c ∷ cs) = weight (only c) + child_weight cs

weight-with_children : (cs : List Child) (f : RangedForest) → weight (with_children f cs) ≡ weight f + child_weight cs
weight-with_children [] f = omega arith
weight-with_children (c ∷ cs) f = omega (arith, weight-with_children cs (with_child f c), weight-with_child c f)

pub weight-first : (c : Child) (cs : List Child) → weight (children_of (c ∷ cs)) ≡ weight (only c) + weight (children_of cs)
weight-first c cs = omega (arith, weight-with_children (c ∷ cs) ranged_none, weight-with_children cs ranged_none)

-- one list more
pub ahead-snoc : (ss : List (Bor (List Child))) (s : Bor (List Child)) → ahead (ss ++ s ∷ []) ≡ elements_of (children_of s.now) ++ ahead ss
ahead-snoc [] s = sym (append-nil (elements_of (children_of s.now)))
ahead-snoc (x ∷ xs) s =
    ap (λ l. l ++ elements_of (children_of x.now)) (ahead-snoc xs s)
    ∙ append_assoc (elements_of (children_of s.now)) (ahead xs) (elements_of (children_of x.now))

-- a number at least as large as two others
both_within : (a b m : ℕ) → max a b ≤ m → (a ≤ m) × (b ≤ m)
both_within a b m h = (omega (arith, h, le-max_left a b), omega (arith, h, le-max_right a b))

-- the capacity for a list that a walk holds above n others
abbrev pub needed : ℕ → Bor (List Child) → ℕ
needed held s = held + 1 + levels (children_of s.now)

pub room_of_snoc : (ss : List (Bor (List Child))) (s : Bor (List Child)) (held m : ℕ) → room held (ss ++ s ∷ []) ≤ m → (room held ss ≤ m) × (needed (held + length ss) s ≤ m)
room_of_snoc [] s held m h = let r = both_within (needed held s) 0 m h in (omega arith, omega (arith, r.0))
room_of_snoc (x ∷ xs) s held m h =
    let r = both_within (needed held x) (room (held + 1) (xs ++ s ∷ [])) m h in
    let q = room_of_snoc xs s (held + 1) m r.1 in
    (max-le r.0 q.0, omega (arith, q.1))

pub room_snoc : (ss : List (Bor (List Child))) (s : Bor (List Child)) (held m : ℕ) → room held ss ≤ m → needed (held + length ss) s ≤ m → room held (ss ++ s ∷ []) ≤ m
room_snoc [] s held m h n =
    let zero_le : 0 ≤ m = omega arith in
    let here : needed held s ≤ m = omega (arith, n) in
    max-le here zero_le
room_snoc (x ∷ xs) s held m h n =
    let r = both_within (needed held x) (room (held + 1) xs) m h in
    let deeper : needed ((held + 1) + length xs) s ≤ m = omega (arith, n) in
    max-le r.0 (room_snoc xs s (held + 1) m r.1 deeper)

-- the rest of a list, and the children of its first node
pub needed_rest : (c : Child) (cs : List Child) (held m : ℕ) → held + 1 + levels (children_of (c ∷ cs)) ≤ m → held + 1 + levels (children_of cs) ≤ m
needed_rest c cs held m h = omega (arith, h, levels-first c cs, le-max_right (levels (only c)) (levels (children_of cs)))

pub needed_node : (n : RangedNode) (cs : List Child) (held m : ℕ) → held + 1 + levels (children_of (a_node n ∷ cs)) ≤ m → held + 2 + levels n.children ≤ m
needed_node n cs held m h =
    omega (arith, h, levels-first (a_node n) cs, le-max_left (levels (only (a_node n))) (levels (children_of cs)), le-max_right 0 (levels n.children + 1))

plus_max : (k a b m : ℕ) → k + a ≤ m → k + b ≤ m → k + max a b ≤ m
plus_max k a b m h i =
    let p : a ≤ m - k = omega (arith, h) in
    let q : b ≤ m - k = omega (arith, i) in
    let r : max a b ≤ m - k = max-le p q in
    omega (arith, h, r)

pub needed_first : (c : Child) (cs : List Child) (held m : ℕ) → held + 1 + levels (only c) ≤ m → held + 1 + levels (children_of cs) ≤ m → held + 1 + levels (children_of (c ∷ cs)) ≤ m
needed_first c cs held m h i = omega (arith, levels-first c cs, plus_max (held + 1) (levels (only c)) (levels (children_of cs)) m h i)

pub needed_only : (n : RangedNode) (held m : ℕ) → held + 2 + levels n.children ≤ m → held + 1 + levels (only (a_node n)) ≤ m
needed_only n held m h =
    let p : held + 1 + 0 ≤ m = omega (arith, h) in
    let q : held + 1 + (levels n.children + 1) ≤ m = omega (arith, h) in
    plus_max (held + 1) 0 (levels n.children + 1) m p q

-- what is left of a walk: one for each list, and two for each node and leaf
abbrev pub left : List (Bor (List Child)) → ℕ
left [] = 0
left (s ∷ ss) = (1 + weight (children_of s.now)) + left ss

pub left-snoc : (ss : List (Bor (List Child))) (s : Bor (List Child)) → left (ss ++ s ∷ []) ≡ left ss + (1 + weight (children_of s.now))
left-snoc [] s = omega arith
left-snoc (x ∷ xs) s = omega (arith, left-snoc xs s)

-- a list that is not empty is its first child and the others
pub first_of : (xs : List Child) (c : Child) → 1 ≤ length xs → c ≡ get_or xs 0 c → xs ≡ c ∷ take (length xs - 1) (drop 1 xs)
first_of [] c h e = let no : ⊥ = omega (arith, h) in absurd no
first_of (x ∷ xs) c h e =
    let rest : take (length (x ∷ xs) - 1) xs ≡ xs = take_all (length (x ∷ xs) - 1) xs (omega arith) in
    ap (λ y. y ∷ xs) (sym e) ∙ ap (λ ys. c ∷ ys) (sym rest)

pub none_of : (xs : List Child) → length xs < 1 → xs ≡ []
none_of [] h = refl
none_of (x ∷ xs) h = let no : ⊥ = omega (arith, h) in absurd no

-- A step of a walk: of the lists `old` the last is `s`, those before it are `before`. Where `s` is empty, they are left.
-- Else its first child is taken, and `rest` are the others; a node's children are `inner`.
pub empty_left : (before old : List (Bor (List Child))) (s : Bor (List Child)) → old ≡ before ++ s ∷ [] → left before < left old
empty_left before old s e = omega (arith, ap left e, left-snoc before s)

weight_only : (c : Child) → 2 ≤ weight (only c)
weight_only (a_node n) = omega arith
weight_only (a_leaf kind range) = omega arith

weight_of : (s : Bor (List Child)) (c : Child) (cs : List Child) → s.now ≡ c ∷ cs → weight (children_of s.now) ≡ weight (only c) + weight (children_of cs)
weight_of s c cs is = ap (λ l. weight (children_of l)) is ∙ weight-first c cs

pub leaf_left : (before old after : List (Bor (List Child))) (s rest : Bor (List Child)) (c : Child) → old ≡ before ++ s ∷ [] → s.now ≡ c ∷ rest.now → after ≡ before ++ rest ∷ [] → left after < left old
leaf_left before old after s rest c e is a =
    omega (arith, ap left e, left-snoc before s, ap left a, left-snoc before rest, weight_of s c rest.now is, weight_only c)

pub node_left : (before old mid after : List (Bor (List Child))) (s rest inner : Bor (List Child)) (c : Child) (n : RangedNode)
    → old ≡ before ++ s ∷ [] → s.now ≡ c ∷ rest.now → c ≡ a_node n → mid ≡ before ++ rest ∷ [] → after ≡ mid ++ inner ∷ [] → children_of inner.now ≡ n.children → left after < left old
node_left before old mid after s rest inner c n e is node m a same =
    let own : weight (only c) ≡ 0 + (2 + weight n.children) = ap (λ k. weight (only k)) node in
    omega (arith, ap left e, left-snoc before s, ap left m, left-snoc before rest, ap left a, left-snoc mid inner, weight_of s c rest.now is, own, ap weight same)

needed_by : (held m : ℕ) (s : Bor (List Child)) (cs : List Child) → s.now ≡ cs → held + 1 + levels (children_of cs) ≤ m → needed held s ≤ m
needed_by held m s cs is h = omega (arith, h, ap (λ l. levels (children_of l)) is)

pub empty_room : (before old : List (Bor (List Child))) (s : Bor (List Child)) (m : ℕ) → old ≡ before ++ s ∷ [] → s.now ≡ [] → length before + 1 ≤ m → room 0 before ≤ m → room 0 old ≤ m
empty_room before old s m e is few h =
    let held : 0 + length before + 1 + 0 ≤ m = omega (arith, few) in
    omega (arith, ap (room 0) e, room_snoc before s 0 m h (needed_by (0 + length before) m s [] is held))

pub leaf_room : (before old after : List (Bor (List Child))) (s rest : Bor (List Child)) (c : Child) (kind : ℕ) (range : Range ℕ) (m : ℕ)
    → old ≡ before ++ s ∷ [] → s.now ≡ c ∷ rest.now → c ≡ a_leaf kind range → after ≡ before ++ rest ∷ [] → room 0 after ≤ m → room 0 old ≤ m
leaf_room before old after s rest c kind range m e is leaf a h =
    let held : ℕ = 0 + length before in
    let r = room_of_snoc before rest 0 m (omega (arith, h, ap (room 0) a)) in
    let here : held + 1 + levels (only c) ≤ m = omega (arith, r.1, ap (λ k. levels (only k)) leaf) in
    omega (arith, ap (room 0) e, room_snoc before s 0 m r.0 (needed_by held m s (c ∷ rest.now) is (needed_first c rest.now held m here r.1)))

pub node_room : (before old mid after : List (Bor (List Child))) (s rest inner : Bor (List Child)) (c : Child) (n : RangedNode) (m : ℕ)
    → old ≡ before ++ s ∷ [] → s.now ≡ c ∷ rest.now → c ≡ a_node n → mid ≡ before ++ rest ∷ [] → after ≡ mid ++ inner ∷ [] → children_of inner.now ≡ n.children
    → room 0 after ≤ m → room 0 old ≤ m
node_room before old mid after s rest inner c n m e is node d a same h =
    let held : ℕ = 0 + length before in
    let q = room_of_snoc mid inner 0 m (omega (arith, h, ap (room 0) a)) in
    let r = room_of_snoc before rest 0 m (omega (arith, q.0, ap (room 0) d)) in
    let deep : held + 2 + levels n.children ≤ m = omega (arith, q.1, ap length d, length-append before (rest ∷ []), ap levels same) in
    let here : held + 1 + levels (only c) ≤ m = omega (arith, needed_only n held m deep, ap (λ k. levels (only k)) node) in
    omega (arith, ap (room 0) e, room_snoc before s 0 m r.0 (needed_by held m s (c ∷ rest.now) is (needed_first c rest.now held m here r.1)))

-- the converse: the capacity for what was left is enough for what comes next
pub last_room : (before old : List (Bor (List Child))) (s : Bor (List Child)) (m : ℕ) → old ≡ before ++ s ∷ [] → room 0 old ≤ m → room 0 before ≤ m
last_room before old s m e h = (room_of_snoc before s 0 m (omega (arith, h, ap (room 0) e))).0

pub rest_room : (before old after : List (Bor (List Child))) (s rest : Bor (List Child)) (c : Child) (m : ℕ)
    → old ≡ before ++ s ∷ [] → s.now ≡ c ∷ rest.now → after ≡ before ++ rest ∷ [] → room 0 old ≤ m → (room 0 after ≤ m) × (length before < m)
rest_room before old after s rest c m e is a h =
    let held : ℕ = 0 + length before in
    let r = room_of_snoc before s 0 m (omega (arith, h, ap (room 0) e)) in
    let all : held + 1 + levels (children_of (c ∷ rest.now)) ≤ m = omega (arith, r.1, ap (λ l. levels (children_of l)) is) in
    let fits : needed held rest ≤ m = needed_rest c rest.now held m all in
    (omega (arith, ap (room 0) a, room_snoc before rest 0 m r.0 fits), omega (arith, fits))

pub inner_room : (before old mid after : List (Bor (List Child))) (s rest inner : Bor (List Child)) (c : Child) (n : RangedNode) (m : ℕ)
    → old ≡ before ++ s ∷ [] → s.now ≡ c ∷ rest.now → c ≡ a_node n → mid ≡ before ++ rest ∷ [] → after ≡ mid ++ inner ∷ [] → children_of inner.now ≡ n.children
    → room 0 old ≤ m → (room 0 after ≤ m) × (length mid < m)
inner_room before old mid after s rest inner c n m e is node d a same h =
    let held : ℕ = 0 + length before in
    let r = room_of_snoc before s 0 m (omega (arith, h, ap (room 0) e)) in
    let all : held + 1 + levels (children_of (a_node n ∷ rest.now)) ≤ m = omega (arith, r.1, ap (λ l. levels (children_of l)) (is ∙ ap (λ k. k ∷ rest.now) node)) in
    let deep : held + 2 + levels n.children ≤ m = needed_node n rest.now held m all in
    let long : length mid ≡ length before + 1 = omega (arith, ap length d, length-append before (rest ∷ [])) in
    let fits : needed (0 + length mid) inner ≤ m = omega (arith, deep, long, ap levels same) in
    let more : room 0 mid ≤ m = (rest_room before old mid s rest c m e is d h).0 in
    (omega (arith, ap (room 0) a, room_snoc mid inner 0 m more fits), omega (arith, fits))

pub empty_ahead : (before old : List (Bor (List Child))) (s : Bor (List Child)) → old ≡ before ++ s ∷ [] → s.now ≡ [] → ahead old ≡ ahead before
empty_ahead before old s e is = ap ahead e ∙ (ahead-snoc before s ∙ ap (λ l. elements_of (children_of l) ++ ahead before) is)

first_ahead : (before old : List (Bor (List Child))) (s : Bor (List Child)) (c : Child) (cs : List Child) → old ≡ before ++ s ∷ [] → s.now ≡ c ∷ cs
    → ahead old ≡ elements_of (only c) ++ (elements_of (children_of cs) ++ ahead before)
first_ahead before old s c cs e is =
    ap ahead e
    ∙ (ahead-snoc before s
    ∙ (ap (λ l. l ++ ahead before) (ap (λ l. elements_of (children_of l)) is ∙ elements-first c cs)
    ∙ append_assoc (elements_of (only c)) (elements_of (children_of cs)) (ahead before)))

pub leaf_ahead : (before old after : List (Bor (List Child))) (s rest : Bor (List Child)) (c : Child) (kind : ℕ) (range : Range ℕ)
    → old ≡ before ++ s ∷ [] → s.now ≡ c ∷ rest.now → c ≡ a_leaf kind range → after ≡ before ++ rest ∷ [] → ahead old ≡ element_of c ∷ ahead after
leaf_ahead before old after s rest c kind range e is leaf a =
    let then : ahead after ≡ elements_of (children_of rest.now) ++ ahead before = ap ahead a ∙ ahead-snoc before rest in
    first_ahead before old s c rest.now e is
    ∙ (ap (λ k. elements_of (only k) ++ (elements_of (children_of rest.now) ++ ahead before)) leaf
    ∙ (ap (λ k. element_of k ∷ (elements_of (children_of rest.now) ++ ahead before)) (sym leaf)
    ∙ ap (λ l. element_of c ∷ l) (sym then)))

pub node_ahead : (before old mid after : List (Bor (List Child))) (s rest inner : Bor (List Child)) (c : Child) (n : RangedNode)
    → old ≡ before ++ s ∷ [] → s.now ≡ c ∷ rest.now → c ≡ a_node n → mid ≡ before ++ rest ∷ [] → after ≡ mid ++ inner ∷ [] → children_of inner.now ≡ n.children
    → ahead old ≡ element_of c ∷ ahead after
node_ahead before old mid after s rest inner c n e is node d a same =
    let others : List RangedElement = elements_of (children_of rest.now) ++ ahead before in
    let then : ahead after ≡ elements_of n.children ++ others =
    ap ahead a ∙ (ahead-snoc mid inner ∙ (ap (λ f. elements_of f ++ ahead mid) same ∙ ap (λ l. elements_of n.children ++ l) (ap ahead d ∙ ahead-snoc before rest))) in
    first_ahead before old s c rest.now e is
    ∙ (ap (λ k. elements_of (only k) ++ others) node
    ∙ (ap (λ k. element_of k ∷ (elements_of n.children ++ others)) (sym node)
    ∙ ap (λ l. element_of c ∷ l) (sym then)))

-- the nodes and the leaves among the nodes and leaves of a forest
nodes-append : (xs ys : List RangedElement) → nodes_in (xs ++ ys) ≡ nodes_in xs ++ nodes_in ys
nodes-append [] ys = refl
nodes-append (node_element n ∷ xs) ys = ap (λ l. n ∷ l) (nodes-append xs ys)
nodes-append (leaf_element l ∷ xs) ys = nodes-append xs ys

pub nodes-elements : (f : RangedForest) → nodes_in (elements_of f) ≡ descendants_of f
nodes-elements ranged_none = refl
nodes-elements (ranged_node before kind start end children) =
    let n : RangedNode = record { kind = kind; start = start; end = end; children = children } in
    nodes-append (elements_of before) (node_element n ∷ elements_of children)
    ∙ (ap (λ l. l ++ n ∷ nodes_in (elements_of children)) (nodes-elements before)
    ∙ ap (λ l. descendants_of before ++ n ∷ l) (nodes-elements children))
nodes-elements (ranged_leaf before kind start end) =
    nodes-append (elements_of before) (leaf_element (record { kind = kind; start = start; end = end }) ∷ [])
    ∙ (append-nil (nodes_in (elements_of before)) ∙ nodes-elements before)

leaves-append : (xs ys : List RangedElement) → leaves_in (xs ++ ys) ≡ leaves_in xs ++ leaves_in ys
leaves-append [] ys = refl
leaves-append (node_element n ∷ xs) ys = leaves-append xs ys
leaves-append (leaf_element l ∷ xs) ys = ap (λ ls. l ∷ ls) (leaves-append xs ys)

pub leaves-elements : (f : RangedForest) → leaves_in (elements_of f) ≡ leaves_of f
leaves-elements ranged_none = refl
leaves-elements (ranged_node before kind start end children) =
    let n : RangedNode = record { kind = kind; start = start; end = end; children = children } in
    leaves-append (elements_of before) (node_element n ∷ elements_of children)
    ∙ (ap (λ l. l ++ leaves_in (elements_of children)) (leaves-elements before)
    ∙ ap (λ l. leaves_of before ++ l) (leaves-elements children))
leaves-elements (ranged_leaf before kind start end) =
    let l : RangedLeaf = record { kind = kind; start = start; end = end } in
    leaves-append (elements_of before) (leaf_element l ∷ [])
    ∙ ap (λ ls. ls ++ l ∷ []) (leaves-elements before)

-- The depth of the first of some children, and of the next: a number at least as large as the depth of the lists below
-- those, or one that says nothing.
levels-more : (cs : List Child) (i : ℕ) (c : Child) → i < length cs → c ≡ get_or cs i c → levels (children_of (take (i + 1) cs)) ≡ max (levels (children_of (take i cs))) (levels (only c))
levels-more cs i c low read =
    let more : take (i + 1) cs ≡ take i cs ++ c ∷ [] = take_more cs i c low ∙ ap (λ d. take i cs ++ d ∷ []) (sym read) in
    ap levels (children-snoc (take i cs) (take (i + 1) cs) c more) ∙ levels-with_child c (children_of (take i cs))

pub deep_node : (cs : List Child) (i most deeper next deep : ℕ) (c : Child) (n : RangedNode) → i < length cs → c ≡ get_or cs i c → c ≡ a_node n
    → (most < 4294967295 → levels (children_of (take i cs)) ≤ most) → (deep < 4294967295 → levels n.children ≤ deep)
    → deeper ≡ min (deep + 1) 4294967295 → next ≡ max most deeper → next < 4294967295 → levels (children_of (take (i + 1) cs)) ≤ next
deep_node cs i most deeper next deep c n low read node before inside one two few =
    let more = levels-more cs i c low read in
    let own : levels (only c) ≡ max 0 (levels n.children + 1) = ap (λ k. levels (only k)) node in
    omega (arith, more, own)

pub deep_leaf : (cs : List Child) (i most : ℕ) (c : Child) (kind : ℕ) (range : Range ℕ) → i < length cs → c ≡ get_or cs i c → c ≡ a_leaf kind range
    → (most < 4294967295 → levels (children_of (take i cs)) ≤ most) → most < 4294967295 → levels (children_of (take (i + 1) cs)) ≤ most
deep_leaf cs i most c kind range low read leaf before few =
    let more = levels-more cs i c low read in
    let own : levels (only c) ≡ 0 = ap (λ k. levels (only k)) leaf in
    omega (arith, more, own)
