-- The children that shapes spell fill the fields: each is computed of the shapes.
use Rattle.std.proofs.Common.{◌≡◌, ◌==◌, ◌&&◌, ◌||◌, ◌≤◌, nat_lt, arith, ℕ, suc, Bool, true, false, List, [], ◌∷◌, ◌++◌, Option, Some, None, refl, sym, subst, ap}
use Rattle.std.proofs.lemmas.Bool.Decides.{nat_tests}
use Rattle.rap_base.specs.NodeKind.{NAME_REF}
use Rattle.rap_events.proofs.Truth.{and_left, and_right}
use Rattle.rap_fields.specs.Field.{Field, Fills, nodes_among, nodes_are, together}
use Rattle.rap_fields.specs.Filled.{FieldsAreFilled, IsOne, NodesAreFound, first, later}
use Rattle.rap_fields.specs.Found.{found}
use Rattle.rap_fields.specs.Place.{FieldRow}
use Rattle.rap_fields.specs.Rows.{fields}
use Rattle.rap_grammar_shapes.specs.Shapes.{shape_of}
use Rattle.rap_grammar_table.specs.Counts.{IsAtMost, fewest, most, nodes_of}
use Rattle.rap_grammar_table.specs.Known.{among, every_one}
use Rattle.rap_grammar_table.specs.Shapes.{Child, leaf_child, node_child, message_child, float_child, Shape, nothing, leaf_of, any_leaf, node_of, a_float, ◌⋅◌, ◌or◌, any_of, Spells, no_child, a_leaf, some_leaf, a_node, the_float, in_order, by_first, by_second, no_more, one_more}
use Rattle.rap_grammar_table.proofs.Counts.{counted}
use Rattle.rap_grammar_table.proofs.Known.{by_or, every_so, same_number}
use Rattle.rap_grammar_table.proofs.LookLaws.{same_self}

-- Nodes of some kinds are counted as those of one kind: all of these are called 0, and all others 1.
abbrev number : Bool → ℕ
number true = 0
number false = 1

abbrev mark : List ℕ → ℕ → ℕ
mark ks j = number (among ks j)

abbrev marks : List ℕ → List ℕ → List ℕ
marks ks [] = []
marks ks (j ∷ js) = mark ks j ∷ marks ks js

abbrev marked_child : List ℕ → Child → Child
marked_child ks (leaf_child k) = leaf_child k
marked_child ks (node_child k) = node_child (mark ks k)
marked_child ks message_child = message_child
marked_child ks float_child = node_child (mark ks NAME_REF)

abbrev marked : List ℕ → List Child → List Child
marked ks [] = []
marked ks (c ∷ cs) = marked_child ks c ∷ marked ks cs

abbrev marked_shape : List ℕ → Shape → Shape
marked_shape ks nothing = nothing
marked_shape ks (leaf_of js) = leaf_of js
marked_shape ks any_leaf = any_leaf
marked_shape ks (node_of js) = node_of (marks ks js)
marked_shape ks a_float = node_of (mark ks NAME_REF ∷ [])
marked_shape ks (a ⋅ b) = marked_shape ks a ⋅ marked_shape ks b
marked_shape ks (a or b) = marked_shape ks a or marked_shape ks b
marked_shape ks (any_of a) = any_of (marked_shape ks a)

marked-append : (ks : List ℕ) (cs ds : List Child) → marked ks (cs ++ ds) ≡ marked ks cs ++ marked ks ds
marked-append ks [] ds = refl
marked-append ks (c ∷ cs) ds = ap (λ (es : List Child). marked_child ks c ∷ es) (marked-append ks cs ds)

in_marks : (ks js : List ℕ) (j : ℕ) → among js j ≡ true → among (marks ks js) (mark ks j) ≡ true
in_marks ks [] j h = absurd cc
in_marks ks (i ∷ js) j h =
    by_or (i == j) (among js j) h
    (λ e.
    this_one (mark ks i == mark ks j) (among (marks ks js) (mark ks j))
    (subst (λ (n : ℕ). (mark ks i == mark ks n) ≡ true) (same_number i j e) (same_self (mark ks i))))
    (λ n. other_one (mark ks i == mark ks j) (among (marks ks js) (mark ks j)) (in_marks ks js j n))
  where
    this_one : (b c : Bool) → b ≡ true → (b || c) ≡ true
    this_one true c h = refl
    this_one false c h = absurd cc

    other_one : (b c : Bool) → c ≡ true → (b || c) ≡ true
    other_one true c h = refl
    other_one false c h = h

spells_marked : (ks : List ℕ) {s : Shape} {cs : List Child} → Spells s cs → Spells (marked_shape ks s) (marked ks cs)
spells_marked ks no_child = no_child
spells_marked ks (a_leaf m) = a_leaf m
spells_marked ks some_leaf = some_leaf
spells_marked ks (a_node {kinds = js} {kind = j} m) = a_node (in_marks ks js j m)
spells_marked ks the_float = a_node (in_marks ks (NAME_REF ∷ []) NAME_REF refl)
spells_marked ks (in_order {a = a} {b = b} {cs = cs} {ds = ds} s t) =
    subst (λ (es : List Child). Spells (marked_shape ks a ⋅ marked_shape ks b) es) (sym (marked-append ks cs ds))
    (in_order (spells_marked ks s) (spells_marked ks t))
spells_marked ks (by_first s) = by_first (spells_marked ks s)
spells_marked ks (by_second s) = by_second (spells_marked ks s)
spells_marked ks no_more = no_more
spells_marked ks (one_more {a = a} {cs = cs} {ds = ds} s t) =
    subst (λ (es : List Child). Spells (any_of (marked_shape ks a)) es) (sym (marked-append ks cs ds))
    (one_more (spells_marked ks s) (spells_marked ks t))

is_first : (b : Bool) → (number b == 0) ≡ b
is_first true = refl
is_first false = refl

marked_count : (ks : List ℕ) (cs : List Child) → nodes_of 0 (marked ks cs) ≡ nodes_among ks cs
marked_count ks [] = refl
marked_count ks (leaf_child k ∷ cs) = marked_count ks cs
marked_count ks (node_child k ∷ cs) = rw (is_first (among ks k), marked_count ks cs) refl
marked_count ks (message_child ∷ cs) = marked_count ks cs
marked_count ks (float_child ∷ cs) = rw (is_first (among ks NAME_REF), marked_count ks cs) refl

-- what is computed of a field
abbrev is_below : Option ℕ → Option ℕ → Bool
is_below a None = true
is_below None (Some m) = false
is_below (Some n) (Some m) = nat_lt n (suc m)

abbrev pub fits : Shape → Field → Bool
fits s f =
    nat_lt f.fewest (suc (fewest 0 (marked_shape f.kinds s))) && is_below (most 0 (marked_shape f.kinds s)) f.most

abbrev all_fit : Shape → List FieldRow → Bool
all_fit s [] = true
all_fit s (f ∷ fs) = fits s f.field && all_fit s fs

abbrev each_fits : List (ℕ × List FieldRow) → Bool
each_fits [] = true
each_fits (row ∷ rows) = all_fit (shape_of row.0) row.1 && each_fits rows

each_so : each_fits fields ≡ true
each_so = refl

below : (n : ℕ) (a b : Option ℕ) → is_below a b ≡ true → IsAtMost n a → IsAtMost n b
below n a None h i = tt
below n None (Some m) h i = absurd cc
below n (Some x) (Some m) h i = grind (arith, nat_tests, h, i)

pub fills : (s : Shape) (f : Field) (cs : List Child) → fits s f ≡ true → Spells s cs → Fills f cs
fills s f cs h p =
    let x = marked_shape f.kinds s in
    let b = counted 0 (spells_marked f.kinds p) in
    let l = and_left (nat_lt f.fewest (suc (fewest 0 x))) (is_below (most 0 x) f.most) h in
    let e = marked_count f.kinds cs in
    record {
      at_least =
          subst (λ (n : ℕ). f.fewest ≤ n) e (least f.fewest (fewest 0 x) (nodes_of 0 (marked f.kinds cs)) l b.at_least);
      at_most =
          below (nodes_among f.kinds cs) (most 0 x) f.most
          (and_right (nat_lt f.fewest (suc (fewest 0 x))) (is_below (most 0 x) f.most) h)
          (subst (λ (n : ℕ). IsAtMost n (most 0 x)) e b.at_most);
    }
  where
    least : (n m k : ℕ) → nat_lt n (suc m) ≡ true → m ≤ k → n ≤ k
    least n m k l b = grind (arith, nat_tests, l, b)

one_fits : (s : Shape) (fs : List FieldRow) (f : FieldRow) → all_fit s fs ≡ true → IsOne f fs → fits s f.field ≡ true
one_fits s [] f h i = elim i [ ]
one_fits s (g ∷ fs) f h first = and_left (fits s g.field) (all_fit s fs) h
one_fits s (g ∷ fs) f h (later i) = one_fits s fs f (and_right (fits s g.field) (all_fit s fs) h) i

row_fits : (rows : List (ℕ × List FieldRow)) (kind : ℕ) (fs : List FieldRow) → each_fits rows ≡ true →
    IsOne (kind, fs) rows → all_fit (shape_of kind) fs ≡ true
row_fits [] kind fs h i = elim i [ ]
row_fits (row ∷ rows) kind fs h first = and_left (all_fit (shape_of kind) fs) (each_fits rows) h
row_fits (row ∷ rows) kind fs h (later i) =
    row_fits rows kind fs (and_right (all_fit (shape_of row.0) row.1) (each_fits rows) h) i

pub fields_filled : FieldsAreFilled
fields_filled kind fs f i j cs s =
    fills (shape_of kind) f.field cs (one_fits (shape_of kind) fs f (row_fits fields kind fs each_so i) j) s

-- each child that is a node is found
are-append : (ks : List ℕ) (cs ds : List Child) → nodes_are ks cs ≡ true → nodes_are ks ds ≡ true →
    nodes_are ks (cs ++ ds) ≡ true
are-append ks [] ds h i = i
are-append ks (leaf_child j ∷ cs) ds h i = are-append ks cs ds h i
are-append ks (node_child j ∷ cs) ds h i =
    rw (and_left (among ks j) (nodes_are ks cs) h)
    (are-append ks cs ds (and_right (among ks j) (nodes_are ks cs) h) i)
are-append ks (message_child ∷ cs) ds h i = are-append ks cs ds h i
are-append ks (float_child ∷ cs) ds h i = are-append ks cs ds h i

abbrev nodes_within : List ℕ → Shape → Bool
nodes_within ks nothing = true
nodes_within ks (leaf_of js) = true
nodes_within ks any_leaf = true
nodes_within ks (node_of js) = every_one (among ks) js
nodes_within ks a_float = true
nodes_within ks (a ⋅ b) = nodes_within ks a && nodes_within ks b
nodes_within ks (a or b) = nodes_within ks a && nodes_within ks b
nodes_within ks (any_of a) = nodes_within ks a

covered : (ks : List ℕ) {s : Shape} {cs : List Child} → nodes_within ks s ≡ true → Spells s cs → nodes_are ks cs ≡ true
covered ks h no_child = refl
covered ks h (a_leaf m) = refl
covered ks h some_leaf = refl
covered ks h (a_node {kinds = js} {kind = j} m) = rw (every_so (among ks) js j h m) refl
covered ks h the_float = refl
covered ks h (in_order {a = a} {b = b} {cs = cs} {ds = ds} p q) =
    are-append ks cs ds (covered ks (and_left (nodes_within ks a) (nodes_within ks b) h) p)
    (covered ks (and_right (nodes_within ks a) (nodes_within ks b) h) q)
covered ks h (by_first {a = a} {b = b} p) = covered ks (and_left (nodes_within ks a) (nodes_within ks b) h) p
covered ks h (by_second {a = a} {b = b} p) = covered ks (and_right (nodes_within ks a) (nodes_within ks b) h) p
covered ks h no_more = refl
covered ks h (one_more {a = a} {cs = cs} {ds = ds} p q) = are-append ks cs ds (covered ks h p) (covered ks h q)

abbrev each_covers : List (ℕ × List (List ℕ)) → Bool
each_covers [] = true
each_covers (row ∷ rows) = nodes_within (together row.1) (shape_of row.0) && each_covers rows

cover_so : each_covers found ≡ true
cover_so = refl

row_covers : (rows : List (ℕ × List (List ℕ))) (kind : ℕ) (kss : List (List ℕ)) → each_covers rows ≡ true →
    IsOne (kind, kss) rows → nodes_within (together kss) (shape_of kind) ≡ true
row_covers [] kind kss h i = elim i [ ]
row_covers (row ∷ rows) kind kss h first = and_left (nodes_within (together kss) (shape_of kind)) (each_covers rows) h
row_covers (row ∷ rows) kind kss h (later i) =
    row_covers rows kind kss (and_right (nodes_within (together row.1) (shape_of row.0)) (each_covers rows) h) i

pub nodes_found : NodesAreFound
nodes_found kind kss i cs s = covered (together kss) (row_covers found kind kss cover_so i) s
