-- The shapes of the table's rows are within the shapes of all nodes.
use Rattle.std.proofs.Common.{◌≡◌, ◌==◌, ◌&&◌, inl, inr, ℕ, Bool, true, false, not, List, [], ◌∷◌, ◌++◌, refl, subst}
use Rattle.rap_base.specs.TokenKind.{ERROR}
use Rattle.rap_events.proofs.Truth.{and_left, and_right}
use Rattle.rap_grammar_table.specs.Known.{among}
use Rattle.rap_grammar_table.specs.Shapes.{Child, Shape, nothing, leaf_of, any_leaf, node_of, a_float, ◌⋅◌, ◌or◌, any_of, Spells, no_child, a_leaf, some_leaf, a_node, the_float, in_order, by_first, by_second, no_more, one_more, all_nodes, any_shape, is_in, shapes_among, unless_in, with_shape}
use Rattle.rap_grammar_table.proofs.Known.{same_number}
use Rattle.rap_grammar_table.proofs.ShapedRows.{SpellsOne}
use Rattle.rap_grammar_shapes.specs.HaveShapes.{RowsFit}
use Rattle.rap_grammar_shapes.specs.Shapes.{shape_of}
use Rattle.rap_grammar_shapes.specs.Whole.{IsWhole, are_sound, is_sound}
use Rattle.rap_grammar_shapes.proofs.Along.{spelled}
use Rattle.rap_grammar_shapes.proofs.Content.{Content, nothing as no_content, leaf_of as leaves, any_leaf as each_leaf, node_of as nodes, a_float as float, any_of as repeated, Holds, no_child as holds_nothing, a_leaf as holds_leaf, some_leaf as holds_each, a_node as holds_node, the_float as holds_float, no_more as holds_no_more, one_more as holds_more}
use Rattle.rap_grammar_shapes.proofs.ContentLaws.{row_holds, first_holds, second_holds, in_row, either_way, both_whole}
use Rattle.rap_grammar_shapes.proofs.Models.{model}
use Rattle.rap_grammar_shapes.proofs.Runs.{runs, runs_so}

-- a shape as a content
abbrev pub content_of : Shape → Content
content_of nothing = no_content
content_of (leaf_of ks) = leaves ks
content_of any_leaf = each_leaf
content_of (node_of ks) = nodes ks
content_of a_float = float
content_of (a ⋅ b) = in_row (content_of a) (content_of b)
content_of (a or b) = either_way (content_of a) (content_of b)
content_of (any_of a) = repeated (content_of a)

pub content_holds : {s : Shape} {cs : List Child} → Spells s cs → Holds (content_of s) cs
content_holds no_child = holds_nothing
content_holds (a_leaf m) = holds_leaf m
content_holds some_leaf = holds_each
content_holds (a_node m) = holds_node m
content_holds the_float = holds_float
content_holds (in_order {a = a} {b = b} {cs = cs} {ds = ds} s t) =
    row_holds (content_of a) (content_of b) cs ds (content_holds s) (content_holds t)
content_holds (by_first {a = a} {b = b} {cs = cs} s) =
    first_holds (content_of a) (content_of b) cs (content_holds s)
content_holds (by_second {a = a} {b = b} {cs = cs} s) =
    second_holds (content_of a) (content_of b) cs (content_holds s)
content_holds no_more = holds_no_more
content_holds (one_more s t) = holds_more (content_holds s) (content_holds t)

-- a shape has no ERROR
abbrev pub without_error : Shape → Bool
without_error (node_of ks) = not (among ks ERROR)
without_error (a ⋅ b) = without_error a && without_error b
without_error (a or b) = without_error a && without_error b
without_error (any_of a) = without_error a
without_error s = true

no_error : (b c : Bool) → (b ≡ true → c ≡ true) → not c ≡ true → (not b && true) ≡ true
no_error true true f h = absurd cc
no_error true false f h = absurd (let e = f refl in cc)
no_error false c f h = refl

pub spells_sound : {s : Shape} {cs : List Child} → without_error s ≡ true → Spells s cs → IsWhole cs
spells_sound h no_child = refl
spells_sound h (a_leaf m) = refl
spells_sound h some_leaf = refl
spells_sound h (a_node {kinds = ks} {kind = k} m) =
    no_error (k == ERROR) (among ks ERROR)
    (λ e. subst (λ (j : ℕ). among ks j ≡ true) (same_number k ERROR e) m) h
spells_sound h the_float = refl
spells_sound h (in_order {a = a} {cs = cs} {ds = ds} s t) =
    both_whole cs ds (spells_sound (and_left (without_error a) _ h) s) (spells_sound (and_right (without_error a) _ h) t)
spells_sound h (by_first {a = a} s) = spells_sound (and_left (without_error a) _ h) s
spells_sound h (by_second {a = a} s) = spells_sound (and_right (without_error a) _ h) s
spells_sound h no_more = refl
spells_sound h (one_more {cs = cs} {ds = ds} s t) = both_whole cs ds (spells_sound h s) (spells_sound h t)

-- whether the automata of their kinds take the nodes of rows
abbrev pub fits : ℕ → Shape → Bool
fits kind s = without_error s && runs (model kind) (content_of s)

abbrev pub all_fit : List (ℕ × Shape) → Bool
all_fit [] = true
all_fit (n ∷ ns) = fits n.0 n.1 && all_fit ns

fit_so : (kind : ℕ) (s : Shape) (cs : List Child) → fits kind s ≡ true → Spells s cs → Spells (shape_of kind) cs
fit_so kind s cs h t =
    spelled kind cs
    (runs_so (model kind) (content_of s) (and_right (without_error s) _ h) cs (content_holds t)
    (spells_sound (and_left (without_error s) _ h) t))

-- one of some shapes
one_of_any : (ss : List Shape) (cs : List Child) → Spells (any_shape ss) cs → SpellsOne ss cs
one_of_any [] cs (a_node m) = absurd cc
one_of_any (s ∷ []) cs t = inl t
one_of_any (s ∷ r ∷ ss) cs (by_first t) = inl t
one_of_any (s ∷ r ∷ ss) cs (by_second t) = inr (one_of_any (r ∷ ss) cs t)

unless_so : {A : Type 0} (b : Bool) (s : Shape) (ss : List Shape) (cs : List Child) → SpellsOne (unless_in b s ss) cs →
    (Spells s cs → A) → (SpellsOne ss cs → A) → A
unless_so true s ss cs t f g = g t
unless_so false s ss cs (inl t) f g = f t
unless_so false s ss cs (inr t) f g = g t

with_so : {A : Type 0} (b : Bool) (s : Shape) (ss : List Shape) (cs : List Child) → SpellsOne (with_shape b s ss) cs →
    (b ≡ true → Spells s cs → A) → (SpellsOne ss cs → A) → A
with_so true s ss cs t f g = unless_so (is_in s ss) s ss cs t (f refl) g
with_so false s ss cs t f g = g t

all_fit_so : (ns : List (ℕ × Shape)) → all_fit ns ≡ true → (kind : ℕ) (cs : List Child) →
    SpellsOne (shapes_among kind ns) cs → Spells (shape_of kind) cs
all_fit_so [] h kind cs t = absurd t
all_fit_so (n ∷ ns) h kind cs t =
    with_so (n.0 == kind) n.1 (shapes_among kind ns) cs t
    (λ e u.
    subst (λ (k : ℕ). Spells (shape_of k) cs) (same_number n.0 kind e)
    (fit_so n.0 n.1 cs (and_left (fits n.0 n.1) _ h) u))
    (λ u. all_fit_so ns (and_right (fits n.0 n.1) _ h) kind cs u)

nodes_fit : all_fit all_nodes ≡ true
nodes_fit = refl

-- What the rows give a node of a kind is of the kind's shape.
pub rows_fit : RowsFit
rows_fit kind cs t = all_fit_so all_nodes nodes_fit kind cs (one_of_any (shapes_among kind all_nodes) cs t)
