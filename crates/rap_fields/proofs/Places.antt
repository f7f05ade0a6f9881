-- Parts of the children that a shape spells are spelled by shapes that are made of it.
use Rattle.std.proofs.Common.{◌≡◌, ◌==◌, ◌&&◌, ◌||◌, ℕ, Bool, true, false, List, [], ◌∷◌, ◌++◌, Option, Some, None, if◌then◌else◌, refl, ap, sym, subst, ◌∙◌, append_assoc}
use Rattle.rap_events.proofs.Truth.{and_left, and_right, or_left, or_right}
use Rattle.rap_fields.specs.Field.{Field, Fills}
use Rattle.rap_fields.specs.Filled.{IsOne, PlacedFieldsAreFilled, first, later}
use Rattle.rap_fields.specs.Place.{Cut, FieldRow, Mark, before_first, before_last, behind, behind_first, cut, has_mark, is_mark, leaf_mark, node_mark, only_until, past, past_before, until, until_last, until_last_before, whole}
use Rattle.rap_fields.specs.PlacedRows.{placed}
use Rattle.rap_fields.proofs.Filled.{fills, fits}
use Rattle.rap_fields.proofs.Splits.{behind_in, behind_none, behind_past, by_bool, first_in, first_mark, first_none, first_past, if_false, if_true, last_in, last_none, last_past, none_first, none_second, not_left, some_before, some_first, some_second}
use Rattle.rap_grammar_shapes.specs.Shapes.{shape_of}
use Rattle.rap_grammar_table.specs.Known.{among}
use Rattle.rap_grammar_table.specs.Shapes.{Child, leaf_child, node_child, message_child, float_child, Shape, nothing, leaf_of, any_leaf, node_of, a_float, ◌⋅◌, ◌or◌, any_of, Spells, no_child, a_leaf, some_leaf, a_node, the_float, in_order, by_first, by_second, no_more, one_more}
use Rattle.rap_grammar_table.proofs.Known.{by_or, same_number}

-- Shapes that there may not be.
abbrev SpellsSome : Option Shape → List Child → Type 0
SpellsSome None cs = ⊥
SpellsSome (Some s) cs = Spells s cs

abbrev either : Option Shape → Option Shape → Option Shape
either None b = b
either (Some a) None = Some a
either (Some a) (Some b) = Some (a or b)

abbrev in_row : Option Shape → Option Shape → Option Shape
in_row None b = None
in_row (Some a) None = None
in_row (Some a) (Some b) = Some (a ⋅ b)

abbrev only_if : Option Shape → Option Shape → Option Shape
only_if None b = None
only_if (Some a) b = b

abbrev repeated : Option Shape → Shape
repeated None = nothing
repeated (Some a) = any_of a

either_first : (a b : Option Shape) (cs : List Child) → SpellsSome a cs → SpellsSome (either a b) cs
either_first None b cs t = absurd t
either_first (Some a) None cs t = t
either_first (Some a) (Some b) cs t = by_first t

either_second : (a b : Option Shape) (cs : List Child) → SpellsSome b cs → SpellsSome (either a b) cs
either_second None b cs t = t
either_second (Some a) None cs t = absurd t
either_second (Some a) (Some b) cs t = by_second t

row_so : (a b : Option Shape) (cs ds : List Child) → SpellsSome a cs → SpellsSome b ds → SpellsSome (in_row a b) (cs ++ ds)
row_so None b cs ds s t = absurd s
row_so (Some a) None cs ds s t = absurd t
row_so (Some a) (Some b) cs ds s t = in_order s t

only_so : (a b : Option Shape) (cs ds : List Child) → SpellsSome a cs → SpellsSome b ds → SpellsSome (only_if a b) ds
only_so None b cs ds s t = absurd s
only_so (Some a) b cs ds s t = t

repeated_none : (a : Option Shape) → Spells (repeated a) []
repeated_none None = no_child
repeated_none (Some a) = no_more

repeated_more : (a : Option Shape) (cs ds : List Child) → SpellsSome a cs → Spells (repeated a) ds
    → Spells (repeated a) (cs ++ ds)
repeated_more None cs ds s t = absurd s
repeated_more (Some a) cs ds s t = one_more s t

split_more : (a : Option Shape) (b : Shape) (cs : List Child) {xs : List Child} → SpellsSome a cs
    → Spells (repeated a ⋅ b) xs → Spells (repeated a ⋅ b) (cs ++ xs)
split_more a b cs s (in_order {cs = us} {ds = vs} p q) =
    subst (λ (l : List Child). Spells (repeated a ⋅ b) l) (append_assoc cs us vs)
    (in_order (repeated_more a cs us s p) q)

row_more : (a b : Option Shape) (cs xs : List Child) → SpellsSome a cs → SpellsSome (in_row (Some (repeated a)) b) xs
    → SpellsSome (in_row (Some (repeated a)) b) (cs ++ xs)
row_more a None cs xs s t = absurd t
row_more a (Some b) cs xs s t = split_more a b cs s t

-- Kinds that are not among some, and whether one of some kinds is.
abbrev apart : List ℕ → List ℕ → List ℕ
apart js [] = []
apart js (k ∷ ks) = let rest = apart js ks in if among js k then rest else k ∷ rest

abbrev meets : List ℕ → List ℕ → Bool
meets js [] = false
meets js (k ∷ ks) = among js k || meets js ks

apart_so : (js ks : List ℕ) (k : ℕ) → among js k ≡ false → among ks k ≡ true → among (apart js ks) k ≡ true
apart_so js [] k n h = absurd cc
apart_so js (i ∷ ks) k n h =
    by_or (i == k) (among ks k) h
    (λ e.
    subst (λ (l : List ℕ). among l k ≡ true)
    (sym (if_false (among js i) (apart js ks) (i ∷ apart js ks) (subst (λ (j : ℕ). among js j ≡ false) (sym (same_number i k e)) n)))
    (or_left (i == k) (among (apart js ks) k) e))
    (λ e. kept (among js i) (apart_so js ks k n e))
  where
    kept : (b : Bool) → among (apart js ks) k ≡ true
        → among (if b then apart js ks else i ∷ apart js ks) k ≡ true
    kept true t = t
    kept false t = or_right (i == k) (among (apart js ks) k) t

meets_so : (js ks : List ℕ) (k : ℕ) → among js k ≡ true → among ks k ≡ true → meets js ks ≡ true
meets_so js [] k n h = absurd cc
meets_so js (i ∷ ks) k n h =
    by_or (i == k) (among ks k) h
    (λ e. or_left (among js i) (meets js ks) (subst (λ (j : ℕ). among js j ≡ true) (sym (same_number i k e)) n))
    (λ e. or_right (among js i) (meets js ks) (meets_so js ks k n e))

-- What is left of a shape without marks, before the first mark, before the last, and behind the first.
abbrev leaves_if : List ℕ → Option Shape
leaves_if [] = None
leaves_if (k ∷ ks) = Some (leaf_of (k ∷ ks))

abbrev nodes_if : List ℕ → Option Shape
nodes_if [] = None
nodes_if (k ∷ ks) = Some (node_of (k ∷ ks))

abbrev nothing_if : Bool → Option Shape
nothing_if true = Some nothing
nothing_if false = None

abbrev unmarked_leaves : Mark → List ℕ → Option Shape
unmarked_leaves (leaf_mark js) ks = leaves_if (apart js ks)
unmarked_leaves (node_mark js) ks = Some (leaf_of ks)

abbrev unmarked_nodes : Mark → List ℕ → Option Shape
unmarked_nodes (leaf_mark js) ks = Some (node_of ks)
unmarked_nodes (node_mark js) ks = nodes_if (apart js ks)

abbrev marks_leaf : Mark → List ℕ → Bool
marks_leaf (leaf_mark js) ks = meets js ks
marks_leaf (node_mark js) ks = false

abbrev marks_any : Mark → Bool
marks_any (leaf_mark js) = true
marks_any (node_mark js) = false

abbrev marks_node : Mark → List ℕ → Bool
marks_node (leaf_mark js) ks = false
marks_node (node_mark js) ks = meets js ks

abbrev without : Mark → Shape → Option Shape
without m nothing = Some nothing
without m (leaf_of ks) = unmarked_leaves m ks
without m any_leaf = Some any_leaf
without m (node_of ks) = unmarked_nodes m ks
without m a_float = Some a_float
without m (a ⋅ b) = in_row (without m a) (without m b)
without m (a or b) = either (without m a) (without m b)
without m (any_of a) = Some (repeated (without m a))

abbrev front : Mark → Shape → Option Shape
front m nothing = None
front m (leaf_of ks) = nothing_if (marks_leaf m ks)
front m any_leaf = nothing_if (marks_any m)
front m (node_of ks) = nothing_if (marks_node m ks)
front m a_float = None
front m (a ⋅ b) = either (front m a) (in_row (without m a) (front m b))
front m (a or b) = either (front m a) (front m b)
front m (any_of a) = in_row (Some (repeated (without m a))) (front m a)

abbrev back : Mark → Shape → Option Shape
back m nothing = None
back m (leaf_of ks) = nothing_if (marks_leaf m ks)
back m any_leaf = nothing_if (marks_any m)
back m (node_of ks) = nothing_if (marks_node m ks)
back m a_float = None
back m (a ⋅ b) = either (in_row (back m a) (Some b)) (only_if (without m a) (back m b))
back m (a or b) = either (back m a) (back m b)
back m (any_of a) = in_row (back m a) (Some (any_of a))

abbrev front_last : Mark → Shape → Option Shape
front_last m nothing = None
front_last m (leaf_of ks) = nothing_if (marks_leaf m ks)
front_last m any_leaf = nothing_if (marks_any m)
front_last m (node_of ks) = nothing_if (marks_node m ks)
front_last m a_float = None
front_last m (a ⋅ b) = either (in_row (Some a) (front_last m b)) (only_if (without m b) (front_last m a))
front_last m (a or b) = either (front_last m a) (front_last m b)
front_last m (any_of a) = in_row (Some (any_of a)) (front_last m a)

-- one leaf, one node
leaves_so : (ks : List ℕ) (k : ℕ) → among ks k ≡ true → SpellsSome (leaves_if ks) (leaf_child k ∷ [])
leaves_so [] k h = absurd cc
leaves_so (j ∷ ks) k h = a_leaf h

nodes_so : (ks : List ℕ) (k : ℕ) → among ks k ≡ true → SpellsSome (nodes_if ks) (node_child k ∷ [])
nodes_so [] k h = absurd cc
nodes_so (j ∷ ks) k h = a_node h

leaf_without : (m : Mark) (ks : List ℕ) (k : ℕ) → among ks k ≡ true → has_mark (is_mark m) (leaf_child k ∷ []) ≡ false
    → SpellsSome (unmarked_leaves m ks) (leaf_child k ∷ [])
leaf_without (leaf_mark js) ks k h n = leaves_so (apart js ks) k (apart_so js ks k (not_left (among js k) false n) h)
leaf_without (node_mark js) ks k h n = a_leaf h

node_without : (m : Mark) (ks : List ℕ) (k : ℕ) → among ks k ≡ true → has_mark (is_mark m) (node_child k ∷ []) ≡ false
    → SpellsSome (unmarked_nodes m ks) (node_child k ∷ [])
node_without (leaf_mark js) ks k h n = a_node h
node_without (node_mark js) ks k h n = nodes_so (apart js ks) k (apart_so js ks k (not_left (among js k) false n) h)

no_part : (t b : Bool) (c : Child) → t ≡ true → b ≡ true → SpellsSome (nothing_if t) (if b then [] else c ∷ [])
no_part true true c h i = no_child
no_part true false c h i = absurd cc
no_part false b c h i = absurd cc

left_of : (b : Bool) → (b || false) ≡ true → b ≡ true
left_of true h = refl
left_of false h = absurd cc

leaf_part : (m : Mark) (ks : List ℕ) (k : ℕ) → among ks k ≡ true → has_mark (is_mark m) (leaf_child k ∷ []) ≡ true
    → SpellsSome (nothing_if (marks_leaf m ks)) (if is_mark m (leaf_child k) then [] else leaf_child k ∷ [])
leaf_part (leaf_mark js) ks k h n =
    let own = left_of (among js k) n in no_part (meets js ks) (among js k) (leaf_child k) (meets_so js ks k own h) own
leaf_part (node_mark js) ks k h n = absurd cc

any_part : (m : Mark) (k : ℕ) → has_mark (is_mark m) (leaf_child k ∷ []) ≡ true
    → SpellsSome (nothing_if (marks_any m)) (if is_mark m (leaf_child k) then [] else leaf_child k ∷ [])
any_part (leaf_mark js) k n = no_part true (among js k) (leaf_child k) refl (left_of (among js k) n)
any_part (node_mark js) k n = absurd cc

node_part : (m : Mark) (ks : List ℕ) (k : ℕ) → among ks k ≡ true → has_mark (is_mark m) (node_child k ∷ []) ≡ true
    → SpellsSome (nothing_if (marks_node m ks)) (if is_mark m (node_child k) then [] else node_child k ∷ [])
node_part (leaf_mark js) ks k h n = absurd cc
node_part (node_mark js) ks k h n =
    let own = left_of (among js k) n in no_part (meets js ks) (among js k) (node_child k) (meets_so js ks k own h) own

no_end : (t b : Bool) → t ≡ true → SpellsSome (nothing_if t) (if b then [] else [])
no_end true true h = no_child
no_end true false h = no_child
no_end false b h = absurd cc

leaf_meets : (m : Mark) (ks : List ℕ) (k : ℕ) → among ks k ≡ true → has_mark (is_mark m) (leaf_child k ∷ []) ≡ true → marks_leaf m ks ≡ true
leaf_meets (leaf_mark js) ks k h n = meets_so js ks k (left_of (among js k) n) h
leaf_meets (node_mark js) ks k h n = absurd cc

any_meets : (m : Mark) (k : ℕ) → has_mark (is_mark m) (leaf_child k ∷ []) ≡ true → marks_any m ≡ true
any_meets (leaf_mark js) k n = refl
any_meets (node_mark js) k n = absurd cc

node_meets : (m : Mark) (ks : List ℕ) (k : ℕ) → among ks k ≡ true → has_mark (is_mark m) (node_child k ∷ []) ≡ true → marks_node m ks ≡ true
node_meets (leaf_mark js) ks k h n = absurd cc
node_meets (node_mark js) ks k h n = meets_so js ks k (left_of (among js k) n) h

-- All children, where there is no mark.
without_so : (m : Mark) {s : Shape} {cs : List Child} → Spells s cs → has_mark (is_mark m) cs ≡ false → SpellsSome (without m s) cs
without_so m no_child n = no_child
without_so m (a_leaf {kinds = ks} {kind = k} h) n = leaf_without m ks k h n
without_so m some_leaf n = some_leaf
without_so m (a_node {kinds = ks} {kind = k} h) n = node_without m ks k h n
without_so m the_float n = the_float
without_so m (in_order {a = a} {b = b} {cs = cs} {ds = ds} s t) n =
    row_so (without m a) (without m b) cs ds (without_so m s (none_first (is_mark m) cs ds n)) (without_so m t (none_second (is_mark m) cs ds n))
without_so m (by_first {a = a} {b = b} {cs = cs} s) n = either_first (without m a) (without m b) cs (without_so m s n)
without_so m (by_second {a = a} {b = b} {cs = cs} s) n = either_second (without m a) (without m b) cs (without_so m s n)
without_so m (no_more {a = a}) n = repeated_none (without m a)
without_so m (one_more {a = a} {cs = cs} {ds = ds} s t) n =
    repeated_more (without m a) cs ds (without_so m s (none_first (is_mark m) cs ds n)) (without_so m t (none_second (is_mark m) cs ds n))

-- Those before the first mark.
front_so : (m : Mark) {s : Shape} {cs : List Child} → Spells s cs → has_mark (is_mark m) cs ≡ true
    → SpellsSome (front m s) (before_first (is_mark m) cs)
front_so m no_child n = absurd cc
front_so m (a_leaf {kinds = ks} {kind = k} h) n = leaf_part m ks k h n
front_so m (some_leaf {kind = k}) n = any_part m k n
front_so m (a_node {kinds = ks} {kind = k} h) n = node_part m ks k h n
front_so (leaf_mark js) the_float n = absurd cc
front_so (node_mark js) the_float n = absurd cc
front_so m (in_order {a = a} {b = b} {cs = cs} {ds = ds} s t) n =
    by_bool (has_mark (is_mark m) cs)
    (λ e.
    subst (λ (l : List Child). SpellsSome (front m (a ⋅ b)) l) (sym (first_in (is_mark m) cs ds e))
    (either_first (front m a) (in_row (without m a) (front m b)) (before_first (is_mark m) cs) (front_so m s e)))
    (λ e.
    subst (λ (l : List Child). SpellsSome (front m (a ⋅ b)) l) (sym (first_past (is_mark m) cs ds e))
    (either_second (front m a) (in_row (without m a) (front m b)) (cs ++ before_first (is_mark m) ds)
    (row_so (without m a) (front m b) cs (before_first (is_mark m) ds) (without_so m s e) (front_so m t (some_second (is_mark m) cs ds e n)))))
front_so m (by_first {a = a} {b = b} {cs = cs} s) n =
    either_first (front m a) (front m b) (before_first (is_mark m) cs) (front_so m s n)
front_so m (by_second {a = a} {b = b} {cs = cs} s) n =
    either_second (front m a) (front m b) (before_first (is_mark m) cs) (front_so m s n)
front_so m no_more n = absurd cc
front_so m (one_more {a = a} {cs = cs} {ds = ds} s t) n =
    by_bool (has_mark (is_mark m) cs)
    (λ e.
    subst (λ (l : List Child). SpellsSome (front m (any_of a)) l) (sym (first_in (is_mark m) cs ds e))
    (row_so (Some (repeated (without m a))) (front m a) [] (before_first (is_mark m) cs) (repeated_none (without m a)) (front_so m s e)))
    (λ e.
    subst (λ (l : List Child). SpellsSome (front m (any_of a)) l) (sym (first_past (is_mark m) cs ds e))
    (row_more (without m a) (front m a) cs (before_first (is_mark m) ds) (without_so m s e) (front_so m t (some_second (is_mark m) cs ds e n))))

-- Those behind it.
back_so : (m : Mark) {s : Shape} {cs : List Child} → Spells s cs → has_mark (is_mark m) cs ≡ true
    → SpellsSome (back m s) (behind_first (is_mark m) cs)
back_so m no_child n = absurd cc
back_so m (a_leaf {kinds = ks} {kind = k} h) n = no_end (marks_leaf m ks) (is_mark m (leaf_child k)) (leaf_meets m ks k h n)
back_so m (some_leaf {kind = k}) n = no_end (marks_any m) (is_mark m (leaf_child k)) (any_meets m k n)
back_so m (a_node {kinds = ks} {kind = k} h) n = no_end (marks_node m ks) (is_mark m (node_child k)) (node_meets m ks k h n)
back_so (leaf_mark js) the_float n = absurd cc
back_so (node_mark js) the_float n = absurd cc
back_so m (in_order {a = a} {b = b} {cs = cs} {ds = ds} s t) n =
    by_bool (has_mark (is_mark m) cs)
    (λ e.
    subst (λ (l : List Child). SpellsSome (back m (a ⋅ b)) l) (sym (behind_in (is_mark m) cs ds e))
    (either_first (in_row (back m a) (Some b)) (only_if (without m a) (back m b)) (behind_first (is_mark m) cs ++ ds)
    (row_so (back m a) (Some b) (behind_first (is_mark m) cs) ds (back_so m s e) t)))
    (λ e.
    subst (λ (l : List Child). SpellsSome (back m (a ⋅ b)) l) (sym (behind_past (is_mark m) cs ds e))
    (either_second (in_row (back m a) (Some b)) (only_if (without m a) (back m b)) (behind_first (is_mark m) ds)
    (only_so (without m a) (back m b) cs (behind_first (is_mark m) ds) (without_so m s e) (back_so m t (some_second (is_mark m) cs ds e n)))))
back_so m (by_first {a = a} {b = b} {cs = cs} s) n =
    either_first (back m a) (back m b) (behind_first (is_mark m) cs) (back_so m s n)
back_so m (by_second {a = a} {b = b} {cs = cs} s) n =
    either_second (back m a) (back m b) (behind_first (is_mark m) cs) (back_so m s n)
back_so m no_more n = absurd cc
back_so m (one_more {a = a} {cs = cs} {ds = ds} s t) n =
    by_bool (has_mark (is_mark m) cs)
    (λ e.
    subst (λ (l : List Child). SpellsSome (back m (any_of a)) l) (sym (behind_in (is_mark m) cs ds e))
    (row_so (back m a) (Some (any_of a)) (behind_first (is_mark m) cs) ds (back_so m s e) t))
    (λ e.
    subst (λ (l : List Child). SpellsSome (back m (any_of a)) l) (sym (behind_past (is_mark m) cs ds e))
    (back_so m t (some_second (is_mark m) cs ds e n)))

-- Those before the last.
last_so : (m : Mark) {s : Shape} {cs : List Child} → Spells s cs → has_mark (is_mark m) cs ≡ true
    → SpellsSome (front_last m s) (before_last (is_mark m) cs)
last_so m no_child n = absurd cc
last_so m (a_leaf {kinds = ks} {kind = k} h) n = leaf_part m ks k h n
last_so m (some_leaf {kind = k}) n = any_part m k n
last_so m (a_node {kinds = ks} {kind = k} h) n = node_part m ks k h n
last_so (leaf_mark js) the_float n = absurd cc
last_so (node_mark js) the_float n = absurd cc
last_so m (in_order {a = a} {b = b} {cs = cs} {ds = ds} s t) n =
    by_bool (has_mark (is_mark m) ds)
    (λ e.
    subst (λ (l : List Child). SpellsSome (front_last m (a ⋅ b)) l) (sym (last_in (is_mark m) cs ds e))
    (either_first (in_row (Some a) (front_last m b)) (only_if (without m b) (front_last m a)) (cs ++ before_last (is_mark m) ds)
    (row_so (Some a) (front_last m b) cs (before_last (is_mark m) ds) s (last_so m t e))))
    (λ e.
    let f = some_first (is_mark m) cs ds e n in
    subst (λ (l : List Child). SpellsSome (front_last m (a ⋅ b)) l) (sym (last_past (is_mark m) cs ds e f))
    (either_second (in_row (Some a) (front_last m b)) (only_if (without m b) (front_last m a)) (before_last (is_mark m) cs)
    (only_so (without m b) (front_last m a) ds (before_last (is_mark m) cs) (without_so m t e) (last_so m s f))))
last_so m (by_first {a = a} {b = b} {cs = cs} s) n =
    either_first (front_last m a) (front_last m b) (before_last (is_mark m) cs) (last_so m s n)
last_so m (by_second {a = a} {b = b} {cs = cs} s) n =
    either_second (front_last m a) (front_last m b) (before_last (is_mark m) cs) (last_so m s n)
last_so m no_more n = absurd cc
last_so m (one_more {a = a} {cs = cs} {ds = ds} s t) n =
    by_bool (has_mark (is_mark m) ds)
    (λ e.
    subst (λ (l : List Child). SpellsSome (front_last m (any_of a)) l) (sym (last_in (is_mark m) cs ds e))
    (row_more (Some a) (front_last m a) cs (before_last (is_mark m) ds) s (last_so m t e)))
    (λ e.
    let f = some_first (is_mark m) cs ds e n in
    subst (λ (l : List Child). SpellsSome (front_last m (any_of a)) l) (sym (last_past (is_mark m) cs ds e f))
    (row_so (Some (any_of a)) (front_last m a) [] (before_last (is_mark m) cs) no_more (last_so m s f)))

-- What is taken of the children is of a shape.
abbrev empty_if : Option Shape → Option Shape
empty_if None = None
empty_if (Some a) = Some nothing

empty_so : (a : Option Shape) (cs : List Child) → SpellsSome a cs → SpellsSome (empty_if a) []
empty_so None cs s = absurd s
empty_so (Some a) cs s = no_child

-- Where no mark stands before the first of other marks: what stands before that, one such mark, and what stands behind.
abbrev mark_shape : Mark → Shape
mark_shape (leaf_mark ks) = leaf_of ks
mark_shape (node_mark ks) = node_of ks

abbrev unmarked : Mark → Option Shape → Option Shape
unmarked m None = None
unmarked m (Some s) = without m s

abbrev none_before : Mark → Mark → Shape → Option Shape
none_before m n s = in_row (unmarked m (front n s)) (in_row (Some (mark_shape n)) (back n s))

unmarked_so : (m : Mark) (o : Option Shape) (cs : List Child) → SpellsSome o cs → has_mark (is_mark m) cs ≡ false
    → SpellsSome (unmarked m o) cs
unmarked_so m None cs s h = absurd s
unmarked_so m (Some s) cs t h = without_so m t h

mark_so : (m : Mark) (c : Child) → is_mark m c ≡ true → Spells (mark_shape m) (c ∷ [])
mark_so (leaf_mark ks) (leaf_child k) h = a_leaf h
mark_so (leaf_mark ks) (node_child k) h = absurd cc
mark_so (leaf_mark ks) message_child h = absurd cc
mark_so (leaf_mark ks) float_child h = absurd cc
mark_so (node_mark ks) (leaf_child k) h = absurd cc
mark_so (node_mark ks) (node_child k) h = a_node h
mark_so (node_mark ks) message_child h = absurd cc
mark_so (node_mark ks) float_child h = absurd cc

none_before_so : (m n : Mark) {s : Shape} {cs : List Child} → Spells s cs → has_mark (is_mark m) (before_first (is_mark n) cs) ≡ false
    → SpellsSome (either (none_before m n s) (without m s)) cs
none_before_so m n {s = s} {cs = cs} t h =
    by_bool (has_mark (is_mark n) cs)
    (λ e.
    let r = first_mark (is_mark n) cs e in
    either_first (none_before m n s) (without m s) cs
    (subst (λ (l : List Child). SpellsSome (none_before m n s) l) (sym r.all)
    (row_so (unmarked m (front n s)) (in_row (Some (mark_shape n)) (back n s)) (before_first (is_mark n) cs)
    (r.one ∷ behind_first (is_mark n) cs) (unmarked_so m (front n s) (before_first (is_mark n) cs) (front_so n t e) h)
    (row_so (Some (mark_shape n)) (back n s) (r.one ∷ []) (behind_first (is_mark n) cs) (mark_so n r.one r.is_one)
    (back_so n t e)))))
    (λ e.
    either_second (none_before m n s) (without m s) cs
    (without_so m t (subst (λ (l : List Child). has_mark (is_mark m) l ≡ false) (first_none (is_mark n) cs e) h)))

-- What stands before the last mark of a shape that there may not be.
abbrev on_some : Option Shape → (Shape → Option Shape) → Option Shape
on_some None f = None
on_some (Some s) f = f s

last_on : (m : Mark) (o : Option Shape) (cs : List Child) → SpellsSome o cs → has_mark (is_mark m) cs ≡ true
    → SpellsSome (on_some o (front_last m)) (before_last (is_mark m) cs)
last_on m None cs s h = absurd s
last_on m (Some s) cs t h = last_so m t h

abbrev cut_shape : Cut → Shape → Option Shape
cut_shape whole s = Some s
cut_shape (until m) s = either (front m s) (without m s)
cut_shape (until_last m) s = either (front_last m s) (without m s)
cut_shape (only_until m) s = either (front m s) (empty_if (without m s))
cut_shape (behind m) s = either (back m s) (empty_if (without m s))
cut_shape (past m) s = either (back m s) (without m s)
cut_shape (until_last_before m n) s =
    either (on_some (either (front n s) (without n s)) (front_last m)) (either (none_before m n s) (without m s))
cut_shape (past_before m n) s = either (back m s) (either (none_before m n s) (without m s))

-- where there is a mark, and where there is none
two_ways : (m : Mark) (a b : Option Shape) (cs xs ys zs : List Child)
    → (has_mark (is_mark m) cs ≡ true → SpellsSome a xs) → (has_mark (is_mark m) cs ≡ true → zs ≡ xs)
    → (has_mark (is_mark m) cs ≡ false → SpellsSome b ys) → (has_mark (is_mark m) cs ≡ false → zs ≡ ys) → SpellsSome (either a b) zs
two_ways m a b cs xs ys zs f e g i =
    by_bool (has_mark (is_mark m) cs)
    (λ h. subst (λ (l : List Child). SpellsSome (either a b) l) (sym (e h)) (either_first a b xs (f h)))
    (λ h. subst (λ (l : List Child). SpellsSome (either a b) l) (sym (i h)) (either_second a b ys (g h)))

until_so : (m : Mark) {s : Shape} {cs : List Child} → Spells s cs
    → SpellsSome (either (front m s) (without m s)) (before_first (is_mark m) cs)
until_so m {s = s} {cs = cs} t =
    let p : Child → Bool = is_mark m in
    two_ways m (front m s) (without m s) cs (before_first p cs) cs (before_first p cs) (λ h. front_so m t h)
    (λ h. refl) (λ h. without_so m t h) (λ h. first_none p cs h)

cut_so : (c : Cut) {s : Shape} {cs : List Child} → Spells s cs → SpellsSome (cut_shape c s) (cut (λ d. d) c cs)
cut_so whole {s = s} {cs = cs} t = t
cut_so (until m) t = until_so m t
cut_so (until_last m) {s = s} {cs = cs} t =
    let p : Child → Bool = is_mark m in
    two_ways m (front_last m s) (without m s) cs (before_last p cs) cs (before_last p cs) (λ h. last_so m t h)
    (λ h. refl) (λ h. without_so m t h) (λ h. last_none p cs h)
cut_so (only_until m) {s = s} {cs = cs} t =
    let p : Child → Bool = is_mark m in
    two_ways m (front m s) (empty_if (without m s)) cs (before_first p cs) []
    (if has_mark p cs then before_first p cs else []) (λ h. front_so m t h)
    (λ h. if_true (has_mark p cs) (before_first p cs) [] h) (λ h. empty_so (without m s) cs (without_so m t h))
    (λ h. if_false (has_mark p cs) (before_first p cs) [] h)
cut_so (behind m) {s = s} {cs = cs} t =
    let p : Child → Bool = is_mark m in
    two_ways m (back m s) (empty_if (without m s)) cs (behind_first p cs) [] (behind_first p cs) (λ h. back_so m t h)
    (λ h. refl) (λ h. empty_so (without m s) cs (without_so m t h)) (λ h. behind_none p cs h)
cut_so (past m) {s = s} {cs = cs} t =
    let p : Child → Bool = is_mark m in
    two_ways m (back m s) (without m s) cs (behind_first p cs) cs (if has_mark p cs then behind_first p cs else cs)
    (λ h. back_so m t h) (λ h. if_true (has_mark p cs) (behind_first p cs) cs h) (λ h. without_so m t h)
    (λ h. if_false (has_mark p cs) (behind_first p cs) cs h)
cut_so (until_last_before m n) {s = s} {cs = cs} t =
    let p : Child → Bool = is_mark m in
    let zs = before_first (is_mark n) cs in
    two_ways m (on_some (either (front n s) (without n s)) (front_last m)) (either (none_before m n s) (without m s))
    zs (before_last p zs) cs (if has_mark p zs then before_last p zs else cs)
    (λ h. last_on m (either (front n s) (without n s)) zs (until_so n t) h)
    (λ h. if_true (has_mark p zs) (before_last p zs) cs h) (λ h. none_before_so m n t h)
    (λ h. if_false (has_mark p zs) (before_last p zs) cs h)
cut_so (past_before m n) {s = s} {cs = cs} t =
    let p : Child → Bool = is_mark m in
    let zs = before_first (is_mark n) cs in
    two_ways m (back m s) (either (none_before m n s) (without m s)) zs (behind_first p cs) cs
    (if has_mark p zs then behind_first p cs else cs) (λ h. back_so m t (some_before p (is_mark n) cs h))
    (λ h. if_true (has_mark p zs) (behind_first p cs) cs h) (λ h. none_before_so m n t h)
    (λ h. if_false (has_mark p zs) (behind_first p cs) cs h)

-- what is computed of a field
abbrev some_fits : Option Shape → Field → Bool
some_fits None f = true
some_fits (Some s) f = fits s f

abbrev placed_fits : Shape → FieldRow → Bool
placed_fits s p = some_fits (cut_shape p.cut s) p.field

abbrev all_placed : Shape → List FieldRow → Bool
all_placed s [] = true
all_placed s (p ∷ ps) = placed_fits s p && all_placed s ps

abbrev each_placed : List (ℕ × List FieldRow) → Bool
each_placed [] = true
each_placed (row ∷ rows) = all_placed (shape_of row.0) row.1 && each_placed rows

placed_so : each_placed placed ≡ true
placed_so = refl

some_fills : (o : Option Shape) (f : Field) (cs : List Child) → some_fits o f ≡ true → SpellsSome o cs → Fills f cs
some_fills None f cs h t = absurd t
some_fills (Some s) f cs h t = fills s f cs h t

one_placed : (s : Shape) (ps : List FieldRow) (p : FieldRow) → all_placed s ps ≡ true → IsOne p ps
    → placed_fits s p ≡ true
one_placed s [] p h i = elim i [ ]
one_placed s (q ∷ ps) p h first = and_left (placed_fits s q) (all_placed s ps) h
one_placed s (q ∷ ps) p h (later i) = one_placed s ps p (and_right (placed_fits s q) (all_placed s ps) h) i

row_placed : (rows : List (ℕ × List FieldRow)) (kind : ℕ) (ps : List FieldRow) → each_placed rows ≡ true
    → IsOne (kind, ps) rows → all_placed (shape_of kind) ps ≡ true
row_placed [] kind ps h i = elim i [ ]
row_placed (row ∷ rows) kind ps h first = and_left (all_placed (shape_of kind) ps) (each_placed rows) h
row_placed (row ∷ rows) kind ps h (later i) =
    row_placed rows kind ps (and_right (all_placed (shape_of row.0) row.1) (each_placed rows) h) i

pub placed_filled : PlacedFieldsAreFilled
placed_filled kind ps p i j cs s =
    some_fills (cut_shape p.cut (shape_of kind)) p.field (cut (λ c. c) p.cut cs)
    (one_placed (shape_of kind) ps p (row_placed placed kind ps placed_so i) j) (cut_so p.cut s)
