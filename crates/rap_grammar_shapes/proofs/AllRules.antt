-- Every rule brings what is claimed of it, and what a script appends has the children of its nodes' kinds.
use Rattle.std.proofs.Common.{◌≡◌, ◌⊎◌, inl, inr, ◌==◌, ◌&&◌, not, ℕ, Bool, true, false, List, [], ◌∷◌, All, if◌then◌else◌, refl, sym, subst, ap, ◌∙◌, arith}
use Rattle.rap_base.specs.TokenKind.{ERROR}
use Rattle.rap_events.proofs.Truth.{and_left, and_right}
use Rattle.rap_events.specs.Forest.{Forest, none, node, leaf, message, split, ◌⧺◌, message_count}
use Rattle.rap_events.specs.Record.{IsTokenRecord}
use Rattle.rap_grammar_ends.specs.StandsIn.{NodeAt, last_node, in_last_node, before_node, before_leaf, before_message, before_split}
use Rattle.rap_grammar_scripts.specs.Knot.{script_of}
use Rattle.rap_grammar_scripts.specs.Script.{Script, Outcome, Spot, Runs}
use Rattle.rap_grammar_scripts.specs.Tally.{same_outcome}
use Rattle.rap_grammar_scripts.specs.declared.arguments.Semicolon.{Semicolon}
use Rattle.rap_grammar_scripts.specs.declared.arguments.Semicolon.TheVariants as semicolon
use Rattle.rap_grammar_scripts.specs.declared.rule.Rule.{Rule}
use Rattle.rap_grammar_scripts.specs.declared.rule.Rule.TheVariants as knot
use Rattle.rap_grammar_scripts.proofs.Tally.{same_is}
use Rattle.rap_grammar_table.specs.Known.{among}
use Rattle.rap_grammar_table.specs.Shapes.{Child, children_of, Spells}
use Rattle.rap_grammar_table.proofs.Known.{nothing_known, by_or, every_so}
use Rattle.rap_grammar_shapes.specs.HaveShapes.{HaveShapes, RulesKeepShapes, KeepsShapes, MakesNode}
use Rattle.rap_grammar_shapes.specs.Shapes.{shape_of}
use Rattle.rap_grammar_shapes.specs.Spelled.{spelled_children}
use Rattle.rap_grammar_shapes.specs.Whole.{IsWhole}
use Rattle.rap_grammar_shapes.proofs.Along.{spelled}
use Rattle.rap_grammar_shapes.proofs.Claims.{brings}
use Rattle.rap_grammar_shapes.proofs.Content.{Content, nothing, leaf_of, node_of, spoilt, ◌or◌, Holds, a_leaf, a_node, by_first, by_second, is_settled}
use Rattle.rap_grammar_shapes.proofs.ContentLaws.{IsCalm, settled_so}
use Rattle.rap_grammar_shapes.proofs.Ends.{Contents, astray, contents, Ends, ends, has_leaves, has_nodes, has_spoilt, within, end_among, all_among, all_settled}
use Rattle.rap_grammar_shapes.proofs.ExprRules.{expr_keeps_no_structs_first, expr_keeps_no_structs, expr_keeps_structs_first, expr_keeps_structs}
use Rattle.rap_grammar_shapes.proofs.GenericRules.{generic_arg_keeps, generic_param_list_keeps, bounds_keep, where_clause_keeps}
use Rattle.rap_grammar_shapes.proofs.ItemRules.{item_keeps}
use Rattle.rap_grammar_shapes.proofs.Keeps.{Among, this_one, later_one, Brought, this_way, other_way, BringsSo, keeps, nothing_yet}
use Rattle.rap_grammar_shapes.proofs.Known.{is_right, all_right, knows, may_stand, all_stand, stands_under}
use Rattle.rap_grammar_shapes.proofs.Letters.{tells, names_outer, letters, letter_whole, OfNodes, AllAre, all_are-⧺, found_so, are_wider, Good, all_told, messages-⧺}
use Rattle.rap_grammar_shapes.proofs.PatternRules.{pattern_keeps, pattern_single_keeps, arm_pattern_keeps}
use Rattle.rap_grammar_shapes.proofs.Small.{Keeps, token_tree_keeps, cfg_predicate_keeps, meta_keeps, use_tree_keeps, if_expr_keeps}
use Rattle.rap_grammar_shapes.proofs.StmtRules.{stmt_required_keeps, stmt_optional_keeps, stmt_forbidden_keeps}
use Rattle.rap_grammar_shapes.proofs.Trees.{Part, Is, closes_good}
use Rattle.rap_grammar_shapes.proofs.TypeRules.{type_with_bounds_keeps, type_without_bounds_keeps, path_type_bounds_keeps}

-- what is one child of these kinds
leaves_so : (ks : List ℕ) (c : Content) (cs : List Child) → has_leaves ks c ≡ true → Holds (leaf_of ks) cs → Holds c cs
leaves_so ks (leaf_of js) cs h (a_leaf {kind = k} m) = a_leaf (every_so (among js) ks k h m)
leaves_so ks (a or b) cs h s =
    by_or (has_leaves ks a) (has_leaves ks b) h (λ i. by_first (leaves_so ks a cs i s))
    (λ i. by_second (leaves_so ks b cs i s))
leaves_so ks c cs h s = absurd cc

nodes_so : (ks : List ℕ) (c : Content) (cs : List Child) → has_nodes ks c ≡ true → Holds (node_of ks) cs → Holds c cs
nodes_so ks (node_of js) cs h (a_node {kind = k} m) = a_node (every_so (among js) ks k h m)
nodes_so ks (a or b) cs h s =
    by_or (has_nodes ks a) (has_nodes ks b) h (λ i. by_first (nodes_so ks a cs i s))
    (λ i. by_second (nodes_so ks b cs i s))
nodes_so ks c cs h s = absurd cc

spoilt_so : (c : Content) (cs : List Child) → has_spoilt c ≡ true → Holds spoilt cs → Holds c cs
spoilt_so spoilt cs h s = s
spoilt_so (a or b) cs h s =
    by_or (has_spoilt a) (has_spoilt b) h (λ i. by_first (spoilt_so a cs i s)) (λ i. by_second (spoilt_so b cs i s))
spoilt_so c cs h s = absurd cc

-- What is within another content is held by it.
pub within_so : (a c : Content) (cs : List Child) → within a c ≡ true → Holds a cs → Holds c cs
within_so (leaf_of ks) c cs h s = leaves_so ks c cs h s
within_so (node_of ks) c cs h s = nodes_so ks c cs h s
within_so spoilt c cs h s = spoilt_so c cs h s
within_so (a or b) c cs h (by_first s) = within_so a c cs (and_left (within a c) (within b c) h) s
within_so (a or b) c cs h (by_second s) = within_so b c cs (and_right (within a c) (within b c) h) s
within_so a c cs h s = absurd cc

way_if : (b : Bool) (v w : Outcome) (a : Content) (e : Outcome × Content) (k : List (Outcome × Content))
    (p q : Spot) → (b ≡ true → w ≡ e.0) → v ≡ w →
    (if b then within a e.1 else end_among w (contents a []) k) ≡ true →
    (end_among w (contents a []) k ≡ true → Brought k v p q) → Part p.forest p.below a q.forest q.below →
    Brought (e ∷ k) v p q
way_if true v w a e k p q i j h f x =
    subst (λ (u : Outcome). Brought (e ∷ k) u p q) (sym j)
    (this_way (i refl)
    (record {
      new = x.new;
      forest = x.forest;
      below = x.below;
      holds = within_so a e.1 (letters x.new) h x.holds;
      so = x.so;
    }))
way_if false v w a e k p q i j h f x = other_way (f h)

end_so : (k : List (Outcome × Content)) (v w : Outcome) (x : Contents) (p q : Spot) → v ≡ w →
    end_among w x k ≡ true → Is p.forest p.below x q → Brought k v p q
end_so k v w astray p q i h a = absurd cc
end_so k v w (contents a (b ∷ os)) p q i h x = absurd cc
end_so [] v w (contents a []) p q i h x = absurd cc
end_so (e ∷ k) v w (contents a []) p q i h x =
    way_if (same_outcome w e.0) v w a e k p q (same_is w e.0) i h (λ j. end_so k v w (contents a []) p q i j x) x

all_so : (l : Ends) (k : List (Outcome × Content)) (v : Outcome) (p q : Spot) → all_among l k ≡ true →
    Among p.forest p.below l v q → Brought k v p q
all_so [] k v p q h a = elim a [ ]
all_so (e ∷ l) k v p q h (this_one i s c) = end_so k v e.0 e.2 p q i (and_left (end_among e.0 e.2 k) _ h) c
all_so (e ∷ l) k v p q h (later_one a) = all_so l k v p q (and_right (end_among e.0 e.2 k) _ h) a

-- every rule, by its arguments
expr_keeps : (a b : Bool) (bp : ℕ) → Keeps (knot.ExprBp (record { forbid_structs = a; prefer_stmt = b }) bp)
expr_keeps true true bp = expr_keeps_no_structs_first bp
expr_keeps true false bp = expr_keeps_no_structs bp
expr_keeps false true bp = expr_keeps_structs_first bp
expr_keeps false false bp = expr_keeps_structs bp

type_keeps : (b : Bool) → Keeps (knot.TypeWithBoundsCond b)
type_keeps true = type_with_bounds_keeps
type_keeps false = type_without_bounds_keeps

stmt_keeps : (s : Semicolon) → Keeps (knot.Stmt s)
stmt_keeps semicolon.Required = stmt_required_keeps
stmt_keeps semicolon.Optional = stmt_optional_keeps
stmt_keeps semicolon.Forbidden = stmt_forbidden_keeps

-- Every rule's script keeps to what is claimed of the rule.
pub each_keeps : (c : Rule) → Keeps c
each_keeps (knot.ExprBp r bp) = expr_keeps r.forbid_structs r.prefer_stmt bp
each_keeps (knot.TypeWithBoundsCond b) = type_keeps b
each_keeps knot.PathTypeBounds = path_type_bounds_keeps
each_keeps knot.GenericArg = generic_arg_keeps
each_keeps knot.GenericParamList = generic_param_list_keeps
each_keeps knot.BoundsWithoutColon = bounds_keep
each_keeps knot.WhereClause = where_clause_keeps
each_keeps knot.Pattern = pattern_keeps
each_keeps knot.PatternSingle = pattern_single_keeps
each_keeps knot.ArmPattern = arm_pattern_keeps
each_keeps (knot.Stmt s) = stmt_keeps s
each_keeps knot.IfExpr = if_expr_keeps
each_keeps (knot.ItemOrMacro a b) = item_keeps a b
each_keeps knot.UseTree = use_tree_keeps
each_keeps knot.Meta = meta_keeps
each_keeps knot.CfgPredicate = cfg_predicate_keeps
each_keeps knot.TokenTree = token_tree_keeps

-- Every rule brings what is claimed of it.
pub all_bring : BringsSo
all_bring c p q v a = all_so (ends (script_of c) [] (contents nothing [])) (brings c) v p q (each_keeps c) a

-- where a script ends that begins where nothing was appended yet
ends_from : (s : Script Rule) (p q : Spot) (v : Outcome) → All IsTokenRecord p.rest →
    Runs script_of s p q v → Among p.forest p.below (ends s [] (contents nothing [])) v q
ends_from s p q v t r =
    keeps all_bring p q v t r [] (contents nothing []) (nothing_known p.rest) p.forest p.below (nothing_yet p)

-- A node is of the shape of its kind.
abbrev pub Spelled : OfNodes
Spelled kind inside = IsWhole (children_of inside) → Spells (shape_of kind) (spelled_children inside)

-- What automata accept is of the shapes.
good_spelled : (kind : ℕ) (inside : Forest) → Good kind inside → Spelled kind inside
good_spelled kind inside h w = spelled kind (spelled_children inside) (h.accepted w)

spelled_all : (f : Forest) → AllAre Good f → AllAre Spelled f
spelled_all f h = are_wider Good Spelled good_spelled f h

-- Nodes that are so wherever they stand, and all nodes of a forest.
abbrev ErrorsTold : Forest → Type 0
ErrorsTold f = message_count f ≡ 0 → (place : ℕ) (children : Forest) → NodeAt f place ERROR children → ⊥

pub shapes_of : (f : Forest) → AllAre Spelled f → ErrorsTold f → HaveShapes f
shapes_of f a t =
    record {
      shapes = λ place kind children n w. found_so Spelled n a w;
      told = t;
    }

all_so_far : (f : Forest) → ((place kind : ℕ) (children : Forest) → NodeAt f place kind children → Spelled kind children) →
    AllAre Spelled f
all_so_far none h = tt
all_so_far (node f k c) h = (
  all_so_far f (λ place kind children n. h place kind children (before_node n)),
  all_so_far c (λ place kind children n. h _ kind children (in_last_node n)),
  h _ k c last_node,
)
all_so_far (leaf f k w) h = all_so_far f (λ place kind children n. h place kind children (before_leaf n))
all_so_far (message f m) h = all_so_far f (λ place kind children n. h place kind children (before_message n))
all_so_far (split f d) h = all_so_far f (λ place kind children n. h place kind children (before_split n))

pub all_of : (f : Forest) → HaveShapes f → AllAre Spelled f
all_of f h = all_so_far f (λ place kind children n w. h.shapes place kind children n w)

-- a node of two forests, one behind the other, is one of either
record NodeIn (f : Forest) (kind : ℕ) (children : Forest) : Type 0 where
  place : ℕ
  stands : NodeAt f place kind children

on_right : {A B C : Type 0} → (B → C) → A ⊎ B → A ⊎ C
on_right h (inl a) = inl a
on_right h (inr b) = inr (h b)

in_front : (f g : Forest) (place kind : ℕ) (children : Forest) → NodeAt (f ⧺ g) place kind children →
    NodeIn f kind children ⊎ NodeIn g kind children
in_front f none place kind children n = inl (record { place = place; stands = n })
in_front f (node g k c) place kind children last_node = inr (record { place = _; stands = last_node })
in_front f (node g k c) place kind children (in_last_node n) = inr (record { place = _; stands = in_last_node n })
in_front f (node g k c) place kind children (before_node n) =
    on_right (λ m. record { place = m.place; stands = before_node m.stands }) (in_front f g place kind children n)
in_front f (leaf g k w) place kind children (before_leaf n) =
    on_right (λ m. record { place = m.place; stands = before_leaf m.stands }) (in_front f g place kind children n)
in_front f (message g m) place kind children (before_message n) =
    on_right (λ m. record { place = m.place; stands = before_message m.stands }) (in_front f g place kind children n)
in_front f (split g d) place kind children (before_split n) =
    on_right (λ m. record { place = m.place; stands = before_split m.stands }) (in_front f g place kind children n)

told-⧺ : (f g : Forest) → ErrorsTold f → ErrorsTold g → ErrorsTold (f ⧺ g)
told-⧺ f g h i z place children n =
    let s = messages-⧺ f g in
    elim (in_front f g place ERROR children n) [
      | inl m ↦ h (omega (arith, s, z)) m.place children m.stands
      | inr m ↦ i (omega (arith, s, z)) m.place children m.stands
    ]

-- What is appended to what has shapes, with nothing owed.
part_so : (a : Content) (p q : Spot) → is_settled a ≡ true → Part p.forest p.below a q.forest q.below →
    HaveShapes p.forest → HaveShapes q.forest
part_so a p q s x h =
    subst (λ (f : Forest). HaveShapes f) (sym x.forest)
    (shapes_of (p.forest ⧺ x.new) (all_are-⧺ Spelled p.forest x.new (all_of p.forest h) (spelled_all x.new x.so.nodes))
    (told-⧺ p.forest x.new h.told (all_told x.new x.so.nodes (settled_so a (letters x.new) s x.holds))))

-- what a rule brings is so
brought_so : (k : List (Outcome × Content)) (v : Outcome) (p q : Spot) → all_settled k ≡ true → Brought k v p q →
    HaveShapes p.forest → HaveShapes q.forest
brought_so [] v p q s b a = elim b [ ]
brought_so (e ∷ k) v p q s (this_way i x) a = part_so e.1 p q (and_left (is_settled e.1) (all_settled k) s) x a
brought_so (e ∷ k) v p q s (other_way b) a = brought_so k v p q (and_right (is_settled e.1) (all_settled k) s) b a

rule_settled : (c : Rule) → all_settled (brings c) ≡ true
rule_settled (knot.ExprBp r bp) = refl
rule_settled (knot.TypeWithBoundsCond b) = refl
rule_settled knot.PathTypeBounds = refl
rule_settled knot.GenericArg = refl
rule_settled knot.GenericParamList = refl
rule_settled knot.BoundsWithoutColon = refl
rule_settled knot.WhereClause = refl
rule_settled knot.Pattern = refl
rule_settled knot.PatternSingle = refl
rule_settled knot.ArmPattern = refl
rule_settled (knot.Stmt s) = refl
rule_settled knot.IfExpr = refl
rule_settled (knot.ItemOrMacro a b) = refl
rule_settled knot.UseTree = refl
rule_settled knot.Meta = refl
rule_settled knot.CfgPredicate = refl
rule_settled knot.TokenTree = refl

-- Rules add nodes that have the children of their kinds.
pub rules_keep : RulesKeepShapes
rules_keep c p q v t r h =
    brought_so (brings c) v p q (rule_settled c) (all_bring c p q v (ends_from (script_of c) p q v t r)) h

-- what a known end has appended
right_so : (x : Contents) (p q : Spot) → is_right x ≡ true → Is p.forest p.below x q → HaveShapes p.forest →
    HaveShapes q.forest
right_so astray p q h i a = absurd cc
right_so (contents c (b ∷ os)) p q h i a = absurd cc
right_so (contents c []) p q h i a = part_so c p q h i a

all_right_so : (l : Ends) (v : Outcome) (p q : Spot) → all_right l ≡ true → Among p.forest p.below l v q →
    HaveShapes p.forest → HaveShapes q.forest
all_right_so [] v p q h a x = elim a [ ]
all_right_so (e ∷ l) v p q h (this_one i s c) x = right_so e.2 p q (and_left (is_right e.2) (all_right l) h) c x
all_right_so (e ∷ l) v p q h (later_one a) x = all_right_so l v p q (and_right (is_right e.2) (all_right l) h) a x

-- A script whose ends are known adds nodes that have the children of their kinds.
pub script_so : (s : Script Rule) → knows s ≡ true → KeepsShapes s
script_so s h p q v t r a =
    all_right_so (ends s [] (contents nothing [])) v p q h (ends_from s p q v t r) a

-- no node stands in no tree
no_nodes : HaveShapes none
no_nodes =
    record {
      shapes = λ place kind children n w. elim n [ ];
      told = λ z place children n. elim n [ ];
    }

-- From nothing on all nodes are so.
pub from_none : (s : Script Rule) → KeepsShapes s → (p q : Spot) (v : Outcome) → All IsTokenRecord p.rest →
    Runs script_of s p q v → p.forest ≡ none → HaveShapes q.forest
from_none s k p q v t r i = k p q v t r (subst (λ (f : Forest). HaveShapes f) (sym i) no_nodes)

none-⧺ : (f : Forest) → none ⧺ f ≡ f
none-⧺ none = refl
none-⧺ (node f k c) = ap (λ (x : Forest). node x k c) (none-⧺ f)
none-⧺ (leaf f k w) = ap (λ (x : Forest). leaf x k w) (none-⧺ f)
none-⧺ (message f m) = ap (λ (x : Forest). message x m) (none-⧺ f)
none-⧺ (split f d) = ap (λ (x : Forest). split x d) (none-⧺ f)

-- what may stand under a node of a kind
stand_so : (kind : ℕ) (x : Contents) (p q : Spot) → may_stand kind x ≡ true → p.forest ≡ none →
    Is p.forest p.below x q → AllAre Good (node none kind q.forest)
stand_so kind astray p q h e i = absurd cc
stand_so kind (contents c (b ∷ os)) p q h e i = absurd cc
stand_so kind (contents c []) p q h e i =
    let f : q.forest ≡ i.new = i.forest ∙ (ap (λ (y : Forest). y ⧺ i.new) e ∙ none-⧺ i.new) in
    subst (λ (y : Forest). AllAre Good (node none kind y)) (sym f)
    (tt, i.so.nodes, closes_good kind c i.new h i.holds i.so.plain)

all_stand_so : (kind : ℕ) (l : Ends) (v : Outcome) (p q : Spot) → all_stand kind l ≡ true → p.forest ≡ none →
    Among p.forest p.below l v q → AllAre Good (node none kind q.forest)
all_stand_so kind [] v p q h e a = elim a [ ]
all_stand_so kind (x ∷ l) v p q h e (this_one i s c) =
    stand_so kind x.2 p q (and_left (may_stand kind x.2) (all_stand kind l) h) e c
all_stand_so kind (x ∷ l) v p q h e (later_one a) =
    all_stand_so kind l v p q (and_right (may_stand kind x.2) (all_stand kind l) h) e a

-- a node that is no ERROR
not_false : (b : Bool) → not b ≡ true → b ≡ false
not_false true h = absurd cc
not_false false h = refl

whole_root : (kind : ℕ) (f : Forest) → not (kind == ERROR) ≡ true → IsCalm (letters (node none kind f))
whole_root kind f h n = letter_whole kind (tells f) (names_outer f) (not_false (kind == ERROR) h)

-- What a script makes from nothing on may stand under a node of a kind: all nodes are so, with that one.
pub root_so : (kind : ℕ) (s : Script Rule) → stands_under kind s ≡ true → MakesNode kind s
root_so kind s h p q v t r i =
    let f = node none kind q.forest in
    let a =
    all_stand_so kind (ends s [] (contents nothing [])) v p q
    (and_right (not (kind == ERROR)) (all_stand kind (ends s [] (contents nothing []))) h) i (ends_from s p q v t r) in
    shapes_of f (spelled_all f a)
    (all_told f a
    (whole_root kind q.forest (and_left (not (kind == ERROR)) (all_stand kind (ends s [] (contents nothing []))) h)))
