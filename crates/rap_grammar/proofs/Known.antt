-- What is known of the output of a type, a pattern, an attribute and an expression.
use Rattle.std.proofs.Common.{◌≡◌, ℕ, zero, suc, Bool, true, false, not, List, [], Option, Some, None, refl, sym, ap, ◌∙◌}
use Rattle.rap_events.proofs.Truth.{and_right}
use Rattle.rap_events.specs.Forest.{Forest, none, node, flat, one_tree, ends_in_dot}
use Rattle.rap_events.specs.State.{State, but_last, last_children}
use Rattle.rap_events.specs.declared.parser.CompletedMarker.{CompletedMarker}
use Rattle.rap_grammar_scripts.specs.Exec.{run_of, Obeys}
use Rattle.rap_grammar_scripts.specs.Knot.{script_of}
use Rattle.rap_grammar_scripts.specs.Script.{Outcome, give, rule, gives, obeys}
use Rattle.rap_grammar_scripts.specs.Stand.{Stand, stand}
use Rattle.rap_grammar_scripts.specs.ThroughKnot.{unrestricted}
use Rattle.rap_grammar_scripts.specs.declared.arguments.BlockLike.{BlockLike}
use Rattle.rap_grammar_scripts.specs.declared.rule.Rule.{Rule}
use Rattle.rap_grammar_scripts.specs.declared.rule.Rule.TheVariants as knot
use Rattle.rap_grammar_scripts.proofs.Exec.{no_end, rules_run}
use Rattle.rap_grammar_scripts.proofs.Scripts.{scripts}
use Rattle.rap_grammar_ends.proofs.DotEnds.{inside}
use Rattle.rap_grammar_ends.proofs.DotFits.{at_range, computed, range_implies}
use Rattle.rap_grammar_ends.proofs.DotKeeps.{leaves_inside, kept_inside}
use Rattle.rap_grammar_ends.proofs.DotRules.{dots_sound}
use Rattle.rap_grammar_ends.proofs.Endings.{every}
use Rattle.rap_grammar_ends.specs.Dots.{dots_inside}
use Rattle.rap_grammar_frame.specs.Rules.{Post}
use Rattle.rap_grammar.specs.Known.{IsKnown, begins_node, known_by, known_of}
use Rattle.rap_grammar.proofs.DotsInside.{LeavesNone}
use Rattle.rap_grammar.proofs.Shapes.{Shape, empty, named, abi, headless, free, Shapes, shapes, shape_ends, Is, Named, Ended, keeps}

-- no float's dot ends a node at the top
inside_after : (c : Rule) → LeavesNone (rule c (λ v. give v)) → (n : ℕ) (p q : Stand) (v : Outcome) →
    run_of n c p ≡ Some (q, v) → p.forest ≡ none → dots_inside q.forest ≡ true
inside_after c h n p q v e k =
    kept_inside dots_sound (obeys {n = λ v. give v} (rules_run n c p q v e) gives)
    (computed (rule c (λ v. give v)) at_range inside [] leaves_inside range_implies h) (ap dots_inside k)

-- one node that is no `ABI`; nothing, one such node, or what begins with none
abbrev is_node : Outcome → Shapes → Bool
is_node v (shapes empty ls) = false
is_node v (shapes named ls) = true
is_node v (shapes abi ls) = false
is_node v (shapes headless ls) = false
is_node v (shapes free ls) = false

abbrev is_told : Outcome → Shapes → Bool
is_told v (shapes empty ls) = true
is_told v (shapes named ls) = true
is_told v (shapes abi ls) = false
is_told v (shapes headless ls) = true
is_told v (shapes free ls) = false

named_tree : (f : Forest) → Named f → dots_inside f ≡ true → one_tree f ≡ true
named_tree f a d = rw a.is (and_right true (not (ends_in_dot a.children)) (rw a.is at d))

named_begins : (f : Forest) → Named f → begins_node (flat f) ≡ true
named_begins f a = rw (a.is, a.other) refl

node_tree : (v : Outcome) (l : Shape) (ls : List Shape) (f : Forest) → is_node v (shapes l ls) ≡ true → Is l f →
    dots_inside f ≡ true → one_tree f ≡ true
node_tree v empty ls f h a d = absurd cc
node_tree v named ls f h a d = named_tree f a d
node_tree v abi ls f h a d = absurd cc
node_tree v headless ls f h a d = absurd cc
node_tree v free ls f h a d = absurd cc

told_tree : (v : Outcome) (l : Shape) (ls : List Shape) (f : Forest) → is_told v (shapes l ls) ≡ true → Is l f →
    dots_inside f ≡ true → one_tree f ≡ begins_node (flat f)
told_tree v empty ls f h a d = rw a refl
told_tree v named ls f h a d = named_tree f a d ∙ sym (named_begins f a)
told_tree v abi ls f h a d = absurd cc
told_tree v headless ls f h a d = a.more ∙ sym a.begins
told_tree v free ls f h a d = absurd cc

-- a rule that begins with nothing
shape_after : (f : Outcome → Shapes → Bool) (c : Rule) → every f (shape_ends (script_of c) empty []) ≡ true → (n : ℕ)
    (p q : Stand) (v : Outcome) → run_of n c p ≡ Some (q, v) → p.forest ≡ none → Ended f q v
shape_after f c h zero p q v e k = no_end e
shape_after f c h (suc n) p q v e k =
    keeps n (script_of c) empty [] f h p q v e (record { newest = k; older = tt })

type_told : (allow_bounds : Bool) →
    every is_told (shape_ends (script_of (knot.TypeWithBoundsCond allow_bounds)) empty []) ≡ true
unfolding scripts
type_told true = refl
type_told false = refl

pattern_told : every is_told (shape_ends (script_of knot.Pattern) empty []) ≡ true
unfolding scripts
pattern_told = refl

meta_node : every is_node (shape_ends (script_of knot.Meta) empty []) ≡ true
unfolding scripts
meta_node = refl

told_after : (c : Rule) → every is_told (shape_ends (script_of c) empty []) ≡ true →
    LeavesNone (rule c (λ v. give v)) → (n : ℕ) (p q : Stand) (v : Outcome) → run_of n c p ≡ Some (q, v) →
    p.forest ≡ none → one_tree q.forest ≡ begins_node (flat q.forest)
told_after c h i n p q v e k =
    let x = shape_after is_told c h n p q v e k in
    told_tree v x.newest x.older q.forest x.so x.stands.newest (inside_after c i n p q v e k)

node_after : (c : Rule) → every is_node (shape_ends (script_of c) empty []) ≡ true →
    LeavesNone (rule c (λ v. give v)) → (n : ℕ) (p q : Stand) (v : Outcome) → run_of n c p ≡ Some (q, v) →
    p.forest ≡ none → one_tree q.forest ≡ true
node_after c h i n p q v e k =
    let x = shape_after is_node c h n p q v e k in
    node_tree v x.newest x.older q.forest x.so x.stands.newest (inside_after c i n p q v e k)

-- what is known of what a rule leaves
known_after : (n : ℕ) (c : Rule) (v : Outcome) (p q : Stand) → run_of n c p ≡ Some (q, v) → p.forest ≡ none →
    IsKnown (known_of c) q.forest
unfolding IsKnown known_of
known_after n (knot.TypeWithBoundsCond a) v p q e k =
    told_after (knot.TypeWithBoundsCond a) (type_told a) refl n p q v e k
known_after n knot.Pattern v p q e k = told_after knot.Pattern pattern_told refl n p q v e k
known_after n knot.Meta v p q e k = node_after knot.Meta meta_node refl n p q v e k
known_after n c v p q e k = tt

pub leaves : {n : ℕ} (c : Rule) {v : Outcome} (old new : State) → Obeys (suc n) c v old new → old.forest ≡ none →
    IsKnown (known_of c) new.forest
leaves {n = n} c {v = v} old new d k = known_after (suc n) c v (stand old) (stand new) d.run k

-- an expression is one node
expr_inside : {n : ℕ} {v : Outcome} (old new : State) → Obeys n (knot.ExprBp unrestricted 1) v old new →
    old.forest ≡ none → dots_inside new.forest ≡ true
expr_inside {n = n} {v = v} old new d k =
    inside_after (knot.ExprBp unrestricted 1) refl n (stand old) (stand new) v d.run k

last_tree_alone : (f b c : Forest) (k : ℕ) → f ≡ node b k c → b ≡ none → dots_inside f ≡ true → one_tree f ≡ true
last_tree_alone f b c k e i d = rw (e, i) (and_right true (not (ends_in_dot c)) (rw (e, i) at d))

pub expr_known : {n : ℕ} (old new : State) (e : Option (CompletedMarker × BlockLike)) →
    Post n (knot.ExprBp unrestricted 1) old new e → old.forest ≡ none → IsKnown (known_by e) new.forest
unfolding IsKnown
expr_known old new None h k = tt
expr_known old new (Some x) h k =
    last_tree_alone new.forest (but_last new.forest) (last_children new.forest) x.0.kind.value h.0.0.last.forest
    (h.0.0.one ∙ k) (expr_inside old new h.1 k)
