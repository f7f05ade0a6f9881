-- A recursive rule takes a token before these kinds, and before those none.
use Rattle.std.proofs.Common.{◌≡◌, ◌<◌, ℕ, Bool, true, false, not, ◌&&◌, ◌||◌, length, refl}
use Rattle.rap_base.specs.TokenTests.{is_token}
use Rattle.rap_events.specs.State.{state, next}
use Rattle.rap_events.specs.declared.parser.Parser.{Parser}
use Rattle.rap_grammar_scripts.specs.Exec.{Obeys, run_of}
use Rattle.rap_grammar_scripts.specs.Firsts.{takes_before, rests_before, rests_with, as_said}
use Rattle.rap_grammar_scripts.specs.Moves.{stays_of, rests_of, every_kind, from_on, no_outcome}
use Rattle.rap_grammar_scripts.specs.Script.{Outcome}
use Rattle.rap_grammar_scripts.specs.Stand.{Stand, stand}
use Rattle.rap_grammar_scripts.specs.declared.rule.Rule.{Rule}
use Rattle.rap_grammar_scripts.specs.declared.rule.Rule.TheVariants as knot
use Rattle.rap_grammar_scripts.specs.declared.arguments.Restrictions.{Restrictions}
use Rattle.rap_grammar_scripts.specs.declared.arguments.Semicolon.{Semicolon}
use Rattle.rap_grammar_scripts.specs.declared.arguments.Semicolon.TheVariants as kind
use Rattle.rap_grammar_scripts.proofs.Moves.{Stirs, stirred, stayed, rules_stir, of_every, in_parts, next_token, left_so, right_so}
use Rattle.rap_grammar_scripts.proofs.Rests.{rules_rest}
use Rattle.rap_events.proofs.Skips.{rest_at_end}
use Rattle.rap_grammar_scripts.specs.EffectBlocks.{is_effect_block}
use Rattle.rap_grammar_scripts.specs.Postfix.{is_method_call}
use Rattle.rap_grammar_scripts.specs.Ranges.{has_range_end}
use Rattle.rap_grammar_scripts.proofs.Scripts.{scripts}

-- a part of the kinds: so many after this one
abbrev From : ℕ → ℕ → Rule → Type 0
From a n c = from_on a n (as_said c) ≡ true

abbrev Every : Rule → Type 0
Every c = every_kind (as_said c) ≡ true

-- before each kind
abbrev Everywhere : Rule → Type 0
Everywhere c = (k : ℕ) → is_token k ≡ true → as_said c k ≡ true

expr_tt_a : (bp : ℕ) → From 0 39 (knot.ExprBp (record { forbid_structs = true; prefer_stmt = true }) bp)
unfolding scripts is_effect_block is_method_call has_range_end
expr_tt_a bp = refl

expr_tt_b : (bp : ℕ) → From 40 39 (knot.ExprBp (record { forbid_structs = true; prefer_stmt = true }) bp)
unfolding scripts is_effect_block is_method_call has_range_end
expr_tt_b bp = refl

expr_tt_c : (bp : ℕ) → From 80 39 (knot.ExprBp (record { forbid_structs = true; prefer_stmt = true }) bp)
unfolding scripts is_effect_block is_method_call has_range_end
expr_tt_c bp = refl

expr_tt_d : (bp : ℕ) → From 120 36 (knot.ExprBp (record { forbid_structs = true; prefer_stmt = true }) bp)
unfolding scripts is_effect_block is_method_call has_range_end
expr_tt_d bp = refl

expr_tt : (bp : ℕ) → Everywhere (knot.ExprBp (record { forbid_structs = true; prefer_stmt = true }) bp)
expr_tt bp = in_parts (as_said (knot.ExprBp (record { forbid_structs = true; prefer_stmt = true }) bp)) (expr_tt_a bp) (expr_tt_b bp) (expr_tt_c bp) (expr_tt_d bp)

expr_tf_a : (bp : ℕ) → From 0 39 (knot.ExprBp (record { forbid_structs = true; prefer_stmt = false }) bp)
unfolding scripts is_effect_block is_method_call has_range_end
expr_tf_a bp = refl

expr_tf_b : (bp : ℕ) → From 40 39 (knot.ExprBp (record { forbid_structs = true; prefer_stmt = false }) bp)
unfolding scripts is_effect_block is_method_call has_range_end
expr_tf_b bp = refl

expr_tf_c : (bp : ℕ) → From 80 39 (knot.ExprBp (record { forbid_structs = true; prefer_stmt = false }) bp)
unfolding scripts is_effect_block is_method_call has_range_end
expr_tf_c bp = refl

expr_tf_d : (bp : ℕ) → From 120 36 (knot.ExprBp (record { forbid_structs = true; prefer_stmt = false }) bp)
unfolding scripts is_effect_block is_method_call has_range_end
expr_tf_d bp = refl

expr_tf : (bp : ℕ) → Everywhere (knot.ExprBp (record { forbid_structs = true; prefer_stmt = false }) bp)
expr_tf bp = in_parts (as_said (knot.ExprBp (record { forbid_structs = true; prefer_stmt = false }) bp)) (expr_tf_a bp) (expr_tf_b bp) (expr_tf_c bp) (expr_tf_d bp)

expr_ft_a : (bp : ℕ) → From 0 39 (knot.ExprBp (record { forbid_structs = false; prefer_stmt = true }) bp)
unfolding scripts is_effect_block is_method_call has_range_end
expr_ft_a bp = refl

expr_ft_b : (bp : ℕ) → From 40 39 (knot.ExprBp (record { forbid_structs = false; prefer_stmt = true }) bp)
unfolding scripts is_effect_block is_method_call has_range_end
expr_ft_b bp = refl

expr_ft_c : (bp : ℕ) → From 80 39 (knot.ExprBp (record { forbid_structs = false; prefer_stmt = true }) bp)
unfolding scripts is_effect_block is_method_call has_range_end
expr_ft_c bp = refl

expr_ft_d : (bp : ℕ) → From 120 36 (knot.ExprBp (record { forbid_structs = false; prefer_stmt = true }) bp)
unfolding scripts is_effect_block is_method_call has_range_end
expr_ft_d bp = refl

expr_ft : (bp : ℕ) → Everywhere (knot.ExprBp (record { forbid_structs = false; prefer_stmt = true }) bp)
expr_ft bp = in_parts (as_said (knot.ExprBp (record { forbid_structs = false; prefer_stmt = true }) bp)) (expr_ft_a bp) (expr_ft_b bp) (expr_ft_c bp) (expr_ft_d bp)

expr_ff_a : (bp : ℕ) → From 0 39 (knot.ExprBp (record { forbid_structs = false; prefer_stmt = false }) bp)
unfolding scripts is_effect_block is_method_call has_range_end
expr_ff_a bp = refl

expr_ff_b : (bp : ℕ) → From 40 39 (knot.ExprBp (record { forbid_structs = false; prefer_stmt = false }) bp)
unfolding scripts is_effect_block is_method_call has_range_end
expr_ff_b bp = refl

expr_ff_c : (bp : ℕ) → From 80 39 (knot.ExprBp (record { forbid_structs = false; prefer_stmt = false }) bp)
unfolding scripts is_effect_block is_method_call has_range_end
expr_ff_c bp = refl

expr_ff_d : (bp : ℕ) → From 120 36 (knot.ExprBp (record { forbid_structs = false; prefer_stmt = false }) bp)
unfolding scripts is_effect_block is_method_call has_range_end
expr_ff_d bp = refl

expr_ff : (bp : ℕ) → Everywhere (knot.ExprBp (record { forbid_structs = false; prefer_stmt = false }) bp)
expr_ff bp = in_parts (as_said (knot.ExprBp (record { forbid_structs = false; prefer_stmt = false }) bp)) (expr_ff_a bp) (expr_ff_b bp) (expr_ff_c bp) (expr_ff_d bp)

-- lemmas: written by crates/rap_grammar_scripts/rules up to "end"
of_stmt_required_a : From 0 39 (knot.Stmt kind.Required)
unfolding scripts is_effect_block is_method_call has_range_end
of_stmt_required_a = refl

of_stmt_required_b : From 40 39 (knot.Stmt kind.Required)
unfolding scripts is_effect_block is_method_call has_range_end
of_stmt_required_b = refl

of_stmt_required_c : From 80 39 (knot.Stmt kind.Required)
unfolding scripts is_effect_block is_method_call has_range_end
of_stmt_required_c = refl

of_stmt_required_d : From 120 36 (knot.Stmt kind.Required)
unfolding scripts is_effect_block is_method_call has_range_end
of_stmt_required_d = refl

of_stmt_optional_a : From 0 39 (knot.Stmt kind.Optional)
unfolding scripts is_effect_block is_method_call has_range_end
of_stmt_optional_a = refl

of_stmt_optional_b : From 40 39 (knot.Stmt kind.Optional)
unfolding scripts is_effect_block is_method_call has_range_end
of_stmt_optional_b = refl

of_stmt_optional_c : From 80 39 (knot.Stmt kind.Optional)
unfolding scripts is_effect_block is_method_call has_range_end
of_stmt_optional_c = refl

of_stmt_optional_d : From 120 36 (knot.Stmt kind.Optional)
unfolding scripts is_effect_block is_method_call has_range_end
of_stmt_optional_d = refl

of_stmt_forbidden_a : From 0 39 (knot.Stmt kind.Forbidden)
unfolding scripts is_effect_block is_method_call has_range_end
of_stmt_forbidden_a = refl

of_stmt_forbidden_b : From 40 39 (knot.Stmt kind.Forbidden)
unfolding scripts is_effect_block is_method_call has_range_end
of_stmt_forbidden_b = refl

of_stmt_forbidden_c : From 80 39 (knot.Stmt kind.Forbidden)
unfolding scripts is_effect_block is_method_call has_range_end
of_stmt_forbidden_c = refl

of_stmt_forbidden_d : From 120 36 (knot.Stmt kind.Forbidden)
unfolding scripts is_effect_block is_method_call has_range_end
of_stmt_forbidden_d = refl

of_item_or_macro_true_true_a : From 0 39 (knot.ItemOrMacro true true)
unfolding scripts is_effect_block is_method_call has_range_end
of_item_or_macro_true_true_a = refl

of_item_or_macro_true_true_b : From 40 39 (knot.ItemOrMacro true true)
unfolding scripts is_effect_block is_method_call has_range_end
of_item_or_macro_true_true_b = refl

of_item_or_macro_true_true_c : From 80 39 (knot.ItemOrMacro true true)
unfolding scripts is_effect_block is_method_call has_range_end
of_item_or_macro_true_true_c = refl

of_item_or_macro_true_true_d : From 120 36 (knot.ItemOrMacro true true)
unfolding scripts is_effect_block is_method_call has_range_end
of_item_or_macro_true_true_d = refl

of_item_or_macro_true_false_a : From 0 39 (knot.ItemOrMacro true false)
unfolding scripts is_effect_block is_method_call has_range_end
of_item_or_macro_true_false_a = refl

of_item_or_macro_true_false_b : From 40 39 (knot.ItemOrMacro true false)
unfolding scripts is_effect_block is_method_call has_range_end
of_item_or_macro_true_false_b = refl

of_item_or_macro_true_false_c : From 80 39 (knot.ItemOrMacro true false)
unfolding scripts is_effect_block is_method_call has_range_end
of_item_or_macro_true_false_c = refl

of_item_or_macro_true_false_d : From 120 36 (knot.ItemOrMacro true false)
unfolding scripts is_effect_block is_method_call has_range_end
of_item_or_macro_true_false_d = refl

of_item_or_macro_false_true_a : From 0 39 (knot.ItemOrMacro false true)
unfolding scripts is_effect_block is_method_call has_range_end
of_item_or_macro_false_true_a = refl

of_item_or_macro_false_true_b : From 40 39 (knot.ItemOrMacro false true)
unfolding scripts is_effect_block is_method_call has_range_end
of_item_or_macro_false_true_b = refl

of_item_or_macro_false_true_c : From 80 39 (knot.ItemOrMacro false true)
unfolding scripts is_effect_block is_method_call has_range_end
of_item_or_macro_false_true_c = refl

of_item_or_macro_false_true_d : From 120 36 (knot.ItemOrMacro false true)
unfolding scripts is_effect_block is_method_call has_range_end
of_item_or_macro_false_true_d = refl

of_item_or_macro_false_false_a : From 0 39 (knot.ItemOrMacro false false)
unfolding scripts is_effect_block is_method_call has_range_end
of_item_or_macro_false_false_a = refl

of_item_or_macro_false_false_b : From 40 39 (knot.ItemOrMacro false false)
unfolding scripts is_effect_block is_method_call has_range_end
of_item_or_macro_false_false_b = refl

of_item_or_macro_false_false_c : From 80 39 (knot.ItemOrMacro false false)
unfolding scripts is_effect_block is_method_call has_range_end
of_item_or_macro_false_false_c = refl

of_item_or_macro_false_false_d : From 120 36 (knot.ItemOrMacro false false)
unfolding scripts is_effect_block is_method_call has_range_end
of_item_or_macro_false_false_d = refl

of_type_with_bounds_cond_true : Every (knot.TypeWithBoundsCond true)
unfolding scripts is_effect_block is_method_call has_range_end
of_type_with_bounds_cond_true = refl

of_type_with_bounds_cond_false : Every (knot.TypeWithBoundsCond false)
unfolding scripts is_effect_block is_method_call has_range_end
of_type_with_bounds_cond_false = refl

of_path_type_bounds : Every knot.PathTypeBounds
unfolding scripts is_effect_block is_method_call has_range_end
of_path_type_bounds = refl

of_generic_arg : Every knot.GenericArg
unfolding scripts is_effect_block is_method_call has_range_end
of_generic_arg = refl

of_generic_param_list : Every knot.GenericParamList
unfolding scripts is_effect_block is_method_call has_range_end
of_generic_param_list = refl

of_bounds_without_colon : Every knot.BoundsWithoutColon
unfolding scripts is_effect_block is_method_call has_range_end
of_bounds_without_colon = refl

of_where_clause : Every knot.WhereClause
unfolding scripts is_effect_block is_method_call has_range_end
of_where_clause = refl

of_pattern : Every knot.Pattern
unfolding scripts is_effect_block is_method_call has_range_end
of_pattern = refl

of_pattern_single : Every knot.PatternSingle
unfolding scripts is_effect_block is_method_call has_range_end
of_pattern_single = refl

of_arm_pattern : Every knot.ArmPattern
unfolding scripts is_effect_block is_method_call has_range_end
of_arm_pattern = refl

of_if_expr : Every knot.IfExpr
unfolding scripts is_effect_block is_method_call has_range_end
of_if_expr = refl

of_use_tree : Every knot.UseTree
unfolding scripts is_effect_block is_method_call has_range_end
of_use_tree = refl

of_meta : Every knot.Meta
unfolding scripts is_effect_block is_method_call has_range_end
of_meta = refl

of_cfg_predicate : Every knot.CfgPredicate
unfolding scripts is_effect_block is_method_call has_range_end
of_cfg_predicate = refl

of_token_tree : Every knot.TokenTree
unfolding scripts is_effect_block is_method_call has_range_end
of_token_tree = refl

-- end

-- what such a lemma says, of each kind of token
from_every : (c : Rule) → Every c → Everywhere c
from_every c e = λ k t. of_every (as_said c) k e t

from_parts : (c : Rule) → From 0 39 c → From 40 39 c → From 80 39 c → From 120 36 c → Everywhere c
from_parts c a b d e = λ k t. in_parts (as_said c) a b d e k t

expr_by : (a b : Bool) (bp : ℕ) → Everywhere (knot.ExprBp (record { forbid_structs = a; prefer_stmt = b }) bp)
expr_by true true bp = expr_tt bp
expr_by true false bp = expr_tf bp
expr_by false true bp = expr_ft bp
expr_by false false bp = expr_ff bp

everywhere : (c : Rule) → Everywhere c
everywhere (knot.ExprBp r bp) = expr_by r.forbid_structs r.prefer_stmt bp
-- everywhere: written by crates/rap_grammar_scripts/rules up to "end"
everywhere (knot.TypeWithBoundsCond true) = from_every (knot.TypeWithBoundsCond true) of_type_with_bounds_cond_true
everywhere (knot.TypeWithBoundsCond false) = from_every (knot.TypeWithBoundsCond false) of_type_with_bounds_cond_false
everywhere knot.PathTypeBounds = from_every knot.PathTypeBounds of_path_type_bounds
everywhere knot.GenericArg = from_every knot.GenericArg of_generic_arg
everywhere knot.GenericParamList = from_every knot.GenericParamList of_generic_param_list
everywhere knot.BoundsWithoutColon = from_every knot.BoundsWithoutColon of_bounds_without_colon
everywhere knot.WhereClause = from_every knot.WhereClause of_where_clause
everywhere knot.Pattern = from_every knot.Pattern of_pattern
everywhere knot.PatternSingle = from_every knot.PatternSingle of_pattern_single
everywhere knot.ArmPattern = from_every knot.ArmPattern of_arm_pattern
everywhere (knot.Stmt kind.Required) =
    from_parts (knot.Stmt kind.Required) of_stmt_required_a of_stmt_required_b of_stmt_required_c of_stmt_required_d
everywhere (knot.Stmt kind.Optional) =
    from_parts (knot.Stmt kind.Optional) of_stmt_optional_a of_stmt_optional_b of_stmt_optional_c of_stmt_optional_d
everywhere (knot.Stmt kind.Forbidden) =
    from_parts (knot.Stmt kind.Forbidden) of_stmt_forbidden_a of_stmt_forbidden_b of_stmt_forbidden_c
    of_stmt_forbidden_d
everywhere knot.IfExpr = from_every knot.IfExpr of_if_expr
everywhere (knot.ItemOrMacro true true) =
    from_parts (knot.ItemOrMacro true true) of_item_or_macro_true_true_a of_item_or_macro_true_true_b
    of_item_or_macro_true_true_c of_item_or_macro_true_true_d
everywhere (knot.ItemOrMacro true false) =
    from_parts (knot.ItemOrMacro true false) of_item_or_macro_true_false_a of_item_or_macro_true_false_b
    of_item_or_macro_true_false_c of_item_or_macro_true_false_d
everywhere (knot.ItemOrMacro false true) =
    from_parts (knot.ItemOrMacro false true) of_item_or_macro_false_true_a of_item_or_macro_false_true_b
    of_item_or_macro_false_true_c of_item_or_macro_false_true_d
everywhere (knot.ItemOrMacro false false) =
    from_parts (knot.ItemOrMacro false false) of_item_or_macro_false_false_a of_item_or_macro_false_false_b
    of_item_or_macro_false_false_c of_item_or_macro_false_false_d
everywhere knot.UseTree = from_every knot.UseTree of_use_tree
everywhere knot.Meta = from_every knot.Meta of_meta
everywhere knot.CfgPredicate = from_every knot.CfgPredicate of_cfg_predicate
everywhere knot.TokenTree = from_every knot.TokenTree of_token_tree

-- end

if_so : (a b : Bool) → not a || b ≡ true → a ≡ true → b ≡ true
if_so true b h e = h
if_so false b h e = absurd cc

moved_of : {p q : Stand} → Stirs p q false → length q.rest < length p.rest
moved_of (stirred l) = l
moved_of (stayed e h) = absurd cc

-- what a recursive rule does of the tokens
pub rule_moves : {n : ℕ} (c : Rule) {v : Outcome} (p q : Parser) → Obeys n c v (state p) (state q) →
    takes_before c (next (state p)) ≡ true → (state q).left < (state p).left
unfolding state
rule_moves {n = n} c {v = v} p q d h =
    let k = next (state p) in
    let s = left_so (not (takes_before c k) || stays_of 1 c k no_outcome) _ (everywhere c k (next_token p)) in
    moved_of (rules_stir 1 n c (stand (state p)) (stand (state q)) v no_outcome d.run
    (if_so (takes_before c k) (stays_of 1 c k no_outcome) s h))

pub rule_rests : {n : ℕ} (c : Rule) {v : Outcome} (p q : Parser) → Obeys n c v (state p) (state q) →
    rests_before c (next (state p)) ≡ true → (state q).rest ≡ (state p).rest
unfolding state
rule_rests {n = n} c {v = v} p q d h =
    let k = next (state p) in
    let s = right_so (not (takes_before c k) || stays_of 1 c k no_outcome)
    (not (rests_before c k) || rests_of 1 c k (rests_with c)) (everywhere c k (next_token p)) in
    (rules_rest 1 n c (stand (state p)) (stand (state q)) v (rests_with c) (record { none = rest_at_end p }) d.run
    (if_so (rests_before c k) (rests_of 1 c k (rests_with c)) s h)).rest
