-- What is computed of the scripts of ThroughKnot: the open nodes are as before, and a token is taken.
-- Written by crates/rap_grammar_facts/facts from the scripts: an edit here is lost.
use Rattle.std.proofs.Common.{◌≡◌, ◌<◌, ℕ, Bool, true, false, refl}
use Rattle.rap_events.specs.State.{state}
use Rattle.rap_events.specs.declared.parser.Parser.{Parser}
use Rattle.rap_grammar_scripts.specs.Effects.{level}
use Rattle.rap_grammar_scripts.specs.Exec.{Does}
use Rattle.rap_grammar_scripts.specs.Script.{Outcome}
use Rattle.rap_grammar_frame.proofs.Done.{moved}
use Rattle.rap_grammar_facts.proofs.Alone.{kept}
use Rattle.rap_grammar_scripts.proofs.Scripts.{scripts}
use Rattle.rap_grammar_scripts.specs.ThroughKnot as script

pub level_expr : level script.expr ≡ true
unfolding scripts
level_expr = refl

pub level_expr_no_struct : level script.expr_no_struct ≡ true
unfolding scripts
level_expr_no_struct = refl

pub level_expr_stmt : level script.expr_stmt ≡ true
unfolding scripts
level_expr_stmt = refl

pub level_type_ : level script.type_ ≡ true
unfolding scripts
level_type_ = refl

pub level_type_no_bounds : level script.type_no_bounds ≡ true
unfolding scripts
level_type_no_bounds = refl

pub level_path_type_bounds : level script.path_type_bounds ≡ true
unfolding scripts
level_path_type_bounds = refl

pub level_generic_arg_element : level script.generic_arg_element ≡ true
unfolding scripts
level_generic_arg_element = refl

pub level_generic_param_list : level script.generic_param_list ≡ true
unfolding scripts
level_generic_param_list = refl

pub level_pattern : level script.pattern ≡ true
unfolding scripts
level_pattern = refl

pub level_pattern_single : level script.pattern_single ≡ true
unfolding scripts
level_pattern_single = refl

pub level_meta : level script.meta ≡ true
unfolding scripts
level_meta = refl

pub level_cfg_predicate_element : level script.cfg_predicate_element ≡ true
unfolding scripts
level_cfg_predicate_element = refl

pub level_opt_generic_param_list : level script.opt_generic_param_list ≡ true
unfolding scripts
level_opt_generic_param_list = refl

pub level_bounds : level script.bounds ≡ true
unfolding scripts
level_bounds = refl

pub moved_bounds : {n : ℕ} {v : Outcome} → (p q : Parser) →
    Does n script.bounds v (state p) (state q) →
    (state q).left < (state p).left
unfolding scripts
moved_bounds p q d = moved p q d refl

pub level_bounds_without_colon : level script.bounds_without_colon ≡ true
unfolding scripts
level_bounds_without_colon = refl

pub level_opt_where_clause : level script.opt_where_clause ≡ true
unfolding scripts
level_opt_where_clause = refl

pub level_arm_pattern : level script.arm_pattern ≡ true
unfolding scripts
level_arm_pattern = refl

pub level_if_expr : level script.if_expr ≡ true
unfolding scripts
level_if_expr = refl

pub level_item_or_macro : (a : Bool) (b : Bool) → level (script.item_or_macro a b) ≡ true
unfolding scripts
level_item_or_macro true true = refl
level_item_or_macro true false = refl
level_item_or_macro false true = refl
level_item_or_macro false false = refl

pub level_use_tree : level script.use_tree ≡ true
unfolding scripts
level_use_tree = refl

pub level_opt_ret_type : level script.opt_ret_type ≡ true
unfolding scripts
level_opt_ret_type = refl

pub level_opt_no_arrow_ret_type : level script.opt_no_arrow_ret_type ≡ true
unfolding scripts
level_opt_no_arrow_ret_type = refl

pub level_ascription : level script.ascription ≡ true
unfolding scripts
level_ascription = refl

pub moved_ascription : {n : ℕ} {v : Outcome} → (p q : Parser) →
    Does n script.ascription v (state p) (state q) →
    (state q).left < (state p).left
unfolding scripts
moved_ascription p q d = moved p q d refl

pub level_for_binder : level script.for_binder ≡ true
unfolding scripts
level_for_binder = refl

pub moved_for_binder : {n : ℕ} {v : Outcome} → (p q : Parser) →
    Does n script.for_binder v (state p) (state q) →
    (state q).left < (state p).left
unfolding scripts
moved_for_binder p q d = moved p q d refl

-- all of them
pub ruleset facts = (
  kept,
  level_expr,
  level_expr_no_struct,
  level_expr_stmt,
  level_type_,
  level_type_no_bounds,
  level_path_type_bounds,
  level_generic_arg_element,
  level_generic_param_list,
  level_pattern,
  level_pattern_single,
  level_meta,
  level_cfg_predicate_element,
  level_opt_generic_param_list,
  level_bounds,
  moved_bounds,
  level_bounds_without_colon,
  level_opt_where_clause,
  level_arm_pattern,
  level_if_expr,
  level_item_or_macro,
  level_use_tree,
  level_opt_ret_type,
  level_opt_no_arrow_ret_type,
  level_ascription,
  moved_ascription,
  level_for_binder,
  moved_for_binder,
)
