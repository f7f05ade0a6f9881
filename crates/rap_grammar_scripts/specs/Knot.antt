-- The script of each recursive rule.
use Rattle.rap_events.specs.State.{State}
use Rattle.rap_grammar_scripts.specs.declared.rule.Rule.{Rule}
use Rattle.rap_grammar_scripts.specs.declared.rule.Rule.TheVariants as knot
use Rattle.rap_grammar_scripts.specs.Script.{Script, Outcome, Runs, spot}
use Rattle.std.specs.Prelude.{true, false}
-- modules: written by crates/rap_grammar_scripts/rules up to "end"
use Rattle.rap_grammar_scripts.specs.Attributes.{meta, cfg_predicate}
use Rattle.rap_grammar_scripts.specs.Control.{if_expr}
use Rattle.rap_grammar_scripts.specs.Expressions.{expr_bp}
use Rattle.rap_grammar_scripts.specs.GenericArgs.{generic_arg}
use Rattle.rap_grammar_scripts.specs.GenericParams.{generic_param_list, bounds_without_colon, where_clause}
use Rattle.rap_grammar_scripts.specs.Items.{item_or_macro}
use Rattle.rap_grammar_scripts.specs.Patterns.{pattern_r, pattern_single_r}
use Rattle.rap_grammar_scripts.specs.Statements.{stmt}
use Rattle.rap_grammar_scripts.specs.TokenTree.{token_tree}
use Rattle.rap_grammar_scripts.specs.Types.{type_with_bounds_cond, path_type_bounds}
use Rattle.rap_grammar_scripts.specs.UseItem.{use_tree}

-- end

unfoldable pub script_of : Rule → Script Rule
-- script_of: written by crates/rap_grammar_scripts/rules up to "end"
script_of (knot.ExprBp r bp) = expr_bp r bp
script_of (knot.TypeWithBoundsCond allow_bounds) = type_with_bounds_cond allow_bounds
script_of knot.PathTypeBounds = path_type_bounds true
script_of knot.GenericArg = generic_arg
script_of knot.GenericParamList = generic_param_list
script_of knot.BoundsWithoutColon = bounds_without_colon
script_of knot.WhereClause = where_clause
script_of knot.Pattern = pattern_r false
script_of knot.PatternSingle = pattern_single_r false
script_of knot.ArmPattern = pattern_r true
script_of (knot.Stmt semicolon) = stmt semicolon
script_of knot.IfExpr = if_expr
script_of (knot.ItemOrMacro stop_on_r_curly is_in_extern) = item_or_macro stop_on_r_curly is_in_extern
script_of knot.UseTree = use_tree
script_of knot.Meta = meta
script_of knot.CfgPredicate = cfg_predicate
script_of knot.TokenTree = token_tree

-- end

-- the parser's calls between two states are those of the script, with this outcome
pub record Follows (s : Script Rule) (v : Outcome) (old new : State) : Type 0 where
  pub run : Runs script_of s (spot old) (spot new) v
