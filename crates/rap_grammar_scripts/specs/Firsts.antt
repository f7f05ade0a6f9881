-- Before which kinds of tokens a recursive rule takes a token, and before which none.
use Rattle.std.specs.Prelude.{ℕ, Bool, true, false, ◌&&◌, ◌||◌, ◌==◌, not, List, [], ◌∷◌}
use Rattle.rap_base.specs.TokenKind.{EOF, R_CURLY, L_CURLY, STAR, IDENT, SELF_KW, SUPER_KW, CRATE_KW, COLON}
use Rattle.rap_grammar_scripts.specs.First.{one_of, is_generic_arg_first, is_cfg_predicate_first}
use Rattle.rap_grammar_scripts.specs.Moves.{stays_of, rests_of, no_outcome, is_nothing}
use Rattle.rap_grammar_scripts.specs.Recovery.{stops_expr, stops_type, stops_pattern, stops_arm}
use Rattle.rap_grammar_scripts.specs.Script.{Outcome}
use Rattle.rap_grammar_scripts.specs.declared.rule.Rule.{Rule}
use Rattle.rap_grammar_scripts.specs.declared.rule.Rule.TheVariants as knot

-- the tokens before which a list of items ends
abbrev pub stops_items : Bool → ℕ → Bool
stops_items stop_on_r_curly k = (k == EOF) || (stop_on_r_curly && (k == R_CURLY))

abbrev pub takes_before : Rule → ℕ → Bool
-- takes_before: written by crates/rap_grammar_scripts/rules up to "end"
takes_before (knot.ExprBp r bp) k = not (stops_expr k)
takes_before (knot.TypeWithBoundsCond allow_bounds) k = not (stops_type k)
takes_before knot.PathTypeBounds k = not (stops_type k)
takes_before knot.GenericArg k = is_generic_arg_first k
takes_before knot.GenericParamList k = true
takes_before knot.BoundsWithoutColon k = false
takes_before knot.WhereClause k = true
takes_before knot.Pattern k = not (stops_pattern k)
takes_before knot.PatternSingle k = not (stops_pattern k)
takes_before knot.ArmPattern k = not (stops_arm k)
takes_before (knot.Stmt semicolon) k = not (k == EOF)
takes_before knot.IfExpr k = true
takes_before (knot.ItemOrMacro stop_on_r_curly is_in_extern) k = not (stops_items stop_on_r_curly k)
takes_before knot.UseTree k = one_of (STAR ∷ L_CURLY ∷ IDENT ∷ SELF_KW ∷ SUPER_KW ∷ CRATE_KW ∷ COLON ∷ []) k
takes_before knot.Meta k = false
takes_before knot.CfgPredicate k = is_cfg_predicate_first k
takes_before knot.TokenTree k = true

-- end

-- before which it takes none
abbrev pub rests_before : Rule → ℕ → Bool
-- rests_before: written by crates/rap_grammar_scripts/rules up to "end"
rests_before (knot.ExprBp r bp) k = stops_expr k
rests_before (knot.TypeWithBoundsCond allow_bounds) k = stops_type k
rests_before knot.PathTypeBounds k = stops_type k
rests_before knot.GenericArg k = false
rests_before knot.GenericParamList k = false
rests_before knot.BoundsWithoutColon k = false
rests_before knot.WhereClause k = false
rests_before knot.Pattern k = stops_pattern k
rests_before knot.PatternSingle k = stops_pattern k
rests_before knot.ArmPattern k = stops_arm k
rests_before (knot.Stmt semicolon) k = false
rests_before knot.IfExpr k = false
rests_before (knot.ItemOrMacro stop_on_r_curly is_in_extern) k = false
rests_before knot.UseTree k = false
rests_before knot.Meta k = false
rests_before knot.CfgPredicate k = false
rests_before knot.TokenTree k = false

-- end

-- the outcome then: no expression
abbrev pub rests_with : Rule → Outcome → Bool
rests_with (knot.ExprBp r bp) v = is_nothing v
rests_with c v = true

-- its script does so
abbrev pub as_said : Rule → ℕ → Bool
as_said c k =
    (not (takes_before c k) || stays_of 1 c k no_outcome) && (not (rests_before c k) || rests_of 1 c k (rests_with c))
