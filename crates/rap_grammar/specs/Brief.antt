-- Rules in parts.
-- (What calls promise one another; no promise of the library rests on it.)
use Rattle.std.specs.Prelude.{ℕ, true, false}
use Rattle.rap_grammar.specs.declared.knot.Brief.{Brief}
use Rattle.rap_grammar.specs.declared.knot.Brief.TheVariants as brief
use Rattle.rap_grammar_scripts.specs.declared.arguments.Restrictions.{Restrictions}
use Rattle.rap_grammar_scripts.specs.declared.rule.Rule.{Rule}
use Rattle.rap_grammar_scripts.specs.declared.rule.Rule.TheVariants as knot

-- a rule by its parts: the restrictions and the power are those of an expression
abbrev pub rule_of : Brief → Restrictions → ℕ → Rule
-- rule_of: written by crates/rap_grammar_scripts/rules up to "end"
rule_of brief.Expr r bp = knot.ExprBp r bp
rule_of (brief.Type allow_bounds) r bp = knot.TypeWithBoundsCond allow_bounds
rule_of brief.PathTypeBounds r bp = knot.PathTypeBounds
rule_of brief.GenericArg r bp = knot.GenericArg
rule_of brief.GenericParamList r bp = knot.GenericParamList
rule_of brief.BoundsWithoutColon r bp = knot.BoundsWithoutColon
rule_of brief.WhereClause r bp = knot.WhereClause
rule_of brief.Pattern r bp = knot.Pattern
rule_of brief.PatternSingle r bp = knot.PatternSingle
rule_of brief.ArmPattern r bp = knot.ArmPattern
rule_of (brief.Stmt semicolon) r bp = knot.Stmt semicolon
rule_of brief.IfExpr r bp = knot.IfExpr
rule_of (brief.Item stop_on_r_curly) r bp = knot.ItemOrMacro stop_on_r_curly false
rule_of (brief.ExternItem stop_on_r_curly) r bp = knot.ItemOrMacro stop_on_r_curly true
rule_of brief.UseTree r bp = knot.UseTree
rule_of brief.Meta r bp = knot.Meta
rule_of brief.CfgPredicate r bp = knot.CfgPredicate
rule_of brief.TokenTree r bp = knot.TokenTree

-- end
