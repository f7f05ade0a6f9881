-- All rules of the knot end as their table says: computed from their scripts.
use Rattle.std.proofs.Common.{Bool, true, false, refl}
use Rattle.rap_grammar_scripts.specs.declared.rule.Rule.{Rule}
use Rattle.rap_grammar_scripts.specs.declared.rule.Rule.TheVariants as knot
use Rattle.rap_grammar_scripts.specs.declared.arguments.Semicolon.TheVariants as kind
use Rattle.rap_grammar_ends.proofs.Keeps.{EndsAsSaid, Sound}
use Rattle.rap_grammar_scripts.proofs.Scripts.{scripts}

-- an expression under these restrictions
abbrev restricted : Bool → Bool → Rule → Rule
restricted a b (knot.ExprBp r bp) = knot.ExprBp (record { forbid_structs = a; prefer_stmt = b }) bp
restricted a b c = c

computed : (a b : Bool) (c : Rule) → EndsAsSaid (restricted a b c)
unfolding scripts
computed true true (knot.ExprBp r bp) = refl
computed true false (knot.ExprBp r bp) = refl
computed false true (knot.ExprBp r bp) = refl
computed false false (knot.ExprBp r bp) = refl
-- computed: written by crates/rap_grammar_scripts/rules up to "end"
computed a b (knot.TypeWithBoundsCond true) = refl
computed a b (knot.TypeWithBoundsCond false) = refl
computed a b knot.PathTypeBounds = refl
computed a b knot.GenericArg = refl
computed a b knot.GenericParamList = refl
computed a b knot.BoundsWithoutColon = refl
computed a b knot.WhereClause = refl
computed a b knot.Pattern = refl
computed a b knot.PatternSingle = refl
computed a b knot.ArmPattern = refl
computed a b (knot.Stmt kind.Required) = refl
computed a b (knot.Stmt kind.Optional) = refl
computed a b (knot.Stmt kind.Forbidden) = refl
computed a b knot.IfExpr = refl
computed a b (knot.ItemOrMacro true true) = refl
computed a b (knot.ItemOrMacro true false) = refl
computed a b (knot.ItemOrMacro false true) = refl
computed a b (knot.ItemOrMacro false false) = refl
computed a b knot.UseTree = refl
computed a b knot.Meta = refl
computed a b knot.CfgPredicate = refl
computed a b knot.TokenTree = refl

-- end

pub sound : Sound
sound (knot.ExprBp r bp) = computed r.forbid_structs r.prefer_stmt (knot.ExprBp r bp)
sound c = computed true true c
