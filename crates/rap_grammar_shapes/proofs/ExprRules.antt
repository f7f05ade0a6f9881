-- Expressions keep to what they bring, under all restrictions and at any power.
use Rattle.std.proofs.Common.{ℕ, true, false, refl}
use Rattle.rap_grammar_scripts.specs.declared.rule.Rule.TheVariants as knot
use Rattle.rap_grammar_scripts.proofs.Scripts.{scripts}
use Rattle.rap_grammar_table.proofs.Tests.{tests}
use Rattle.rap_grammar_shapes.proofs.Small.{Keeps}

pub expr_keeps_no_structs_first : (bp : ℕ) → Keeps (knot.ExprBp (record { forbid_structs = true; prefer_stmt = true }) bp)
unfolding scripts tests
expr_keeps_no_structs_first bp = refl

pub expr_keeps_no_structs : (bp : ℕ) → Keeps (knot.ExprBp (record { forbid_structs = true; prefer_stmt = false }) bp)
unfolding scripts tests
expr_keeps_no_structs bp = refl

pub expr_keeps_structs_first : (bp : ℕ) → Keeps (knot.ExprBp (record { forbid_structs = false; prefer_stmt = true }) bp)
unfolding scripts tests
expr_keeps_structs_first bp = refl

pub expr_keeps_structs : (bp : ℕ) → Keeps (knot.ExprBp (record { forbid_structs = false; prefer_stmt = false }) bp)
unfolding scripts tests
expr_keeps_structs bp = refl
