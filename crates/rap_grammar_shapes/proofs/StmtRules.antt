-- Statements keep to what they bring, however they may end.
use Rattle.std.proofs.Common.{refl}
use Rattle.rap_grammar_scripts.specs.declared.rule.Rule.TheVariants as knot
use Rattle.rap_grammar_scripts.proofs.Scripts.{scripts}
use Rattle.rap_grammar_table.proofs.Tests.{tests}
use Rattle.rap_grammar_shapes.proofs.Small.{Keeps}
use Rattle.rap_grammar_scripts.specs.declared.arguments.Semicolon.TheVariants as semicolon

pub stmt_required_keeps : Keeps (knot.Stmt semicolon.Required)
unfolding scripts tests
stmt_required_keeps = refl

pub stmt_optional_keeps : Keeps (knot.Stmt semicolon.Optional)
unfolding scripts tests
stmt_optional_keeps = refl

pub stmt_forbidden_keeps : Keeps (knot.Stmt semicolon.Forbidden)
unfolding scripts tests
stmt_forbidden_keeps = refl
