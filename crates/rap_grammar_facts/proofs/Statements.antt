-- What is computed of the scripts of Statements: the open nodes are as before, and a token is taken.
-- Written by crates/rap_grammar_facts/facts from the scripts: an edit here is lost.
use Rattle.std.proofs.Common.{◌≡◌, Bool, true, false, refl}
use Rattle.rap_grammar_scripts.specs.Effects.{level}
use Rattle.rap_grammar_scripts.specs.declared.arguments.Semicolon.{Semicolon}
use Rattle.rap_grammar_scripts.specs.declared.arguments.Semicolon.TheVariants as semicolon
use Rattle.rap_grammar_facts.proofs.Alone.{kept}
use Rattle.rap_grammar_scripts.proofs.Scripts.{scripts}
use Rattle.rap_grammar_scripts.specs.Statements as script

pub level_expr_semicolon : (a : Semicolon) (b : Bool) → level (script.expr_semicolon a b) ≡ true
unfolding scripts
level_expr_semicolon semicolon.Required true = refl
level_expr_semicolon semicolon.Required false = refl
level_expr_semicolon semicolon.Optional true = refl
level_expr_semicolon semicolon.Optional false = refl
level_expr_semicolon semicolon.Forbidden true = refl
level_expr_semicolon semicolon.Forbidden false = refl

pub level_expr_stmt_end : (a : Semicolon) (b : Bool) → level (script.expr_stmt_end a b) ≡ true
unfolding scripts
level_expr_stmt_end semicolon.Required true = refl
level_expr_stmt_end semicolon.Required false = refl
level_expr_stmt_end semicolon.Optional true = refl
level_expr_stmt_end semicolon.Optional false = refl
level_expr_stmt_end semicolon.Forbidden true = refl
level_expr_stmt_end semicolon.Forbidden false = refl

-- all of them
pub ruleset facts = (kept, level_expr_semicolon, level_expr_stmt_end)
