-- What is computed of the scripts of Blocks: the open nodes are as before, and a token is taken.
-- Written by crates/rap_grammar_facts/facts from the scripts: an edit here is lost.
use Rattle.std.proofs.Common.{◌≡◌, ◌<◌, ℕ, true, List, refl}
use Rattle.rap_events.specs.State.{state}
use Rattle.rap_events.specs.declared.parser.Parser.{Parser}
use Rattle.rap_grammar_scripts.specs.Effects.{level}
use Rattle.rap_grammar_scripts.specs.Exec.{Does}
use Rattle.rap_grammar_scripts.specs.Script.{Outcome, nothing, something, block, again}
use Rattle.rap_grammar_scripts.specs.declared.arguments.Semicolon.{Semicolon}
use Rattle.rap_grammar_scripts.specs.declared.arguments.Semicolon.TheVariants as semicolon
use Rattle.rap_grammar_frame.proofs.Done.{moved}
use Rattle.rap_grammar_facts.proofs.Alone.{kept}
use Rattle.rap_grammar_scripts.proofs.Scripts.{scripts}
use Rattle.rap_grammar_scripts.specs.Blocks as script

pub level_statements : level script.statements ≡ true
unfolding scripts
level_statements = refl

pub level_expr_block_contents : level script.expr_block_contents ≡ true
unfolding scripts
level_expr_block_contents = refl

pub level_stmt_list : level script.stmt_list ≡ true
unfolding scripts
level_stmt_list = refl

pub moved_stmt_list : {n : ℕ} {v : Outcome} → (p q : Parser) →
    Does n script.stmt_list v (state p) (state q) →
    (state q).left < (state p).left
unfolding scripts
moved_stmt_list p q d = moved p q d refl

pub level_block_expr : level script.block_expr ≡ true
unfolding scripts
level_block_expr = refl

pub level_error_block : (a : List ℕ) → level (script.error_block a) ≡ true
unfolding scripts
level_error_block a = refl

pub moved_error_block : {n : ℕ} {v : Outcome} (a : List ℕ) → (p q : Parser) →
    Does n (script.error_block a) v (state p) (state q) →
    (state q).left < (state p).left
unfolding scripts
moved_error_block a p q d = moved p q d refl

pub level_let_type : level script.let_type ≡ true
unfolding scripts
level_let_type = refl

pub level_let_value : level script.let_value ≡ true
unfolding scripts
level_let_value = refl

pub level_value_before_else : (a : Outcome) → level (script.value_before_else a) ≡ true
unfolding scripts
level_value_before_else nothing = refl
level_value_before_else something = refl
level_value_before_else block = refl
level_value_before_else (again x y) = refl

pub level_else_block : level script.else_block ≡ true
unfolding scripts
level_else_block = refl

pub moved_else_block : {n : ℕ} {v : Outcome} → (p q : Parser) →
    Does n script.else_block v (state p) (state q) →
    (state q).left < (state p).left
unfolding scripts
moved_else_block p q d = moved p q d refl

pub level_let_else : (a : Outcome) → level (script.let_else a) ≡ true
unfolding scripts
level_let_else nothing = refl
level_let_else something = refl
level_let_else block = refl
level_let_else (again x y) = refl

pub level_let_end : (a : Semicolon) → level (script.let_end a) ≡ true
unfolding scripts
level_let_end semicolon.Required = refl
level_let_end semicolon.Optional = refl
level_let_end semicolon.Forbidden = refl

pub level_let_stmt : (a : Semicolon) → level (script.let_stmt a) ≡ true
unfolding scripts
level_let_stmt semicolon.Required = refl
level_let_stmt semicolon.Optional = refl
level_let_stmt semicolon.Forbidden = refl

pub level_error_let_stmt : (a : List ℕ) → level (script.error_let_stmt a) ≡ true
unfolding scripts
level_error_let_stmt a = refl

-- all of them
pub ruleset facts = (
  kept,
  level_statements,
  level_expr_block_contents,
  level_stmt_list,
  moved_stmt_list,
  level_block_expr,
  level_error_block,
  moved_error_block,
  level_let_type,
  level_let_value,
  level_value_before_else,
  level_else_block,
  moved_else_block,
  level_let_else,
  level_let_end,
  level_let_stmt,
  level_error_let_stmt,
)
