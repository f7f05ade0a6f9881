-- What an entry reads: a file, the statements of a macro.
-- In the Rust crate: `grammar.rs` and `grammar/expressions.rs`.
use Rattle.std.specs.Prelude.{false, Bool}
use Rattle.rap_base.specs.TokenKind.{SHEBANG, FRONTMATTER, EOF}
use Rattle.rap_grammar_scripts.specs.Modules.{mod_contents}
use Rattle.rap_grammar_scripts.specs.Script.{Script, give, test, again, loop}
use Rattle.rap_grammar_scripts.specs.Words.{eat, ◌▸◌, done, recur, is_at}
use Rattle.rap_grammar_scripts.specs.declared.arguments.Semicolon.TheVariants as semicolon
use Rattle.rap_grammar_scripts.specs.declared.rule.Rule.{Rule}
use Rattle.rap_grammar_scripts.specs.declared.rule.Rule.TheVariants as knot

-- what a file holds, after its shebang and its frontmatter
unfoldable pub source_file : Script Rule
source_file = eat SHEBANG ▸ eat FRONTMATTER ▸ mod_contents false

abbrev pub macro_turn : Bool → Bool → Script Rule
macro_turn a b = test (is_at EOF) done (recur (knot.Stmt semicolon.Optional) ▸ give (again a b))

-- the statements that a macro expands to
unfoldable pub macro_stmts : Script Rule
macro_stmts = loop macro_turn false false
