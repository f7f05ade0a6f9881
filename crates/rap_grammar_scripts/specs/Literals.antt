-- Literals.
-- In the Rust crate: `grammar/expressions/atom.rs`.
use Rattle.rap_base.specs.NodeKind.{LITERAL}
use Rattle.rap_grammar_scripts.specs.First.{is_literal_first}
use Rattle.rap_grammar_scripts.specs.Script.{Script, any, start, finish}
use Rattle.rap_grammar_scripts.specs.Words.{done, ◌▸◌, only_if, next_so}
use Rattle.rap_grammar_scripts.specs.declared.rule.Rule.{Rule}

unfoldable pub literal : Script Rule
literal = only_if (next_so is_literal_first) (start ▸ any ▸ finish LITERAL ▸ done)
