-- A path as a type.
-- In the Rust crate: `grammar/types.rs`.
use Rattle.rap_base.specs.NodeKind.{PATH_TYPE}
use Rattle.rap_grammar_scripts.specs.Paths.{type_path}
use Rattle.rap_grammar_scripts.specs.Script.{Script, start, finish}
use Rattle.rap_grammar_scripts.specs.Words.{done, ◌▸◌, call}
use Rattle.rap_grammar_scripts.specs.declared.rule.Rule.{Rule}

unfoldable pub path_type : Script Rule
path_type = start ▸ call type_path ▸ finish PATH_TYPE ▸ done
