-- Calls that do what a script does with no `Grammar`.
use Rattle.std.specs.Prelude.{ℕ, ◌≤◌}
use Rattle.rap_events.specs.State.{State, state}
use Rattle.rap_events.specs.declared.parser.Parser.{Parser}
use Rattle.rap_grammar_scripts.specs.Exec.{Does}
use Rattle.rap_grammar_scripts.specs.Script.{Script, Outcome, something}
use Rattle.rap_grammar_scripts.specs.declared.rule.Rule.{Rule}

-- with no recursive rule, whatever the depth
pub record DoesAlone (s : Script Rule) (v : Outcome) (old new : State) : Type 0 where
  pub at : (depth : ℕ) → Does depth s v old new

-- with no more of them inside one another than tokens are left
pub record DoesDeep (s : Script Rule) (v : Outcome) (old new : State) : Type 0 where
  pub at : (depth : ℕ) → old.left ≤ depth → Does depth s v old new

-- the same between two parsers, where the script ends by `something`
abbrev pub ExecutesAlone : Script Rule → Parser → Parser → Type 0
ExecutesAlone s p q = DoesAlone s something (state p) (state q)

abbrev pub ExecutesDeep : Script Rule → Parser → Parser → Type 0
ExecutesDeep s p q = DoesDeep s something (state p) (state q)
