-- What the checker wants to know of a grammar.
use Rattle.std.specs.Prelude.{Bool, List}
use Rattle.rap_grammar_scripts.specs.Script.{Outcome}
use Rattle.rap_grammar_scripts.specs.declared.rule.Rule.{Rule}
use Rattle.rap_grammar_table.specs.Category.{Category}
use Rattle.rap_grammar_table.specs.Known.{Place}
use Rattle.rap_grammar_table.specs.Table.{Grammar}

-- The rows of each category; what its tokens begin with; what may follow it; whether its tree is always one node, and
-- whether its last token is never a `}`; whether a script that no rule names may read it by its rows, and the outcomes
-- with which such a script does, to be tried in turn; and those with which a rule reads it, none where it does not.
pub record Table : Type 0 where
  pub rows : Grammar
  pub firsts : Category → List (List Place)
  pub follows : Category → List (List Place)
  pub is_node : Category → Bool
  pub unbraced : Category → Bool
  pub by_rows : Category → Bool
  pub ends : Category → List (List Outcome)
  pub reads : Rule → Category → List Outcome
