-- What the checker is told of a category.
use Rattle.std.specs.Prelude.{ℕ, zero, suc, Bool, true, false, List, [], ◌∷◌, Some, None}
use Rattle.rap_base.specs.TokenKind.{COLON}
use Rattle.rap_grammar_scripts.specs.Script.{Outcome}
use Rattle.rap_grammar_scripts.specs.declared.rule.Rule.{Rule}
use Rattle.rap_grammar_table.proofs.Evaluate.{behind}
use Rattle.rap_grammar_table.proofs.Hints.{Table}
use Rattle.rap_grammar_table.proofs.Walk.{outcome_guesses}
use Rattle.rap_grammar_table.specs.Category.{Category}
use Rattle.rap_grammar_table.specs.Known.{Place, unclear, sure}
use Rattle.rap_grammar_table.specs.Notation.{Part, name_words, c, rows_of, of_kinds}
use Rattle.rap_grammar_table.specs.Table.{Grammar, Items}

abbrev pub of_names : List ℕ → Place
of_names kinds = record { kinds = Some kinds; words = name_words; joint = unclear }

-- one that touches the next token
abbrev pub touching : ℕ → Place
touching kind = record { kinds = Some (kind ∷ []); words = None; joint = sure }

-- What a table says of a category: its rows, what its tokens begin with, what may follow it, whether its tree is one
-- node, whether its last token is never a `}`, whether it has its rows alone, the outcomes of a script that reads it then, and those with which a rule reads it.
pub record Entry : Type 0 where
  pub rows : List Items
  pub firsts : List (List Place)
  pub follows : List (List Place)
  pub is_node : Bool
  pub unbraced : Bool
  pub by_rows : Bool
  pub ends : List (List Outcome)
  pub read_by : Rule → List Outcome

-- these rows, and what is told of them
abbrev pub table_of : Grammar → (Category → Entry) → Table
table_of g e =
    record {
      rows = g;
      firsts = λ c. (e c).firsts;
      follows = λ c. (e c).follows;
      is_node = λ c. (e c).is_node;
      unbraced = λ c. (e c).unbraced;
      by_rows = λ c. (e c).by_rows;
      ends = λ c. (e c).ends;
      reads = λ r c. (e c).read_by r;
    }

-- A category whose trees are nodes, which has its rows alone: one that no rule reads, and one that a rule reads.
abbrev pub text : List Part → List (List Place) → List (List Place) → Entry
text rows firsts follows =
    record {
      rows = rows_of rows;
      firsts = firsts;
      follows = follows;
      is_node = true;
      unbraced = false;
      by_rows = true;
      ends = outcome_guesses;
      read_by = λ r. [];
    }

abbrev pub read_text : (Rule → List Outcome) → List Part → List (List Place) → List (List Place) → Entry
read_text read_by rows firsts follows =
    record {
      rows = rows_of rows;
      firsts = firsts;
      follows = follows;
      is_node = true;
      unbraced = false;
      by_rows = true;
      ends = outcome_guesses;
      read_by = read_by;
    }

-- the tokens of `::`, and then such a token
abbrev pub colons : List (List Place) → List (List Place)
colons g = behind (touching COLON) (behind (of_kinds (COLON ∷ [])) g)
