-- What the checker is told of patterns.
use Rattle.std.specs.Prelude.{ℕ, true, false, List, [], ◌∷◌, ◌++◌}
use Rattle.rap_base.specs.TokenKind.{IDENT, COMMA, DOT, BANG, L_PAREN, R_PAREN, L_BRACK, R_BRACK, L_CURLY, L_ANGLE, AMP, AT, MINUS, PIPE, UNDERSCORE, INT_NUMBER, FLOAT_NUMBER, CONST_KW, MUT_KW, REF_KW}
use Rattle.rap_grammar_scripts.specs.Script.{Outcome, something}
use Rattle.rap_grammar_scripts.specs.declared.rule.Rule.{Rule}
use Rattle.rap_grammar_scripts.specs.declared.rule.Rule.TheVariants as knot
use Rattle.rap_grammar_table.proofs.Entry.{Entry, text, read_text, of_names, touching, colons}
use Rattle.rap_grammar_table.proofs.Evaluate.{behind}
use Rattle.rap_grammar_table.proofs.SharedHints.{global_heads}
use Rattle.rap_grammar_table.proofs.Walk.{outcome_guesses}
use Rattle.rap_grammar_table.specs.Category.{Pattern, RestPattern}
use Rattle.rap_grammar_table.specs.SharedRows.{literals, path_names}
use Rattle.rap_grammar_table.specs.Known.{Place}
use Rattle.rap_grammar_table.specs.Notation.{rows_of, of_kinds}
use Rattle.rap_grammar_table.specs.PatternRows.{type_colon, global_colon, pattern_ends, pattern_follows, single_follows, single_rows, named_rest_rows, or_rows, param_names, param_pattern_rows}
use Rattle.rap_grammar_table.specs.TypeRows.{expr_path_rows}
use Rattle.rap_grammar_table.specs.Rows.{rows}

-- what a pattern begins with
abbrev pub name_nexts : List (List Place)
name_nexts = (of_kinds (AT ∷ L_PAREN ∷ L_CURLY ∷ BANG ∷ PIPE ∷ pattern_ends) ∷ []) ∷ type_colon ∷ global_colon ∷ []

abbrev pub single_heads : List (List Place)
single_heads =
    (of_kinds (REF_KW ∷ MUT_KW ∷ UNDERSCORE ∷ AMP ∷ L_PAREN ∷ L_BRACK ∷ L_ANGLE ∷ CONST_KW ∷ literals) ∷ [])
    ∷ (of_kinds (MINUS ∷ []) ∷ of_kinds (INT_NUMBER ∷ FLOAT_NUMBER ∷ []) ∷ [])
    ∷ (global_heads ++
    behind (of_names path_names) (name_nexts ++ colons ((of_kinds (L_ANGLE ∷ path_names) ∷ []) ∷ [])))

abbrev pub pattern_read_by : Rule → List Outcome
pattern_read_by knot.Pattern = something ∷ []
pattern_read_by knot.ArmPattern = something ∷ []
pattern_read_by r = []

abbrev pub path_entry : Entry
path_entry =
    text expr_path_rows
    ((of_kinds (L_ANGLE ∷ []) ∷ [])
    ∷ (global_heads ++
    behind (of_names path_names) (name_nexts ++ colons ((of_kinds (L_ANGLE ∷ path_names) ∷ []) ∷ []))))
    ((of_kinds (L_PAREN ∷ L_CURLY ∷ BANG ∷ PIPE ∷ pattern_ends) ∷ []) ∷ type_colon ∷ global_colon ∷ [])

abbrev pub single_read_by : Rule → List Outcome
single_read_by knot.PatternSingle = something ∷ []
single_read_by r = []

abbrev pub either_read_by : Rule → List Outcome
either_read_by knot.Pattern = something ∷ []
either_read_by knot.PatternSingle = something ∷ []
either_read_by r = []

abbrev pub rest_entry : Entry
rest_entry =
    read_text either_read_by (rows RestPattern)
    ((touching DOT ∷ of_kinds (DOT ∷ []) ∷ of_kinds (COMMA ∷ R_PAREN ∷ R_BRACK ∷ []) ∷ [])
    ∷ [])
    ((of_kinds (COMMA ∷ R_PAREN ∷ R_BRACK ∷ []) ∷ []) ∷ [])

abbrev pub plain_read_by : Rule → List Outcome
plain_read_by knot.Pattern = something ∷ []
plain_read_by r = []

abbrev pub named_rest_entry : Entry
named_rest_entry =
    read_text plain_read_by named_rest_rows
    ((of_kinds (REF_KW ∷ MUT_KW ∷ []) ∷ []) ∷ (of_names (IDENT ∷ []) ∷ of_kinds (AT ∷ []) ∷ []) ∷ [])
    ((of_kinds (COMMA ∷ R_BRACK ∷ []) ∷ []) ∷ [])

abbrev pub single_entry : Entry
single_entry =
    read_text single_read_by single_rows single_heads single_follows

abbrev pub pattern_entry : Entry
pattern_entry =
    record {
      rows = rows_of or_rows;
      firsts = (of_kinds (PIPE ∷ []) ∷ []) ∷ single_heads;
      follows = pattern_follows;
      is_node = true;
      unbraced = false;
      by_rows = true;
      ends = outcome_guesses;
      read_by = pattern_read_by;
    }

-- what the pattern of a parameter begins with behind a `&`, but for a name and `mut`
abbrev behind_ref : List ℕ
behind_ref = REF_KW ∷ UNDERSCORE ∷ L_PAREN ∷ L_BRACK ∷ AMP ∷ []

abbrev pub param_pattern_entry : Entry
param_pattern_entry =
    read_text either_read_by
    param_pattern_rows
    ((of_kinds (REF_KW ∷ UNDERSCORE ∷ L_PAREN ∷ L_BRACK ∷ []) ∷ [])
    ∷ (of_kinds (MUT_KW ∷ []) ∷ of_kinds (IDENT ∷ []) ∷ [])
    ∷ (of_kinds (AMP ∷ []) ∷ of_kinds (param_names ++ behind_ref) ∷ [])
    ∷ (of_kinds (AMP ∷ []) ∷ of_kinds (MUT_KW ∷ []) ∷ of_kinds (MUT_KW ∷ (param_names ++ behind_ref)) ∷ [])
    ∷ behind (of_names param_names)
    ((of_kinds (AT ∷ L_PAREN ∷ L_CURLY ∷ []) ∷ []) ∷ type_colon ∷ global_colon ∷ colons ((of_kinds (L_ANGLE ∷ path_names) ∷ []) ∷ [])))
    (type_colon ∷ global_colon ∷ [])
