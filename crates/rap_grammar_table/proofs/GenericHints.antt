-- What the checker is told of generic arguments, generic parameters and `where`.
use Rattle.std.specs.Prelude.{false, List, [], ◌∷◌}
use Rattle.rap_base.specs.TokenKind.{IDENT, SEMICOLON, COMMA, COLON, EQ, L_CURLY, L_ANGLE, R_ANGLE, MINUS, CONST_KW, FOR_KW, IMPL_KW, LIFETIME_IDENT, WHERE_KW}
use Rattle.rap_grammar_scripts.specs.Script.{Outcome, something}
use Rattle.rap_grammar_scripts.specs.Words.{next_is}
use Rattle.rap_grammar_scripts.specs.declared.rule.Rule.{Rule}
use Rattle.rap_grammar_scripts.specs.declared.rule.Rule.TheVariants as knot
use Rattle.rap_grammar_table.proofs.Entry.{Entry, text, read_text}
use Rattle.rap_grammar_table.proofs.Evaluate.{behind}
use Rattle.rap_grammar_table.proofs.Narrow.{each, narrowed}
use Rattle.rap_grammar_table.proofs.SharedHints.{attr_heads, type_firsts}
use Rattle.rap_grammar_table.specs.SharedRows.{literals}
use Rattle.rap_grammar_table.specs.GenericRows.{argument_rows, param_rows, generics_rows, predicate_rows, where_rows}
use Rattle.rap_grammar_table.specs.Known.{Place, anything}
use Rattle.rap_grammar_table.specs.Notation.{of_kinds}

abbrev pub argument_read_by : Rule → List Outcome
argument_read_by knot.GenericArg = something ∷ []
argument_read_by r = []

abbrev pub argument_entry : Entry
argument_entry =
    read_text argument_read_by
    argument_rows
    ((of_kinds (L_CURLY ∷ MINUS ∷ literals) ∷ [])
    ∷ (of_kinds (LIFETIME_IDENT ∷ []) ∷ of_kinds (COMMA ∷ R_ANGLE ∷ []) ∷ [])
    ∷ type_firsts)
    ((of_kinds (COMMA ∷ R_ANGLE ∷ []) ∷ []) ∷ [])

abbrev pub param_heads : List (List Place)
param_heads =
    (of_kinds (LIFETIME_IDENT ∷ IDENT ∷ []) ∷ of_kinds (COLON ∷ EQ ∷ COMMA ∷ R_ANGLE ∷ []) ∷ [])
    ∷ (of_kinds (CONST_KW ∷ []) ∷ []) ∷ attr_heads

abbrev pub param_entry : Entry
param_entry =
    text param_rows param_heads
    ((of_kinds (COMMA ∷ R_ANGLE ∷ []) ∷ []) ∷ [])

abbrev pub generics_read_by : Rule → List Outcome
generics_read_by knot.GenericParamList = something ∷ []
generics_read_by r = []

abbrev pub generics_entry : Entry
generics_entry =
    read_text generics_read_by generics_rows
    (behind (of_kinds (L_ANGLE ∷ [])) ((of_kinds (R_ANGLE ∷ []) ∷ []) ∷ param_heads)) anything

abbrev pub predicate_entry : Entry
predicate_entry =
    text predicate_rows ((of_kinds (LIFETIME_IDENT ∷ FOR_KW ∷ []) ∷ []) ∷ each (λ p. narrowed (next_is IMPL_KW) false p) type_firsts)
    ((of_kinds (COMMA ∷ L_CURLY ∷ SEMICOLON ∷ EQ ∷ []) ∷ []) ∷ [])

abbrev pub where_read_by : Rule → List Outcome
where_read_by knot.WhereClause = something ∷ []
where_read_by r = []

abbrev pub where_entry : Entry
where_entry =
    read_text where_read_by
    where_rows
    ((of_kinds (WHERE_KW ∷ []) ∷ []) ∷ []) ((of_kinds (L_CURLY ∷ SEMICOLON ∷ EQ ∷ []) ∷ []) ∷ [])
