-- What the checker is told of tokens in brackets and of attributes.
use Rattle.std.specs.Prelude.{List, [], ◌∷◌}
use Rattle.rap_base.specs.TokenKind.{IDENT, COMMA, R_PAREN, BANG, POUND, INNER_DOC_COMMENT, FALSE_KW, TRUE_KW, UNSAFE_KW}
use Rattle.rap_grammar_scripts.specs.Script.{Outcome, something}
use Rattle.rap_grammar_scripts.specs.declared.rule.Rule.{Rule}
use Rattle.rap_grammar_scripts.specs.declared.rule.Rule.TheVariants as knot
use Rattle.rap_grammar_table.proofs.Entry.{Entry, text, read_text, of_names, colons}
use Rattle.rap_grammar_table.proofs.Evaluate.{behind}
use Rattle.rap_grammar_table.proofs.SharedHints.{attr_heads, brackets, macro_head}
use Rattle.rap_grammar_table.specs.AttributeRows.{token_tree_rows, macro_path_rows, cfg_rows, meta_follows, meta_rows, attr_rows, inner_attr_rows}
use Rattle.rap_grammar_table.specs.Category.{TokenTree, Meta}
use Rattle.rap_grammar_table.specs.SharedRows.{path_names}
use Rattle.rap_grammar_table.specs.Known.{anything}
use Rattle.rap_grammar_table.specs.Notation.{of_kinds}

abbrev pub token_tree_read_by : Rule → List Outcome
token_tree_read_by knot.TokenTree = something ∷ []
token_tree_read_by r = []

abbrev pub token_tree_entry : Entry
token_tree_entry =
    read_text token_tree_read_by
    token_tree_rows
    ((of_kinds brackets ∷ []) ∷ []) anything

abbrev pub macro_path_entry : Entry
macro_path_entry =
    text macro_path_rows
    (macro_head ∷ behind (of_names path_names) (colons ((of_names path_names ∷ []) ∷ [])))
    ((of_kinds (BANG ∷ []) ∷ of_kinds brackets ∷ []) ∷ [])

-- a condition
abbrev pub cfg_read_by : Rule → List Outcome
cfg_read_by knot.CfgPredicate = something ∷ []
cfg_read_by r = []

abbrev pub cfg_entry : Entry
cfg_entry =
    read_text cfg_read_by
    cfg_rows
    ((of_kinds (TRUE_KW ∷ FALSE_KW ∷ IDENT ∷ []) ∷ []) ∷ []) ((of_kinds (COMMA ∷ R_PAREN ∷ []) ∷ []) ∷ [])

-- what stands in the brackets of an attribute
abbrev pub meta_read_by : Rule → List Outcome
meta_read_by knot.Meta = something ∷ []
meta_read_by r = []

abbrev pub meta_entry : Entry
meta_entry =
    read_text meta_read_by
    meta_rows
    ((of_kinds (UNSAFE_KW ∷ path_names) ∷ []) ∷ []) meta_follows

abbrev pub attr_entry : Entry
attr_entry =
    text
    attr_rows
    attr_heads anything

abbrev pub inner_attr_entry : Entry
inner_attr_entry =
    text
    inner_attr_rows
    ((of_kinds (POUND ∷ []) ∷ of_kinds (BANG ∷ []) ∷ []) ∷ (of_kinds (INNER_DOC_COMMENT ∷ []) ∷ []) ∷ []) anything
