-- What the checker is told of items.
use Rattle.std.specs.Prelude.{ℕ, List, [], ◌∷◌, ◌++◌, Some}
use Rattle.rap_base.specs.TokenKind.{AUTO_KW, DEFAULT_KW, EOF, IDENT, SEMICOLON, COMMA, L_PAREN, L_CURLY, R_CURLY, ASYNC_KW, CONST_KW, ENUM_KW, EXTERN_KW, FN_KW, MOD_KW, PUB_KW, STATIC_KW, STRUCT_KW, TYPE_KW, UNSAFE_KW, STAR, BANG, UNION_KW, USE_KW, TRAIT_KW, IMPL_KW, MACRO_KW, MACRO_RULES_KW}
use Rattle.rap_grammar_scripts.specs.Script.{Outcome, something}
use Rattle.rap_grammar_scripts.specs.declared.rule.Rule.{Rule}
use Rattle.rap_grammar_scripts.specs.declared.rule.Rule.TheVariants as knot
use Rattle.rap_grammar_table.proofs.Entry.{Entry, text, read_text, colons, of_names}
use Rattle.rap_grammar_table.proofs.Evaluate.{behind}
use Rattle.rap_grammar_table.proofs.SharedHints.{attr_heads, brackets}
use Rattle.rap_grammar_table.specs.Category.{UseTree, RecordField}
use Rattle.rap_grammar_table.specs.SharedRows.{path_names, use_names}
use Rattle.rap_grammar_table.specs.ItemRows.{visibility_rows, fn_params_rows, variant_rows, use_tree_rows, call_words, item_rows}
use Rattle.rap_grammar_table.specs.Known.{Place, unclear, anything}
use Rattle.rap_grammar_table.specs.Notation.{Part, of_kinds}
use Rattle.rap_grammar_table.specs.Rows.{rows}

-- what stands before an item's name
abbrev pub item_keywords : List ℕ
item_keywords =
    STRUCT_KW ∷ MOD_KW ∷ TYPE_KW ∷ CONST_KW ∷ STATIC_KW ∷ ENUM_KW ∷ ASYNC_KW ∷ UNSAFE_KW ∷ EXTERN_KW ∷ FN_KW ∷
    USE_KW ∷ TRAIT_KW ∷ IMPL_KW ∷ MACRO_KW ∷ []

abbrev pub visibility_entry : Entry
visibility_entry =
    text visibility_rows
    ((of_kinds (PUB_KW ∷ []) ∷ []) ∷ []) ((of_kinds (IDENT ∷ item_keywords) ∷ []) ∷ [])

abbrev pub field_entry : Entry
field_entry =
    text (rows RecordField)
    ((of_kinds (PUB_KW ∷ IDENT ∷ []) ∷ []) ∷ attr_heads) ((of_kinds (COMMA ∷ R_CURLY ∷ []) ∷ []) ∷ [])

abbrev pub fn_params_entry : Entry
fn_params_entry =
    text
    fn_params_rows
    ((of_kinds (L_PAREN ∷ []) ∷ []) ∷ []) anything

abbrev pub variant_entry : Entry
variant_entry =
    text
    variant_rows
    ((of_kinds (IDENT ∷ []) ∷ []) ∷ attr_heads) ((of_kinds (COMMA ∷ R_CURLY ∷ []) ∷ []) ∷ [])

abbrev pub use_tree_read_by : Rule → List Outcome
use_tree_read_by knot.UseTree = something ∷ []
use_tree_read_by r = []

abbrev pub use_tree_entry : Entry
use_tree_entry =
    read_text use_tree_read_by
    use_tree_rows
    ((of_kinds (STAR ∷ L_CURLY ∷ use_names) ∷ []) ∷ colons ((of_kinds (STAR ∷ L_CURLY ∷ use_names) ∷ []) ∷ []))
    ((of_kinds (COMMA ∷ R_CURLY ∷ SEMICOLON ∷ []) ∷ []) ∷ [])

abbrev pub item_kinds : List ℕ
item_kinds = PUB_KW ∷ item_keywords

abbrev pub word_place : ℕ → Place
word_place kind = record { kinds = Some (IDENT ∷ []); words = Some (kind ∷ []); joint = unclear }

abbrev pub item_heads : List (List Place)
item_heads =
    (of_kinds item_kinds ∷ [])
    ∷ (word_place UNION_KW ∷ of_kinds (IDENT ∷ []) ∷ [])
    ∷ (word_place AUTO_KW ∷ of_kinds (TRAIT_KW ∷ []) ∷ [])
    ∷ (word_place DEFAULT_KW ∷ of_kinds (FN_KW ∷ TYPE_KW ∷ CONST_KW ∷ ASYNC_KW ∷ UNSAFE_KW ∷ []) ∷ [])
    ∷ (word_place MACRO_RULES_KW ∷ of_kinds (BANG ∷ []) ∷ of_kinds (IDENT ∷ []) ∷ [])
    ∷ (record { kinds = Some use_names; words = call_words; joint = unclear } ∷ of_kinds (BANG ∷ []) ∷
    of_kinds brackets ∷ [])
    ∷ (behind (record { kinds = Some use_names; words = call_words; joint = unclear })
    (colons ((of_names path_names ∷ []) ∷ [])) ++ attr_heads)

abbrev pub item_read_by : Rule → List Outcome
item_read_by (knot.ItemOrMacro stops in_extern) = something ∷ []
item_read_by r = []

abbrev pub item_entry : Entry
item_entry =
    read_text item_read_by item_rows item_heads
    ((of_kinds (EOF ∷ R_CURLY ∷ []) ∷ []) ∷ item_heads)

-- what stands in braces, as a category of its own
abbrev pub in_braces : Part → Entry
in_braces a = text (a ∷ []) ((of_kinds (L_CURLY ∷ []) ∷ []) ∷ []) anything
