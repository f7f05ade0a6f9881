-- The rows of tokens in brackets and of attributes.
use Rattle.std.specs.Prelude.{ℕ, not, List, [], ◌∷◌, Option, Some, map}
use Rattle.rap_base.specs.KeywordTable.{contextual_ever}
use Rattle.rap_base.specs.NodeKind.{ATTR, CFG_ATOM, CFG_ATTR_META, CFG_COMPOSITE, CFG_META, DOC_COMMENT, KEY_VALUE_META, NAME_REF, PATH, PATH_META, PATH_SEGMENT, TOKEN_TREE, TOKEN_TREE_META, UNSAFE_META}
use Rattle.rap_base.specs.TokenKind.{EOF, IDENT, COMMA, COLON2, EQ, L_PAREN, R_PAREN, L_BRACK, R_BRACK, L_CURLY, R_CURLY, BANG, POUND, OUTER_DOC_COMMENT, INNER_DOC_COMMENT, SHEBANG, STRING, CFG_KW, CFG_ATTR_KW, FALSE_KW, TRUE_KW, UNSAFE_KW}
use Rattle.rap_base.specs.TokenTests.{is_delimiter}
use Rattle.rap_grammar_scripts.specs.First.{one_of}
use Rattle.rap_grammar_table.specs.Category.{TokenTree, Meta, Cfg, Expr}
use Rattle.rap_grammar_table.specs.SharedRows.{path_names, plain_path, plain_segment}
use Rattle.rap_grammar_table.specs.Known.{Place}
use Rattle.rap_grammar_table.specs.Notation.{those, up_to, Part, ◌⊳◌, t, ts, weak, op, c, node, opt, either, many, commas, fold, of_kinds}
use Rattle.rap_grammar_table.specs.Table.{tok, piece}

-- all tokens but brackets
abbrev pub no_brackets : List ℕ
no_brackets = those (λ kind. not (is_delimiter kind)) (up_to SHEBANG)

abbrev pub any_tokens : Part
any_tokens = many (either (c TokenTree) (ts no_brackets))

abbrev pub tree_in : ℕ → ℕ → Part
tree_in bra ket = node TOKEN_TREE (t bra ⊳ any_tokens ⊳ t ket)

abbrev pub token_tree_rows : List Part
token_tree_rows = tree_in L_PAREN R_PAREN ∷ tree_in L_BRACK R_BRACK ∷ tree_in L_CURLY R_CURLY ∷ []

-- the path of a macro
abbrev pub macro_path_rows : List Part
macro_path_rows = plain_path ∷ []

-- An attribute's path. Before a parenthesis its one name is read neither as `cfg` nor as `cfg_attr`.
abbrev pub attr_words : Option (List ℕ)
attr_words =
    Some (EOF ∷ IDENT ∷ those (λ kind. not (one_of (CFG_KW ∷ CFG_ATTR_KW ∷ []) kind)) (map (λ row. row.1) contextual_ever))

abbrev pub attr_path : Part
attr_path =
    node PATH (node PATH_SEGMENT (node NAME_REF (λ r. piece (tok path_names attr_words) r))) ⊳
    fold PATH (op COLON2 ⊳ plain_segment)

abbrev pub cfg_rows : List Part
cfg_rows =
    node CFG_ATOM (ts (TRUE_KW ∷ FALSE_KW ∷ []))
    ∷ node CFG_ATOM (t IDENT ⊳ opt (t EQ ⊳ t STRING))
    ∷ node CFG_COMPOSITE (t IDENT ⊳ t L_PAREN ⊳ commas (c Cfg) ⊳ t R_PAREN)
    ∷ []

-- what may follow what stands in the brackets of an attribute
abbrev pub meta_follows : List (List Place)
meta_follows = (of_kinds (EOF ∷ COMMA ∷ R_PAREN ∷ R_BRACK ∷ []) ∷ []) ∷ []

abbrev pub meta_rows : List Part
meta_rows =
    node PATH_META plain_path
    ∷ node KEY_VALUE_META (plain_path ⊳ t EQ ⊳ c Expr)
    ∷ node TOKEN_TREE_META (attr_path ⊳ c TokenTree)
    ∷ node UNSAFE_META (t UNSAFE_KW ⊳ t L_PAREN ⊳ c Meta ⊳ t R_PAREN)
    ∷ node CFG_META (weak CFG_KW ⊳ t L_PAREN ⊳ c Cfg ⊳ opt (t COMMA) ⊳ t R_PAREN)
    ∷ node CFG_ATTR_META
    (weak CFG_ATTR_KW ⊳ t L_PAREN ⊳ c Cfg ⊳ t COMMA ⊳ commas (c Meta) ⊳ t R_PAREN)
    ∷ []

-- an attribute, or a comment that is documentation
abbrev pub attr_rows : List Part
attr_rows = node ATTR (t POUND ⊳ t L_BRACK ⊳ c Meta ⊳ t R_BRACK) ∷ node DOC_COMMENT (t OUTER_DOC_COMMENT) ∷ []

-- an attribute of what it stands in
abbrev pub inner_attr_rows : List Part
inner_attr_rows =
    node ATTR (t POUND ⊳ t BANG ⊳ t L_BRACK ⊳ c Meta ⊳ t R_BRACK) ∷ node DOC_COMMENT (t INNER_DOC_COMMENT) ∷ []
