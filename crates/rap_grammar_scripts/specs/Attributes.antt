-- Attributes.
use Rattle.std.specs.Prelude.{ℕ, Bool, true, false, if◌then◌else◌, [], ◌∷◌, codes}
use Rattle.rap_base.specs.TokenKind.{EOF, POUND, BANG, EQ, EQ2, FAT_ARROW, COMMA, L_PAREN, R_PAREN, L_BRACK, R_BRACK, IDENT, STRING, TRUE_KW, FALSE_KW, UNSAFE_KW, CFG_KW, CFG_ATTR_KW, INNER_DOC_COMMENT, OUTER_DOC_COMMENT}
use Rattle.rap_base.specs.NodeKind.{ATTR, DOC_COMMENT, UNSAFE_META, CFG_ATTR_META, CFG_META, CFG_ATOM, CFG_COMPOSITE, KEY_VALUE_META, TOKEN_TREE_META, PATH_META}
use Rattle.rap_events.specs.State.{expected}
use Rattle.rap_grammar_scripts.specs.Test.{Test, comes, negated, also, or_else}
use Rattle.rap_grammar_scripts.specs.ThroughKnot.{expr, cfg_predicate_element}
use Rattle.rap_grammar_scripts.specs.First.{one_of, is_bracket, is_outer_attr_first, is_cfg_predicate_first}
use Rattle.rap_grammar_scripts.specs.Lists.{delimited}
use Rattle.rap_grammar_scripts.specs.TokenTree.{token_tree}
use Rattle.rap_grammar_scripts.specs.Paths.{attr_path}
use Rattle.rap_grammar_scripts.specs.declared.rule.Rule.{Rule}
use Rattle.rap_grammar_scripts.specs.declared.rule.Rule.TheVariants as knot
use Rattle.rap_grammar_scripts.specs.Script.{Script, give, test, token, any, bear, report, skip, start, finish, after, loop, again}
use Rattle.rap_grammar_scripts.specs.Words.{done, if_some, reads_as, eat, expect, ◌▸◌, call, recur, choose, optional, next_so, is_at}

-- an inner attribute comes next
abbrev pub is_inner_attr_start : Test
is_inner_attr_start = or_else (is_at INNER_DOC_COMMENT) (also (is_at POUND) (comes 1 BANG))

-- the same, or one before what it is of
abbrev pub starts_attr : Bool → Test
starts_attr true = is_inner_attr_start
starts_attr false = next_so is_outer_attr_first

-- the value of an attribute comes next: an `=` that begins no other operator
abbrev pub is_value_start : Test
is_value_start = also (is_at EQ) (also (negated (is_at FAT_ARROW)) (negated (is_at EQ2)))

-- what stands after the `=` of a condition
unfoldable pub cfg_value : Script Rule
cfg_value = test (is_at IDENT) (skip (codes "expected a string literal") ▸ done) (expect STRING ▸ done)

-- the conditions in the brackets of another
abbrev pub cfg_operands : Script Rule
cfg_operands =
    delimited cfg_predicate_element L_PAREN R_PAREN COMMA (codes "expected a cfg predicate") is_cfg_predicate_first

-- a condition
unfoldable pub cfg_predicate : Script Rule
cfg_predicate =
    start ▸
    test (next_so (one_of (TRUE_KW ∷ FALSE_KW ∷ []))) (any ▸ finish CFG_ATOM ▸ done)
    (expect IDENT ▸
    choose
    ((is_at EQ, token EQ ▸ call cfg_value ▸ finish CFG_ATOM ▸ done)
    ∷ (is_at L_PAREN, call cfg_operands ▸ finish CFG_COMPOSITE ▸ done)
    ∷ [])
    (finish CFG_ATOM ▸ done))

-- an attribute that holds if a condition does
unfoldable pub cfg_meta : Script Rule
cfg_meta =
    start ▸ bear CFG_KW ▸ token L_PAREN ▸ call cfg_predicate ▸ eat COMMA ▸ expect R_PAREN ▸ finish CFG_META ▸ done

abbrev pub metas_turn : Bool → Bool → Script Rule
metas_turn a b =
    choose
    ((is_at R_PAREN, done)
    ∷ (is_at EOF, done)
    ∷ [])
    (recur knot.Meta ▸ optional (is_at COMMA) (token COMMA ▸ give (again a b)))

-- the attributes after their condition
unfoldable pub cfg_attr_metas : Script Rule
cfg_attr_metas = loop metas_turn false false

-- attributes under a condition
unfoldable pub cfg_attr_meta : Script Rule
cfg_attr_meta =
    start ▸ bear CFG_ATTR_KW ▸ token L_PAREN ▸ call cfg_predicate ▸ expect COMMA ▸ call cfg_attr_metas ▸
    expect R_PAREN ▸ finish CFG_ATTR_META ▸ done

unfoldable pub unsafe_meta : Script Rule
unsafe_meta = start ▸ token UNSAFE_KW ▸ expect L_PAREN ▸ recur knot.Meta ▸ expect R_PAREN ▸ finish UNSAFE_META ▸ done

-- an attribute's value after the path
unfoldable pub attr_value : Script Rule
attr_value = token EQ ▸ after expr (λ v. if_some v done (report (codes "expected expression") ▸ done))

-- an attribute by its path, with a value or a list of tokens after it
unfoldable pub path_meta : Script Rule
path_meta =
    start ▸ call attr_path ▸
    choose
    ((is_value_start, call attr_value ▸ finish KEY_VALUE_META ▸ done)
    ∷ (next_so is_bracket, call token_tree ▸ finish TOKEN_TREE_META ▸ done)
    ∷ [])
    (finish PATH_META ▸ done)

-- an identifier that is read as this keyword comes next, and a `(`
abbrev pub at_called_kw : ℕ → Test
at_called_kw kind = also (reads_as kind) (comes 1 L_PAREN)

-- what stands in the brackets of an attribute
unfoldable pub meta : Script Rule
meta =
    choose
    ((is_at UNSAFE_KW, unsafe_meta)
    ∷ (at_called_kw CFG_ATTR_KW, cfg_attr_meta)
    ∷ (at_called_kw CFG_KW, cfg_meta)
    ∷ [])
    path_meta

abbrev pub doc_comment : Bool → ℕ
doc_comment inner = if inner then INNER_DOC_COMMENT else OUTER_DOC_COMMENT

-- the `#` of an attribute, with a `!` where it is an inner one
unfoldable pub attr_mark : Bool → Script Rule
attr_mark inner = token POUND ▸ (if inner then token BANG ▸ done else done)

unfoldable pub attr_brackets : Script Rule
attr_brackets =
    test (is_at L_BRACK) (token L_BRACK ▸ call meta ▸ expect R_BRACK ▸ done) (report (expected L_BRACK) ▸ done)

-- an attribute, an inner one or not
unfoldable pub attr : Bool → Script Rule
attr inner =
    test (is_at (doc_comment inner)) (start ▸ any ▸ finish DOC_COMMENT ▸ done)
    (start ▸ call (attr_mark inner) ▸ call attr_brackets ▸ finish ATTR ▸ done)

abbrev pub outer_turn : Bool → Bool → Script Rule
outer_turn a b = optional (next_so is_outer_attr_first) (call (attr false) ▸ give (again a b))

-- outer attributes
unfoldable pub outer_attrs : Script Rule
outer_attrs = loop outer_turn false false

abbrev pub inner_turn : Bool → Bool → Script Rule
inner_turn a b = optional is_inner_attr_start (call (attr true) ▸ give (again a b))

-- inner attributes
unfoldable pub inner_attrs : Script Rule
inner_attrs = loop inner_turn false false
