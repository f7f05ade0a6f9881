-- Record literals.
-- In the Rust crate: `grammar/expressions.rs`.
use Rattle.std.specs.Prelude.{ℕ, Bool, false, [], ◌∷◌, codes}
use Rattle.rap_base.specs.TokenKind.{EOF, IDENT, INT_NUMBER, L_CURLY, R_CURLY, COMMA, COLON, EQ, COLON2, DOT2}
use Rattle.rap_base.specs.NodeKind.{RECORD_EXPR_FIELD, RECORD_EXPR_FIELD_LIST}
use Rattle.rap_grammar_scripts.specs.Attributes.{outer_attrs}
use Rattle.rap_grammar_scripts.specs.Blocks.{error_block}
use Rattle.rap_grammar_scripts.specs.Test.{comes}
use Rattle.rap_grammar_scripts.specs.ThroughKnot.{expr}
use Rattle.rap_grammar_scripts.specs.First.{one_of}
use Rattle.rap_grammar_scripts.specs.Names.{name_ref_or_index}
use Rattle.rap_grammar_scripts.specs.declared.rule.Rule.{Rule}
use Rattle.rap_grammar_scripts.specs.Script.{Script, give, test, token, report, skip, start, finish, abandon, loop, again}
use Rattle.rap_grammar_scripts.specs.Words.{done, expect, ◌▸◌, call, choose, optional, next_so, is_at}

-- a field's name or number
abbrev pub is_field_name : ℕ → Bool
is_field_name kind = one_of (IDENT ∷ INT_NUMBER ∷ []) kind

-- a field's name and the colon after it, or nothing where the name is the value too
unfoldable pub field_name : Script Rule
field_name =
    choose
    ((comes 1 COLON, call name_ref_or_index ▸ token COLON ▸ done)
    ∷ (comes 1 EQ, call name_ref_or_index ▸ skip (codes "expected `:`") ▸ done)
    ∷ [])
    done

-- the base of a record without its dots, with no node around it
unfoldable pub base_without_dots : Script Rule
base_without_dots = abandon ▸ expect DOT2 ▸ call expr ▸ done

-- a field that begins with a name, from the newest node on
unfoldable pub named_field : Script Rule
named_field =
    choose
    ((comes 1 COLON2, base_without_dots)
    ∷ (
      comes 1 DOT2,
      call name_ref_or_index ▸ report (codes "expected `:`") ▸ finish RECORD_EXPR_FIELD ▸ done,
    )
    ∷ [])
    (call field_name ▸ call expr ▸ finish RECORD_EXPR_FIELD ▸ done)

-- what stands after the dots of the base
unfoldable pub base_of_record : Script Rule
base_of_record =
    test (is_at R_CURLY) done
    (call expr ▸ optional (is_at COMMA) (report (codes "cannot use a comma after the base struct") ▸ done))

-- a field from the newest node on, or the base
unfoldable pub marked_field : Script Rule
marked_field =
    choose
    ((next_so is_field_name, named_field)
    ∷ (is_at DOT2, abandon ▸ token DOT2 ▸ base_of_record)
    ∷ (is_at L_CURLY, call (error_block (codes "expected a field")) ▸ abandon ▸ done)
    ∷ [])
    (skip (codes "expected identifier") ▸ abandon ▸ done)

-- a field with its attributes
unfoldable pub record_field : Script Rule
record_field = start ▸ call outer_attrs ▸ marked_field

abbrev pub fields_turn : Bool → Bool → Script Rule
fields_turn a b =
    choose
    ((is_at EOF, done)
    ∷ (is_at R_CURLY, done)
    ∷ [])
    (call record_field ▸ test (is_at R_CURLY) (give (again a b)) (expect COMMA ▸ give (again a b)))

unfoldable pub record_fields : Script Rule
record_fields = loop fields_turn false false

-- the fields of a record in their braces
unfoldable pub record_expr_field_list : Script Rule
record_expr_field_list =
    start ▸ token L_CURLY ▸ call record_fields ▸ expect R_CURLY ▸ finish RECORD_EXPR_FIELD_LIST ▸ done
