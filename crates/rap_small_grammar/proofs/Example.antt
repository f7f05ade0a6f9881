-- Derivations by hand, as the rows of the grammar say: a sum with a product on its right, a call whose arguments end
-- with a comma, a field by its number, a reference, assignments, and a method's call on a path; a block with two
-- statements and a value; and a condition and loops, as statements of a function in a file, and as an expression.
use Rattle.std.proofs.Common.{ℕ, List, [], ◌∷◌, ◌++◌, append-nil, true, false, inl, refl, arith}
use Rattle.rap_base.specs.TokenKind.{EOF, IDENT, INT_NUMBER, PLUS, STAR, EQ, L_ANGLE, SHLEQ, AMP, DOT, COLON, COLON2, COMMA, L_PAREN, R_PAREN, L_CURLY, R_CURLY, SEMICOLON, MUT_KW, FN_KW, LET_KW, IF_KW, WHILE_KW, LOOP_KW}
use Rattle.rap_base.specs.NodeKind.{BIN_EXPR, REF_EXPR, LITERAL, PATH_EXPR, PATH, PATH_SEGMENT, NAME_REF, CALL_EXPR, METHOD_CALL_EXPR, FIELD_EXPR, ARG_LIST, PATH_TYPE, REF_TYPE, NAME, IDENT_PAT, LET_STMT, EXPR_STMT, STMT_LIST, BLOCK_EXPR, IF_EXPR, WHILE_EXPR, LOOP_EXPR, FN, PARAM_LIST, SOURCE_FILE}
use Rattle.rap_base.specs.declared.edition.Edition.TheVariants.{Edition2024}
use Rattle.rap_events.specs.Record.{Record}
use Rattle.rap_events.specs.Forest.{Forest, none, node, leaf, ◌⧺◌}
use Rattle.rap_small_grammar.specs.Derives.{Is, IsOperator, IsNamedField, Elements, Expression, Binary, Unary, Postfix, Segment, Reference, Name, Bind, Annotation, Value, Statement, Contents, Block, WithBlock, File, Derives, maybe_none, maybe_some, many_none, many_more, element_comma, reference, segment, path_one, path_more, atom_literal, atom_path, atom_block, postfix_atom, postfix_call, postfix_number, postfix_method, argument_list, unary_ref_mut, unary_postfix, binary_unary, binary_tighter, binary_operator, expression_binary, expression_assign, type_path, type_ref, name_given, bind_name, annotation_type, value_given, statement_let, statement_expression, statement_block, contents_none, contents_value, contents_statement, contents_block_before, block_of, with_block, with_if, with_while, with_loop, if_of, item_function, params_of, file_of}

-- a token, and one that touches the token after it
abbrev token : ℕ → Record
token kind = record { kind = kind; contextual = EOF; edition = Edition2024; joint = false }

abbrev touching : ℕ → Record
touching kind = record { kind = kind; contextual = EOF; edition = Edition2024; joint = true }

abbrev name : Record
name = record { kind = IDENT; contextual = IDENT; edition = Edition2024; joint = false }

its_kind : {r : Record} → Is r r.kind
its_kind = record { kind_is = refl }

a_reference_name : Derives Reference (name ∷ []) (node none NAME_REF (leaf none IDENT 1))
a_reference_name = reference (record { kind = refl; contextual = refl })

a_given_name : Derives Name (name ∷ []) (node none NAME (leaf none IDENT 1))
a_given_name = name_given (record { kind = refl; contextual = refl })

-- a name after a forest, as a path and as an expression, and a number
abbrev with_path : Forest → Forest
with_path f = node f PATH (node none PATH_SEGMENT (node none NAME_REF (leaf none IDENT 1)))

abbrev with_name : Forest → Forest
with_name f = node f PATH_EXPR (with_path none)

abbrev with_number : Forest → Forest
with_number f = node f LITERAL (leaf none INT_NUMBER 1)

a_name : Derives Postfix (name ∷ []) (with_name none)
a_name = postfix_atom (atom_path (path_one (segment a_reference_name)))

a_number : Derives Postfix (token INT_NUMBER ∷ []) (with_number none)
a_number = postfix_atom (atom_literal (inl refl))

-- up the powers
three_of_ten : {ks : List Record} {t : Forest} → Derives (Binary 10) ks t → Derives (Binary 3) ks t
three_of_ten d =
    let nine = binary_tighter (omega arith) (omega arith) d in
    let eight = binary_tighter (omega arith) (omega arith) nine in
    let seven = binary_tighter (omega arith) (omega arith) eight in
    let six = binary_tighter (omega arith) (omega arith) seven in
    let five = binary_tighter (omega arith) (omega arith) six in
    let four = binary_tighter (omega arith) (omega arith) five in
    binary_tighter (omega arith) (omega arith) four

eleven : {ks : List Record} {t : Forest} → Derives Unary ks t → Derives (Binary 11) ks t
eleven d = binary_tighter (omega arith) (omega arith) (binary_unary d)

ten : {ks : List Record} {t : Forest} → Derives Unary ks t → Derives (Binary 10) ks t
ten d = binary_tighter (omega arith) (omega arith) (eleven d)

expression : {ks : List Record} {t : Forest} → Derives Unary ks t → Derives Expression ks t
expression d = expression_binary (three_of_ten (ten d))

name_expression : Derives Expression (name ∷ []) (with_name none)
name_expression = expression (unary_postfix a_name)

-- `a * 2`, and `a + a * 2`
star : IsOperator (token STAR ∷ []) STAR 11 (token INT_NUMBER ∷ [])
star = record { power_is = refl; writes = record { touching = refl }; apart = λ e. absurd (omega arith) }

plus : IsOperator (token PLUS ∷ []) PLUS 10 (name ∷ token STAR ∷ token INT_NUMBER ∷ [])
plus = record { power_is = refl; writes = record { touching = refl }; apart = λ e. absurd (omega arith) }

product : Derives (Binary 11) (name ∷ token STAR ∷ token INT_NUMBER ∷ [])
    (node none BIN_EXPR (with_number (leaf (with_name none) STAR 1)))
product =
    binary_operator (omega arith) (omega arith) (eleven (unary_postfix a_name)) star
    (binary_unary (unary_postfix a_number))

pub a_sum : Derives Expression (name ∷ token PLUS ∷ name ∷ token STAR ∷ token INT_NUMBER ∷ [])
    (node none BIN_EXPR (node (leaf (with_name none) PLUS 1) BIN_EXPR (with_number (leaf (with_name none) STAR 1))))
a_sum =
    expression_binary (three_of_ten (binary_operator (omega arith) (omega arith) (ten (unary_postfix a_name)) plus
    product))

-- `a(2,)`
no_field : ¬ IsNamedField (with_name none)
no_field f = let e = f.1 in absurd cc

one_argument : Derives (Elements Expression) (token INT_NUMBER ∷ token COMMA ∷ []) (leaf (with_number none) COMMA 1)
one_argument = element_comma (expression (unary_postfix a_number)) its_kind

pub a_call : Derives Expression (name ∷ token L_PAREN ∷ token INT_NUMBER ∷ token COMMA ∷ token R_PAREN ∷ [])
    (node none CALL_EXPR (node (with_name none) ARG_LIST
    (leaf (leaf (with_number (leaf none L_PAREN 1)) COMMA 1) R_PAREN 1)))
a_call =
    expression (unary_postfix (postfix_call a_name no_field
    (argument_list its_kind (maybe_some one_argument) its_kind)))

-- `a.0`
pub a_field : Derives Expression (name ∷ token DOT ∷ token INT_NUMBER ∷ [])
    (node none FIELD_EXPR (node (leaf (with_name none) DOT 1) NAME_REF (leaf none INT_NUMBER 1)))
a_field = expression (unary_postfix (postfix_number a_name its_kind its_kind))

-- `&mut a`
pub a_reference : Derives Expression (token AMP ∷ token MUT_KW ∷ name ∷ [])
    (node none REF_EXPR (with_name (leaf (leaf none AMP 1) MUT_KW 1)))
a_reference = expression (unary_ref_mut its_kind its_kind (unary_postfix a_name))

-- `a <<= a = 2`: three tokens are one leaf, and an assignment goes on to the right
abbrev shifted : List Record
shifted = touching L_ANGLE ∷ touching L_ANGLE ∷ token EQ ∷ []

shift : IsOperator shifted SHLEQ 1 (name ∷ token EQ ∷ token INT_NUMBER ∷ [])
shift =
    record {
      power_is = refl;
      writes = record { touching = (refl, refl, (refl, refl, refl)) };
      apart = λ e. absurd (omega arith);
    }

equals : IsOperator (token EQ ∷ []) EQ 1 (token INT_NUMBER ∷ [])
equals = record { power_is = refl; writes = record { touching = refl }; apart = λ e. absurd (omega arith) }

pub an_assignment : Derives Expression (name ∷ (shifted ++ name ∷ token EQ ∷ token INT_NUMBER ∷ []))
    (node none BIN_EXPR (node (leaf (with_name none) SHLEQ 3) BIN_EXPR (with_number (leaf (with_name none) EQ 1))))
an_assignment =
    expression_assign (three_of_ten (ten (unary_postfix a_name))) shift
    (expression_assign (three_of_ten (ten (unary_postfix a_name))) equals (expression (unary_postfix a_number)))

-- `a::b.c()`: two touching tokens are one leaf, and a path is on the left of a longer one
abbrev longer_path : Forest
longer_path =
    node none PATH (node (leaf (with_path none) COLON2 2) PATH_SEGMENT (node none NAME_REF (leaf none IDENT 1)))

a_path : Derives Postfix (name ∷ touching COLON ∷ token COLON ∷ name ∷ []) (node none PATH_EXPR longer_path)
a_path =
    let a_segment : Derives Segment (name ∷ []) (node none PATH_SEGMENT (node none NAME_REF (leaf none IDENT 1))) =
    segment a_reference_name in
    postfix_atom (atom_path (path_more {os = touching COLON ∷ token COLON ∷ []} (path_one a_segment)
    (record { touching = (refl, refl, refl) }) a_segment))

pub a_method_call : Derives Expression
    (name ∷ touching COLON ∷ token COLON ∷ name ∷ token DOT ∷ name ∷ token L_PAREN ∷ token R_PAREN ∷ [])
    (node none METHOD_CALL_EXPR (node (node (leaf (node none PATH_EXPR longer_path) DOT 1) NAME_REF (leaf none IDENT 1))
    ARG_LIST (leaf (leaf none L_PAREN 1) R_PAREN 1)))
a_method_call =
    expression (unary_postfix (postfix_method a_path its_kind a_reference_name
    (argument_list its_kind maybe_none its_kind)))

-- `{ let a: &a = 2; a; a }`: a statement is one node, and the value at the end is none
a_binding : Derives Bind (name ∷ []) (node none IDENT_PAT (node none NAME (leaf none IDENT 1)))
a_binding = bind_name a_given_name

an_annotation : Derives Annotation (token COLON ∷ token AMP ∷ name ∷ [])
    (node (leaf none COLON 1) REF_TYPE (node (leaf none AMP 1) PATH_TYPE (with_path none)))
an_annotation = annotation_type its_kind (type_ref its_kind (type_path (path_one (segment a_reference_name))))

a_value : Derives Value (token EQ ∷ token INT_NUMBER ∷ []) (with_number (leaf none EQ 1))
a_value = value_given its_kind (expression (unary_postfix a_number))

abbrev let_tokens : List Record
let_tokens =
    token LET_KW ∷ name ∷ token COLON ∷ token AMP ∷ name ∷ token EQ ∷ token INT_NUMBER ∷ token SEMICOLON ∷ []

abbrev with_let : Forest → Forest
with_let f =
    node f LET_STMT (leaf (with_number (leaf (node (leaf (node (leaf none LET_KW 1) IDENT_PAT
    (node none NAME (leaf none IDENT 1))) COLON 1) REF_TYPE (node (leaf none AMP 1) PATH_TYPE (with_path none))) EQ 1))
    SEMICOLON 1)

a_let : Derives Statement let_tokens (with_let none)
a_let = statement_let its_kind a_binding (maybe_some an_annotation) (maybe_some a_value) its_kind

a_statement : Derives Statement (name ∷ token SEMICOLON ∷ []) (node none EXPR_STMT (leaf (with_name none) SEMICOLON 1))
a_statement = statement_expression name_expression (record { starts = refl }) its_kind

a_last_name : Derives Contents (name ∷ []) (with_name none)
a_last_name = contents_value name_expression (record { starts = refl })

pub a_block : Derives Block (token L_CURLY ∷ (let_tokens ++ name ∷ token SEMICOLON ∷ name ∷ token R_CURLY ∷ []))
    (node none BLOCK_EXPR (node none STMT_LIST (leaf (with_name (node (with_let (leaf none L_CURLY 1))
    EXPR_STMT (leaf (with_name none) SEMICOLON 1))) R_CURLY 1)))
a_block = block_of its_kind (contents_statement a_let (contents_statement a_statement a_last_name)) its_kind

-- an empty block after a forest
abbrev with_empty : Forest → Forest
with_empty f = node f BLOCK_EXPR (node none STMT_LIST (leaf (leaf none L_CURLY 1) R_CURLY 1))

empty_block : Derives Block (token L_CURLY ∷ token R_CURLY ∷ []) (with_empty none)
empty_block = block_of its_kind contents_none its_kind

-- `fn f` with a block over these statements, as a file
abbrev in_function : Forest → Forest
in_function t =
    node none SOURCE_FILE (node none FN (node (node (node (leaf none FN_KW 1) NAME (leaf none IDENT 1))
    PARAM_LIST (leaf (leaf none L_PAREN 1) R_PAREN 1)) BLOCK_EXPR (node none STMT_LIST
    (leaf (leaf none L_CURLY 1 ⧺ t) R_CURLY 1))))

a_function : {ks : List Record} {t : Forest} → Derives Contents ks t →
    Derives File (token FN_KW ∷ name ∷ token L_PAREN ∷ token R_PAREN ∷ token L_CURLY ∷ (ks ++ token R_CURLY ∷ []))
    (in_function t)
a_function d =
    let no_params = params_of {a = token L_PAREN} {b = token R_PAREN} its_kind maybe_none its_kind in
    let body = block_of {a = token L_CURLY} {b = token R_CURLY} its_kind d its_kind in
    let function = item_function {a = token FN_KW} maybe_none its_kind a_given_name no_params maybe_none body in
    file_of (rw append-nil at (many_more function many_none))

-- `fn f() { if a { } b }`: a condition that a block needs no semicolon after, before the value of that block
a_condition : Derives WithBlock (token IF_KW ∷ name ∷ token L_CURLY ∷ token R_CURLY ∷ [])
    (node none IF_EXPR (with_empty (with_name (leaf none IF_KW 1))))
a_condition = with_if (if_of its_kind name_expression empty_block maybe_none)

pub condition_in_a_file : Derives File
    (token FN_KW ∷ name ∷ token L_PAREN ∷ token R_PAREN ∷ token L_CURLY ∷ token IF_KW ∷ name ∷ token L_CURLY ∷
    token R_CURLY ∷ name ∷ token R_CURLY ∷ [])
    (in_function (with_name (node none EXPR_STMT (node none IF_EXPR (with_empty (with_name (leaf none IF_KW 1)))))))
condition_in_a_file = a_function (contents_block_before a_condition a_last_name (λ e. cc))

-- `fn f() { loop {}; }`: a loop with its semicolon
a_loop : Derives Statement (token LOOP_KW ∷ token L_CURLY ∷ token R_CURLY ∷ token SEMICOLON ∷ [])
    (node none EXPR_STMT (leaf (node none LOOP_EXPR (with_empty (leaf none LOOP_KW 1))) SEMICOLON 1))
a_loop = statement_block (with_loop its_kind empty_block) its_kind

pub loop_in_a_file : Derives File
    (token FN_KW ∷ name ∷ token L_PAREN ∷ token R_PAREN ∷ token L_CURLY ∷ token LOOP_KW ∷ token L_CURLY ∷
    token R_CURLY ∷ token SEMICOLON ∷ token R_CURLY ∷ [])
    (in_function (node none EXPR_STMT (leaf (node none LOOP_EXPR (with_empty (leaf none LOOP_KW 1))) SEMICOLON 1)))
loop_in_a_file = a_function (contents_statement a_loop contents_none)

-- `while x { }`, and a block in the place of its condition
while_expression : {ks : List Record} {t : Forest} → Derives Expression ks t →
    Derives Expression (token WHILE_KW ∷ (ks ++ token L_CURLY ∷ token R_CURLY ∷ []))
    (node none WHILE_EXPR (leaf none WHILE_KW 1 ⧺ t ⧺ with_empty none))
while_expression d = expression (unary_postfix (postfix_atom (atom_block (with_while its_kind d empty_block))))

pub a_while : Derives Expression (token WHILE_KW ∷ name ∷ token L_CURLY ∷ token R_CURLY ∷ [])
    (node none WHILE_EXPR (with_empty (with_name (leaf none WHILE_KW 1))))
a_while = while_expression name_expression

pub a_while_of_a_block : Derives Expression
    (token WHILE_KW ∷ token L_CURLY ∷ token R_CURLY ∷ token L_CURLY ∷ token R_CURLY ∷ [])
    (node none WHILE_EXPR (with_empty (with_empty (leaf none WHILE_KW 1))))
a_while_of_a_block = while_expression (expression (unary_postfix (postfix_atom (atom_block (with_block empty_block)))))
