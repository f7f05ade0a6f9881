-- What expressions begin with, and what goes on behind them.
use Rattle.std.specs.Prelude.{ℕ, ◌==◌, ◌&&◌, ◌||◌, not, nat_lt, Bool, true, false, List, [], ◌∷◌, ◌++◌, Some, None}
use Rattle.rap_base.specs.TokenKind.{EOF, SEMICOLON, COMMA, COLON, EQ, L_PAREN, R_PAREN, L_BRACK, R_BRACK, L_CURLY, R_CURLY, L_ANGLE, R_ANGLE, AMP, STAR, SLASH, PERCENT, CARET, BANG, MINUS, PLUS, PIPE, DOT, QUESTION, UNDERSCORE, LIFETIME_IDENT, INT_NUMBER, AS_KW, ASYNC_KW, AWAIT_KW, BECOME_KW, BREAK_KW, CONST_KW, CONTINUE_KW, ELSE_KW, FOR_KW, IF_KW, LOOP_KW, MATCH_KW, MOVE_KW, RETURN_KW, TRY_KW, UNSAFE_KW, WHERE_KW, WHILE_KW, YIELD_KW, AMP2, PIPE2, SHL, SHLEQ}
use Rattle.rap_events.specs.OperatorTable.{operators}
use Rattle.rap_grammar_scripts.specs.First.{one_of}
use Rattle.rap_grammar_table.proofs.Entry.{of_names, touching, colons}
use Rattle.rap_grammar_table.proofs.Evaluate.{behind}
use Rattle.rap_grammar_table.proofs.Look.{look_parts}
use Rattle.rap_grammar_table.proofs.SharedHints.{brackets, global_heads}
use Rattle.rap_grammar_table.specs.SharedRows.{literals, path_names}
use Rattle.rap_grammar_table.specs.Known.{Place, never}
use Rattle.rap_grammar_table.specs.Notation.{those, of_kinds}
use Rattle.rap_grammar_table.specs.Operators.{expr_ends}

-- the first tokens of an operand, and of a jump or a closure
abbrev pub block_kinds : List ℕ
block_kinds =
    L_CURLY ∷ IF_KW ∷ MATCH_KW ∷ WHILE_KW ∷ LOOP_KW ∷ FOR_KW ∷ UNSAFE_KW ∷ ASYNC_KW ∷ CONST_KW ∷ TRY_KW ∷
    LIFETIME_IDENT ∷ []

abbrev pub atom_kinds : List ℕ
atom_kinds = L_ANGLE ∷ COLON ∷ L_PAREN ∷ L_BRACK ∷ UNDERSCORE ∷ CONTINUE_KW ∷ (path_names ++ literals)

abbrev pub operand_kinds : List ℕ
operand_kinds = AMP ∷ STAR ∷ BANG ∷ MINUS ∷ (block_kinds ++ atom_kinds)

abbrev pub open_kinds : List ℕ
open_kinds = RETURN_KW ∷ BREAK_KW ∷ YIELD_KW ∷ BECOME_KW ∷ PIPE ∷ MOVE_KW ∷ ASYNC_KW ∷ []

abbrev pub right_kinds : List ℕ
right_kinds = DOT ∷ (operand_kinds ++ open_kinds)

-- an operator whose token twice is another operator, and that one
abbrev pub doubled : List (ℕ × ℕ)
doubled = (AMP, AMP2) ∷ (PIPE, PIPE2) ∷ (L_ANGLE, SHL) ∷ []

abbrev pub if_kind : {A : Type 0} → Bool → A → A → A
if_kind true x y = x
if_kind false x y = y

-- an operator that begins as generic arguments do
abbrev pub is_angled : ℕ → Bool
is_angled kind = one_of (L_ANGLE ∷ SHL ∷ SHLEQ ∷ []) kind

abbrev pub alone_places : ℕ → List (ℕ × ℕ) → List (List Place)
alone_places kind [] = (of_kinds (kind ∷ []) ∷ of_kinds right_kinds ∷ []) ∷ []
alone_places kind (row ∷ rows) =
    if_kind (row.0 == kind)
    ((record { kinds = Some (kind ∷ []); words = None; joint = never } ∷ of_kinds right_kinds ∷ [])
    ∷ (of_kinds (kind ∷ []) ∷ of_kinds (those (λ k. not (k == kind)) right_kinds) ∷ [])
    ∷ [])
    (alone_places kind rows)

abbrev pub operator_places : ℕ → List ℕ → List (List Place)
operator_places first [] = alone_places first doubled
operator_places first (k ∷ ks) = look_parts (first ∷ k ∷ ks) [] ∷ []

-- the operators of less than this power, but for `as`, as what comes next: all, or those that begin otherwise than
-- generic arguments
abbrev pub places_of : Bool → ℕ → ℕ → List (ℕ × ℕ × List ℕ) → List (List Place)
places_of all power first [] = []
places_of all power first (row ∷ rows) =
    if_kind ((nat_lt 0 row.1 && nat_lt row.1 power) && (all || not (is_angled row.0)))
    (operator_places first row.2) [] ++
    places_of all power first rows

abbrev pub places_in : Bool → ℕ → List (ℕ × List (ℕ × ℕ × List ℕ)) → List (List Place)
places_in all power [] = []
places_in all power (row ∷ rows) = places_of all power row.0 row.1 ++ places_in all power rows

-- the same for an operand, which may stand at the end of the guard of an arm
abbrev pub arrow : List Place
arrow = touching EQ ∷ of_kinds (R_ANGLE ∷ []) ∷ []

abbrev pub operand_ends : Bool → List (List Place)
operand_ends true = expr_ends true
operand_ends false = arrow ∷ expr_ends false

abbrev pub closed_follows : Bool → ℕ → List (List Place)
closed_follows forbid power = operand_ends forbid ++ places_in true power operators

abbrev pub as_place : List Place
as_place = of_kinds (AS_KW ∷ []) ∷ []

abbrev pub operand_follows : Bool → List (List Place)
operand_follows forbid = as_place ∷ closed_follows forbid 12

abbrev pub cast_follows : List (List Place)
cast_follows = as_place ∷ (operand_ends true ++ (operand_ends false ++ places_in false 12 operators))

abbrev pub atom_follows : Bool → List (List Place)
atom_follows forbid =
    (of_kinds (L_PAREN ∷ L_BRACK ∷ QUESTION ∷ []) ∷ [])
    ∷ (of_kinds (DOT ∷ []) ∷ of_kinds (INT_NUMBER ∷ AWAIT_KW ∷ path_names) ∷ [])
    ∷ operand_follows forbid

-- what may follow a path, and what begins with a name
abbrev pub path_follows : List (List Place)
path_follows =
    (of_kinds (L_CURLY ∷ ELSE_KW ∷ []) ∷ []) ∷ (of_kinds (BANG ∷ []) ∷ of_kinds brackets ∷ []) ∷ atom_follows false

abbrev pub operator_kinds : List ℕ
operator_kinds =
    EQ ∷ R_ANGLE ∷ L_ANGLE ∷ PIPE ∷ PLUS ∷ CARET ∷ PERCENT ∷ AMP ∷ SLASH ∷ STAR ∷ DOT ∷ MINUS ∷ AS_KW ∷ []

abbrev pub end_kinds : List ℕ
end_kinds = EOF ∷ SEMICOLON ∷ COMMA ∷ R_PAREN ∷ R_BRACK ∷ R_CURLY ∷ L_CURLY ∷ WHERE_KW ∷ ELSE_KW ∷ []

abbrev pub path_heads : List (List Place)
path_heads =
    (of_kinds (L_ANGLE ∷ []) ∷ [])
    ∷ (global_heads ++
    behind (of_names path_names)
    ((of_kinds (L_PAREN ∷ L_BRACK ∷ QUESTION ∷ (operator_kinds ++ end_kinds)) ∷ [])
    ∷ (of_kinds (BANG ∷ []) ∷ of_kinds brackets ∷ [])
    ∷ (touching BANG ∷ of_kinds (EQ ∷ []) ∷ [])
    ∷ colons ((of_kinds (L_ANGLE ∷ path_names) ∷ []) ∷ [])))
