-- The operators of expressions, and the turns that they are.
use Rattle.std.specs.Prelude.{ℕ, Bool, true, false, List, [], ◌∷◌, ◌++◌, map}
use Rattle.rap_base.specs.NodeKind.{BIN_EXPR, CAST_EXPR, RANGE_EXPR}
use Rattle.rap_base.specs.TokenKind.{EOF, SEMICOLON, COMMA, R_PAREN, R_BRACK, L_CURLY, R_CURLY, L_ANGLE, R_ANGLE, AMP, AMP2, AMPEQ, CARET, CARETEQ, DOT2, DOT2EQ, EQ, EQ2, GTEQ, LTEQ, MINUS, MINUSEQ, NEQ, PERCENT, PERCENTEQ, PIPE, PIPE2, PIPEEQ, PLUS, PLUSEQ, SHL, SHLEQ, SHR, SHREQ, SLASH, SLASHEQ, STAR, STAREQ, AS_KW, WHERE_KW}
use Rattle.rap_grammar_scripts.specs.Words.{is_at, next_is}
use Rattle.rap_grammar_table.specs.Category.{Level, Or, And, Comparison, BitOr, BitXor, BitAnd, Shift, Sum, Product, Category, CastTy, LastCastTy, Closed, Expr, Let, OpenAnd, OpenOr, RangeEnd, WithCast}
use Rattle.rap_grammar_table.specs.Known.{Place}
use Rattle.rap_grammar_table.specs.Notation.{Part, ◌⊳◌, t, op, c, either, guard, turn, of_kinds}

-- An operator whose token twice is another operator does not touch that token.
abbrev pub single : ℕ → ℕ → Part
single kind twice = guard (is_at twice) ⊳ t kind

abbrev pub any_of : List Part → Part
any_of [] = λ r. r
any_of (a ∷ []) = a
any_of (a ∷ b ∷ more) = either a (any_of (b ∷ more))

-- The operators of a level: those that begin otherwise than generic arguments do, and those that begin as these do,
-- which the type of a cast would take. Then the assignments, which are looser than all, of the same two sorts.
abbrev pub operator : Level → Part
operator Or = op PIPE2
operator And = op AMP2
operator Comparison = any_of (op GTEQ ∷ t R_ANGLE ∷ op EQ2 ∷ op LTEQ ∷ op NEQ ∷ [])
operator BitOr = single PIPE PIPE2
operator BitXor = t CARET
operator BitAnd = single AMP AMP2
operator Shift = op SHR
operator Sum = either (t PLUS) (t MINUS)
operator Product = any_of (t PERCENT ∷ t SLASH ∷ t STAR ∷ [])

abbrev pub angled_operators : Level → List Part
angled_operators Comparison = single L_ANGLE SHL ∷ []
angled_operators Shift = op SHL ∷ []
angled_operators level = []

abbrev pub assignment : Part
assignment =
    any_of
    (op PIPEEQ ∷ op SHREQ ∷ t EQ ∷ op PLUSEQ ∷ op CARETEQ ∷ op PERCENTEQ ∷ op AMPEQ ∷ op SLASHEQ ∷ op STAREQ ∷
    op MINUSEQ ∷ [])

abbrev pub angled_assignment : Part
angled_assignment = op SHLEQ

-- what ends an expression, where no record literal may stand and where one may
abbrev pub expr_ends : Bool → List (List Place)
expr_ends true = (of_kinds (L_CURLY ∷ []) ∷ []) ∷ []
expr_ends false = (of_kinds (EOF ∷ SEMICOLON ∷ COMMA ∷ R_PAREN ∷ R_BRACK ∷ R_CURLY ∷ WHERE_KW ∷ []) ∷ []) ∷ []

-- the tighter levels; this one and these; and all
abbrev pub tighter : Level → List Level
tighter Or = And ∷ Comparison ∷ BitOr ∷ BitXor ∷ BitAnd ∷ Shift ∷ Sum ∷ Product ∷ []
tighter And = Comparison ∷ BitOr ∷ BitXor ∷ BitAnd ∷ Shift ∷ Sum ∷ Product ∷ []
tighter Comparison = BitOr ∷ BitXor ∷ BitAnd ∷ Shift ∷ Sum ∷ Product ∷ []
tighter BitOr = BitXor ∷ BitAnd ∷ Shift ∷ Sum ∷ Product ∷ []
tighter BitXor = BitAnd ∷ Shift ∷ Sum ∷ Product ∷ []
tighter BitAnd = Shift ∷ Sum ∷ Product ∷ []
tighter Shift = Sum ∷ Product ∷ []
tighter Sum = Product ∷ []
tighter Product = []

abbrev pub from : Level → List Level
from level = level ∷ tighter level

abbrev pub levels : List Level
levels = from Or

-- The numbers that turns of operators tell: behind an operand alone; behind an operator of a level, so that no tighter
-- one comes next; behind one whose right operand ends with a cast, or behind a cast, so that none comes next either
-- that begins as generic arguments do; and behind what lets nothing come next.
abbrev pub fresh : ℕ
fresh = 12

abbrev pub behind : Level → ℕ
behind Or = 3
behind And = 4
behind Comparison = 5
behind BitOr = 6
behind BitXor = 7
behind BitAnd = 8
behind Shift = 9
behind Sum = 10
behind Product = 11

abbrev pub behind_cast_in : Level → ℕ
behind_cast_in Or = 23
behind_cast_in And = 24
behind_cast_in Comparison = 25
behind_cast_in BitOr = 26
behind_cast_in BitXor = 27
behind_cast_in BitAnd = 28
behind_cast_in Shift = 29
behind_cast_in Sum = 30
behind_cast_in Product = 31

abbrev pub behind_cast : ℕ
behind_cast = 13

abbrev pub closing : ℕ
closing = 0

-- the numbers for which an operator of a level is there that begins as generic arguments do, and for which another is
abbrev pub up_from : Level → List ℕ
up_from level = fresh ∷ map behind (from level)

abbrev pub all_from : Level → List ℕ
all_from level = behind_cast ∷ (map behind_cast_in (from level) ++ up_from level)

-- Turns of operators: those between two operands; `as`; a range with its end; an assignment; and those whose right
-- operand takes in what follows.
abbrev pub binary : Bool → Level → Part
binary forbid level = turn (all_from level) BIN_EXPR (operator level ⊳ c (Closed forbid level)) (behind level)

abbrev pub where_angled : List Part → (Part → Part) → Part
where_angled [] f = λ r. r
where_angled (a ∷ more) f = f a

abbrev pub angled : Bool → Level → Part
angled forbid level =
    where_angled (angled_operators level)
    (λ a. turn (up_from level) BIN_EXPR (a ⊳ c (Closed forbid level)) (behind level))

abbrev pub binary_cast : Bool → Level → Part
binary_cast forbid level =
    turn (all_from level) BIN_EXPR (operator level ⊳ c (WithCast forbid level)) (behind_cast_in level)

abbrev pub angled_cast : Bool → Level → Part
angled_cast forbid level =
    where_angled (angled_operators level)
    (λ a. turn (up_from level) BIN_EXPR (a ⊳ c (WithCast forbid level)) (behind_cast_in level))

abbrev pub each_level : (Level → Part) → List Level → Part
each_level f [] = λ r. r
each_level f (level ∷ more) = f level ⊳ each_level f more

abbrev pub closed_turns : Bool → List Level → Part
closed_turns forbid ls = each_level (binary forbid) ls ⊳ each_level (angled forbid) ls

abbrev pub cast_turns : Bool → List Level → Part
cast_turns forbid ls =
    turn (fresh ∷ behind_cast ∷ []) CAST_EXPR (t AS_KW ⊳ c CastTy) behind_cast ⊳ closed_turns forbid ls ⊳
    each_level (binary_cast forbid) ls ⊳ each_level (angled_cast forbid) ls

-- the end of a range; where no record literal may stand, it does not begin with a `{`
abbrev pub no_brace : Bool → Part
no_brace true = guard (next_is L_CURLY)
no_brace false = λ r. r

abbrev pub range_with_end : Bool → Part
range_with_end forbid = either (op DOT2) (op DOT2EQ) ⊳ no_brace forbid ⊳ c (RangeEnd forbid)

abbrev pub range_turn : Bool → Part
range_turn forbid = turn (all_from Or) RANGE_EXPR (range_with_end forbid) closing

-- a cast to any type, behind which nothing comes
abbrev pub last_cast : Part
last_cast = turn (fresh ∷ behind_cast ∷ []) CAST_EXPR (t AS_KW ⊳ c LastCastTy) closing

abbrev pub and_open : Part
and_open = turn (all_from And) BIN_EXPR (op AMP2 ⊳ c OpenAnd) closing

-- a `let` at the right of an operator, in a condition
abbrev pub and_let : Bool → Part
and_let forbid = turn (all_from And) BIN_EXPR (op AMP2 ⊳ c (Let forbid)) (behind_cast_in And)

abbrev pub or_open : Part
or_open = turn (all_from Or) BIN_EXPR (op PIPE2 ⊳ c OpenOr) closing

-- an assignment, of what this category has
abbrev pub assign_turns : Category → Part
assign_turns category =
    turn (all_from Or) BIN_EXPR (assignment ⊳ c category) closing ⊳
    turn (up_from Or) BIN_EXPR (angled_assignment ⊳ c category) closing

abbrev pub all_turns : Part
all_turns = cast_turns false levels ⊳ range_turn false ⊳ and_open ⊳ or_open ⊳ assign_turns Expr ⊳ last_cast
