-- How tightly operators bind.
use Rattle.std.specs.Prelude.{ℕ, Bool, false, ◌==◌, ◌||◌, if◌then◌else◌, List, [], ◌∷◌, Option, Some, None}
use Rattle.rap_base.specs.TokenKind.{EOF, DOT2, DOT2EQ, FLOAT_NUMBER}
use Rattle.rap_events.specs.OperatorTable.{powers}
use Rattle.rap_events.specs.Forest.{Forest, none, node, leaf, message, split}

abbrev pub power_in : List (ℕ × ℕ) → ℕ → ℕ
power_in [] kind = 0
power_in (row ∷ rows) kind = if row.0 == kind then row.1 else power_in rows kind

-- an operator's power, or 0 where the kind is no operator
abbrev pub power : ℕ → ℕ
power kind = power_in powers kind

-- the kind of the last thing, if that is a leaf, or the end
abbrev pub leaf_kind : Forest → ℕ
leaf_kind none = EOF
leaf_kind (node before kind children) = EOF
leaf_kind (leaf before kind width) = kind
leaf_kind (message before bytes) = EOF
leaf_kind (split before ends_in_dot) = EOF

-- the operator of a binary expression over these children
abbrev pub operator : Forest → ℕ
operator none = EOF
operator (node before kind children) = leaf_kind before
operator (leaf before kind width) = EOF
operator (message before bytes) = EOF
operator (split before ends_in_dot) = EOF

abbrev pub or_else : Option ℕ → Option ℕ → Option ℕ
or_else (Some kind) o = Some kind
or_else None o = o

-- the kind of the last leaf, however deep
abbrev pub last_leaf : Forest → Option ℕ
last_leaf none = None
last_leaf (node before kind children) = or_else (last_leaf children) (last_leaf before)
last_leaf (leaf before kind width) = Some kind
last_leaf (message before bytes) = last_leaf before
last_leaf (split before ends_in_dot) = Some FLOAT_NUMBER

abbrev pub is_dots : Option ℕ → Bool
is_dots None = false
is_dots (Some kind) = (kind == DOT2) || (kind == DOT2EQ)

-- whether the last leaf is the dots of a range
abbrev pub open_ended : Forest → Bool
open_ended f = is_dots (last_leaf f)
