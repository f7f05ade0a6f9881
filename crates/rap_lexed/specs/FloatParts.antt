-- The float of a field access, taken apart: what stands of it inside the node that it ends, and what after that node.
use Rattle.std.specs.Prelude.{ℕ, ◌-◌, List, Bool, true, false, ◌==◌, nat_lt, if◌then◌else◌, length, take, codes}
use Rattle.std.specs.List.{position_or_len, before_first, after_first}
use Rattle.std.specs.Str.{byte}
use Rattle.rap_base.specs.TokenKind.{DOT, ERROR, FLOAT_NUMBER, INT_NUMBER}
use Rattle.rap_base.specs.NodeKind.{NAME_REF}
use Rattle.rap_lexed.specs.StrForest.{StrForest, str_none, str_node, str_leaf, str_message}

abbrev pub is_dot : ℕ → Bool
is_dot b = b == byte "."

-- there is a dot in the text
abbrev pub has_dot : List ℕ → Bool
has_dot text = nat_lt (position_or_len is_dot text) (length text)

-- the text without its last byte, the dot at its end
abbrev pub without_dot : List ℕ → List ℕ
without_dot text = take (length text - 1) text

-- what is reported about a float without a dot
abbrev pub illegal : List ℕ
illegal = codes "illegal float literal"

-- a number as the name of a field, after a forest
abbrev pub with_number : StrForest → List ℕ → StrForest
with_number f number = str_node f NAME_REF (str_leaf str_none INT_NUMBER number)

-- Inside the node, after what stands there: the number before the dot. A float without a dot is no field, and that is
-- reported where it begins.
abbrev pub float_in : Bool → List ℕ → ℕ → StrForest → StrForest
float_in true text pos f = with_number f (without_dot text)
float_in false text pos f =
    if has_dot text then with_number f (before_first is_dot text)
    else str_node (str_message f illegal pos) ERROR (str_leaf str_none FLOAT_NUMBER text)

-- after the node: the dot, and the number after it
abbrev pub float_out : Bool → List ℕ → StrForest → StrForest
float_out true text f = str_leaf f DOT (codes ".")
float_out false text f = if has_dot text then with_number (str_leaf f DOT (codes ".")) (after_first is_dot text) else f
