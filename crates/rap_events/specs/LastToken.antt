-- The last token that was taken.
-- (What calls promise one another, but for what docs/ARCHITECTURE.md lists as to be believed.)
use Rattle.std.specs.Prelude.{ℕ}
use Rattle.rap_base.specs.TokenKind.{EOF}
use Rattle.rap_events.specs.Forest.{Forest, none, node, leaf, message, split}
use Rattle.rap_events.specs.Machine.{Stack, floor, push}
use Rattle.rap_events.specs.State.{State}

-- under which kind the last token of a forest was taken, or this kind where it has none; the halves of a float are none
abbrev pub last_after : ℕ → Forest → ℕ
last_after k none = k
last_after k (node before kind children) = last_after (last_after k before) children
last_after k (leaf before kind width) = kind
last_after k (message before bytes) = last_after k before
last_after k (split before ends_in_dot) = last_after k before

-- the same of what stands under the older markers, or the end where there is none
abbrev pub last_below : Stack → ℕ
last_below floor = EOF
last_below (push below marker forest) = last_after (last_below below) forest

-- the same of all that a parser took
abbrev pub last_taken : State → ℕ
last_taken s = last_after (last_below s.below) s.forest
