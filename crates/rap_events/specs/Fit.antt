-- What is asked of the children of binary expressions and of token trees in outputs without messages.
use Rattle.std.specs.Prelude.{◌≡◌, ◌≢◌, ℕ, ◌<◌, ◌≤◌, Bool, true, false, ◌==◌, ◌||◌, if◌then◌else◌, not}
use Rattle.rap_base.specs.TokenKind.{L_PAREN, R_PAREN, L_BRACK, R_BRACK, R_CURLY}
use Rattle.rap_base.specs.TokenTests.{is_l_delimiter, is_delimiter}
use Rattle.rap_base.specs.NodeKind.{BIN_EXPR, TOKEN_TREE}
use Rattle.rap_events.specs.Forest.{Forest, none, node, leaf, message, split}
use Rattle.rap_events.specs.Machine.{Stack, floor, push, Config}
use Rattle.rap_events.specs.Power.{power, operator, open_ended}

-- A node, an operator and a node. A binary expression on the right binds tighter, unless this is an assignment. One
-- on the left binds at least as tightly and is no assignment, unless it ends in the dots of a range.
pub record Binds (f : Forest) : Type 0 where
  pub left_kind : ℕ
  pub left : Forest
  pub op : ℕ
  pub width : ℕ
  pub right_kind : ℕ
  pub right : Forest
  pub shape : f ≡ node (leaf (node none left_kind left) op width) right_kind right
  pub is_operator : 0 < power op
  pub is_no_range : power op ≢ 2
  pub is_no_cast : power op < 12
  pub right_side : right_kind ≡ BIN_EXPR → power op ≢ 1 → power op < power (operator right)
  pub left_side : left_kind ≡ BIN_EXPR → open_ended left ≡ false →
      (power op ≤ power (operator left)) × (power (operator left) ≢ 1)

-- the bracket that closes an opening one
abbrev pub partner : ℕ → ℕ
partner kind = if kind == L_PAREN then R_PAREN else (if kind == L_BRACK then R_BRACK else R_CURLY)

-- an opening bracket, then tokens that are no brackets, and token trees
pub data Opens : ℕ → Forest → Type 0 where
  begin : {k : ℕ} → is_l_delimiter k ≡ true → Opens k (leaf none k 1)
  token : {k j : ℕ} {f : Forest} → Opens k f → is_delimiter j ≡ false → Opens k (leaf f j 1)
  tree : {k : ℕ} {f x : Forest} → Opens k f → Opens k (node f TOKEN_TREE x)

-- the same, and the bracket's partner
pub record Bracketed (f : Forest) : Type 0 where
  pub bracket : ℕ
  pub inner : Forest
  pub opens : Opens bracket inner
  pub closes : f ≡ leaf inner (partner bracket) 1

-- what is asked of the children of a node
pub record Fit (kind : ℕ) (children : Forest) : Type 0 where
  pub operation : kind ≡ BIN_EXPR → Binds children
  pub tree : kind ≡ TOKEN_TREE → Bracketed children

-- whether nothing is asked of nodes of this kind
abbrev pub is_plain : ℕ → Bool
is_plain kind = not ((kind == BIN_EXPR) || (kind == TOKEN_TREE))

-- every node, however deep, has fit children
abbrev pub AllFitIn : Forest → Type 0
AllFitIn none = Unit {0}
AllFitIn (node before kind children) = AllFitIn before × AllFitIn children × Fit kind children
AllFitIn (leaf before kind width) = AllFitIn before
AllFitIn (message before bytes) = AllFitIn before
AllFitIn (split before ends_in_dot) = AllFitIn before

abbrev pub StackFit : Stack → Type 0
StackFit floor = Unit {0}
StackFit (push below marker forest) = StackFit below × AllFitIn forest

-- the same of all that a history has made so far
abbrev pub AllFit : Config → Type 0
AllFit c = StackFit c.below × AllFitIn c.forest
