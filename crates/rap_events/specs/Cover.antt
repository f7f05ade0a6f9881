-- The leaves of a forest stand, in order, at the first tokens of an input.
use Rattle.std.specs.Prelude.{ℕ, ◌+◌, List, [], ◌∷◌, ◌++◌, Bool, true, false, ◌&&◌, ◌||◌, ◌==◌, nat_lt, if◌then◌else◌, length, drop, not}
use Rattle.rap_base.specs.TokenKind.{IDENT, FLOAT_NUMBER}
use Rattle.rap_base.specs.Keyword.{is_keyword}
use Rattle.rap_base.specs.declared.edition.Edition.TheVariants.{Edition2024}
use Rattle.rap_events.specs.Record.{Record}
use Rattle.rap_events.specs.Composite.{parts, begins_with}
use Rattle.rap_events.specs.Forest.{Forest, none, node, leaf, message, split}

-- a leaf: one of so many tokens under a kind, or a float that is taken apart, which ends in a dot or not
pub data Leaf : Type 0 where
  of_tokens : ℕ → ℕ → Leaf
  of_float : Bool → Leaf

-- how many tokens it stands for
abbrev pub leaf_width : Leaf → ℕ
leaf_width (of_tokens kind width) = width
leaf_width (of_float ends_in_dot) = 1

abbrev pub leaves : Forest → List Leaf
leaves none = []
leaves (node before kind children) = leaves before ++ leaves children
leaves (leaf before kind width) = leaves before ++ of_tokens kind width ∷ []
leaves (message before bytes) = leaves before
leaves (split before ends_in_dot) = leaves before ++ of_float ends_in_dot ∷ []

-- A token may bear its own kind. An identifier may bear the keyword that it is read as, and a keyword may be
-- read as an identifier.
abbrev pub may_bear : Record → ℕ → Bool
may_bear r kind =
    (r.kind == kind) ||
    (((r.kind == IDENT) && (r.contextual == kind)) || ((kind == IDENT) && is_keyword r.kind Edition2024))

-- the token that comes first may bear the kind
abbrev pub first_may_bear : List Record → ℕ → Bool
first_may_bear [] kind = false
first_may_bear (r ∷ rs) kind = may_bear r kind

-- a float comes first; its joint bit says that it does not end in a dot
abbrev pub first_splits : List Record → Bool → Bool
first_splits [] ends_in_dot = false
first_splits (r ∷ rs) ends_in_dot = (r.kind == FLOAT_NUMBER) && (if r.joint then not ends_in_dot else ends_in_dot)

-- a leaf stands at the first tokens: at one that may bear its kind, at the two or three of its operator, or at its
-- float
abbrev pub stands : Leaf → List Record → Bool
stands (of_tokens kind width) rs =
    if width == 1 then first_may_bear rs kind
    else (nat_lt 0 width && ((length (parts kind) == width) && begins_with (parts kind) rs))
stands (of_float ends_in_dot) rs = first_splits rs ends_in_dot

-- the leaves stand at the first tokens, one after another
abbrev pub stand : List Leaf → List Record → Bool
stand [] rs = true
stand (l ∷ ls) rs = stands l rs && stand ls (drop (leaf_width l) rs)

-- how many tokens the leaves stand for
abbrev pub widths : List Leaf → ℕ
widths [] = 0
widths (l ∷ ls) = leaf_width l + widths ls

-- the forest's leaves stand at the first tokens of the input
abbrev pub covers : List Record → Forest → Bool
covers rs f = stand (leaves f) rs
