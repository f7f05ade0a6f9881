-- Messages with their places in a tree.
use Rattle.std.specs.Prelude.{ℕ, List, Option, Some, None}
use Rattle.rap_ranged.specs.Leaves.{RangedLeaf, leaf_of_byte}
use Rattle.rap_ranged.specs.RangedForest.{RangedForest}
use Rattle.rap_ranged.specs.Reports.{ReportValue}

-- a message: the bytes of its text, its position in bytes, and the bytes at which the leaf there
-- begins and ends
pub record RangedMessage : Type 0 where
  pub text : List ℕ
  pub at : ℕ
  pub start : ℕ
  pub end : ℕ

-- a message at a leaf; after the last leaf its range is empty
abbrev pub ranged_at : ReportValue → Option RangedLeaf → RangedMessage
ranged_at m None = record { text = m.text; at = m.at; start = m.at; end = m.at }
ranged_at m (Some leaf) = record { text = m.text; at = m.at; start = leaf.start; end = leaf.end }

-- a message at the leaf of the forest that has its byte
abbrev pub ranged_message : RangedForest → ReportValue → RangedMessage
ranged_message f m = ranged_at m (leaf_of_byte m.at f)
