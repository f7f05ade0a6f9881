-- Forests whose places follow one another.
-- (Used in contracts between internal functions only; no public contract rests on it.)
use Rattle.std.specs.Prelude.{◌≡◌, ℕ, ◌≤◌}
use Rattle.rap_ranged.specs.RangedForest.{RangedForest, ranged_none, ranged_node, ranged_leaf}

-- each node and leaf begins where the one before it ends, from one place to another, and so does what stands in a node
abbrev pub InRow : ℕ → RangedForest → ℕ → Type 0
InRow from ranged_none to = from ≡ to
InRow from (ranged_node before kind start end children) to = InRow from before start × InRow start children end × (end ≡ to)
InRow from (ranged_leaf before kind start end) to = InRow from before start × (start ≤ end) × (end ≡ to)
