-- Character boundaries.
use Rattle.std.specs.Prelude.{ℕ, ◌≤◌, List, IsCharBoundary}
use Rattle.rap_ranged.specs.RangedForest.{RangedForest, ranged_none, ranged_node, ranged_leaf}

-- from one character boundary of the text to another that is not before it
pub record IsPlace (text : List ℕ) (start end : ℕ) : Type 0 where
  pub begins : IsCharBoundary text start
  pub ends : IsCharBoundary text end
  pub rising : start ≤ end

-- the range of each node and leaf is of this kind
abbrev pub HavePlaces : List ℕ → RangedForest → Type 0
HavePlaces text ranged_none = Unit {0}
HavePlaces text (ranged_node before kind start end children) =
    HavePlaces text before × IsPlace text start end × HavePlaces text children
HavePlaces text (ranged_leaf before kind start end) = HavePlaces text before × IsPlace text start end
