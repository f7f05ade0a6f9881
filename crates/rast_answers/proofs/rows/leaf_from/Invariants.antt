use Rattle.std.proofs.Common.{◌≡◌, ◌-◌, length}
use Rattle.rast_answers.specs.Gaps.{leaf_from}
use Rattle.rast_answers.proofs.rows.leaf_from.Given as goal

abbrev pub invariant-leaves : goal.invariant-leaves
invariant-leaves l = leaf_from l.elements l.from ≡ leaf_from l.elements l.index

abbrev pub decreases-leaves : goal.decreases-leaves
decreases-leaves l = length l.elements - l.index
