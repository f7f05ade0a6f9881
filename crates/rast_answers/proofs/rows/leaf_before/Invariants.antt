use Rattle.std.proofs.Common.{◌≡◌}
use Rattle.rast_answers.specs.Gaps.{leaf_before}
use Rattle.rast_answers.proofs.rows.leaf_before.Given as goal

abbrev pub invariant-leaves : goal.invariant-leaves
invariant-leaves l = leaf_before l.elements l.before ≡ leaf_before l.elements l.index

abbrev pub decreases-leaves : goal.decreases-leaves
decreases-leaves l = l.index
