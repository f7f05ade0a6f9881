use Rattle.std.proofs.Common.{◌≡◌}
use Rattle.rast_answers.specs.Brackets.{is_leaf_in, last_in}
use Rattle.rast_answers.specs.Rows.{last_below}
use Rattle.rast_answers.proofs.brackets.last_in.Given as goal

abbrev pub invariant-leaves : goal.invariant-leaves
invariant-leaves l = last_in l.elements l.node l.kind ≡ last_below (is_leaf_in l.elements l.node l.kind) l.index

abbrev pub decreases-leaves : goal.decreases-leaves
decreases-leaves l = l.index
