use Rattle.std.proofs.Common.{◌≡◌, None}
use Rattle.std.specs.Prelude.{find}
use Rattle.rast_answers.specs.Brackets.{is_leaf_in}
use Rattle.rast_answers.specs.Rows.{indices_to}
use Rattle.rast_answers.proofs.brackets.first_in.Given as goal

abbrev pub invariant-leaves : goal.invariant-leaves
invariant-leaves l = find (is_leaf_in l.elements l.node l.kind) (indices_to l.index) ≡ None
