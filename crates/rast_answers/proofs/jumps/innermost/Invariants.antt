use Rattle.std.proofs.Common.{◌≡◌, string_bytes}
use Rattle.rast_answers.specs.Jumps.{innermost, is_around, stops}
use Rattle.rast_answers.specs.Kinds.{after_at}
use Rattle.rast_answers.specs.Rows.{last_below}
use Rattle.rast_answers.proofs.jumps.innermost.Given as goal

abbrev pub invariant-nodes : goal.invariant-nodes
invariant-nodes l =
    innermost l.elements (stops (string_bytes l.document.text) l.elements l.aim) l.index
    ≡ last_below (is_around (after_at l.elements) (stops (string_bytes l.document.text) l.elements l.aim) l.index) l.node

abbrev pub decreases-nodes : goal.decreases-nodes
decreases-nodes l = l.node
