use Rattle.std.proofs.Common.{◌≡◌, length}
use Rattle.rap_lexer.specs.Escape.{is_gap}
use Rattle.rap_lexer.specs.Run.{after_run}
use Rattle.rap_literals.proofs.body.skip_gap.Given as goal

abbrev pub invariant-gap : goal.invariant-gap
invariant-gap l = after_run is_gap l.rest ≡ after_run is_gap l.initial.rest

abbrev pub decreases-gap : goal.decreases-gap
decreases-gap l = length l.rest
