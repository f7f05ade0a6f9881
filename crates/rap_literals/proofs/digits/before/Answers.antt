use Rattle.rap_literals.proofs.Numbers.{seam}
use Rattle.rap_literals.proofs.digits.before.Goals as goal

pub range-requires-clause-end_boundary : goal.range-requires-clause-end_boundary
range-requires-clause-end_boundary c = seam c.args.text.now c.args.rest.now c.requires c.utf8.rest
