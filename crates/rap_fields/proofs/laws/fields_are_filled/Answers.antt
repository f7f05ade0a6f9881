use Rattle.rap_fields.proofs.Filled.{fields_filled, nodes_found}
use Rattle.rap_fields.proofs.Finds.{fields_found, placed_found}
use Rattle.rap_fields.proofs.Places.{placed_filled}
use Rattle.rap_fields.proofs.laws.fields_are_filled.Goals as goal

pub returns-clause-filled : goal.returns-clause-filled
returns-clause-filled c = fields_filled

pub returns-clause-placed : goal.returns-clause-placed
returns-clause-placed c = placed_filled

pub returns-clause-found : goal.returns-clause-found
returns-clause-found c = nodes_found

pub returns-clause-rules : goal.returns-clause-rules
returns-clause-rules c = fields_found

pub returns-clause-placed_rules : goal.returns-clause-placed_rules
returns-clause-placed_rules c = placed_found
