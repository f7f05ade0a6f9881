use Rattle.rap_literals.proofs.Cuts.{plain_or_not}
use Rattle.rap_literals.proofs.cut.is_plain.Goals as goal

pub returns-in-Some : goal.returns-in-Some
returns-in-Some c = plain_or_not c.args.kind c.args.text.now c.in-Some.token c.in-Some.ensures c.is_quiet.result c.is_quiet.ensures
