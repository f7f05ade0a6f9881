use Rattle.rap_c.proofs.Shown.{at_messages}
use Rattle.rap_c.proofs.given.step_of.Goals as goal

pub returns-in-2 : goal.returns-in-2
returns-in-2 c = at_messages c.args.messages.now c.args.step.now c.token_step.result c.token_step.ensures

pub returns-in-4 : goal.returns-in-4
returns-in-4 c = at_messages c.args.messages.now c.args.step.now c.split_step.result c.split_step.ensures
