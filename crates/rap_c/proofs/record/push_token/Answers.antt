use Rattle.std.proofs.Common.{rules, ap, ◌∙◌}
use Rattle.rap_events.specs.Record.{with_last_joint}
use Rattle.rap_c.proofs.Rows.{marked}
use Rattle.rap_c.proofs.record.push_token.Goals as goal

pub returns-then-token : goal.returns-then-token
returns-then-token c = c.was_joint.ensures ∙ (ap with_last_joint c.in_ok-push_ident.ensures.ok ∙ marked c.args.input.now c.args.token (search rules) c.if-token.true)
