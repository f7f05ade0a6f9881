use Rattle.std.proofs.Common.{◌-◌, ◌∙◌, ap, arith}
use Rattle.rap_c.specs.Lays.{ends_at}
use Rattle.rap_c.proofs.Noted.{ends_done, ends_on}
use Rattle.rap_c.proofs.message_room.end_messages.Goals as goal

pub messages-preserved : goal.messages-preserved
messages-preserved c =
    ends_on c.messages.i c.min-limit.result c.args.end c.messages.messages (record { at = 0; start = 0; end = 0; text_start = 0; text_end = 0 }) _ (omega arith) (omega arith) c.messages.invariant

pub returns : goal.returns
returns c =
    ends_done c.messages.i c.min-limit.result c.args.end _ _ (omega arith) c.messages.invariant
    ∙ ap (λ n. ends_at c.args.first (n - c.args.first) c.args.end c.args.messages.now) c.min-limit.ensures
