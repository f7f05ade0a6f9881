use Rattle.std.proofs.Common.{refl}
use Rattle.rap_c.specs.Lays.{message_room}
use Rattle.rap_c.proofs.Noted.{notes_ended}
use Rattle.rap_c.proofs.message_room.MessageCounts.end_last_ranges.Goals as goal

pub returns : goal.returns
returns c = λ bytes. record {
  holds = λ room byte_room n h.
      notes_ended c.args.end (message_room c.args.messages.now bytes c.args.self.now) _ room byte_room n h c.end_messages.ensures refl refl refl refl;
}
