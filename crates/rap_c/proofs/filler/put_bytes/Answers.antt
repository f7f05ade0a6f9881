use Rattle.std.proofs.Common.{sym, arith}
use Rattle.rap_c.proofs.Written.{put_part, write_at-past}
use Rattle.rap_c.proofs.filler.put_bytes.Goals as goal

pub returns-then-at-room : goal.returns-then-at-room
returns-then-at-room c =
    put_part c.args.room.now c.args.at _ c.args.bytes.now c.copy_from_slice.new.self c.min-count.result (omega (arith, c.if-at-room.true)) c.min-count.ensures (omega arith) c.copy_from_slice.ensures.after

pub returns-else-at-room : goal.returns-else-at-room
returns-else-at-room c = sym (write_at-past c.args.room.now c.args.at c.args.bytes.now c.if-at-room.false)
