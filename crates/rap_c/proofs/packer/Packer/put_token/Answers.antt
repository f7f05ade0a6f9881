use Rattle.rap_c.proofs.Packed.{short_token, long_token}
use Rattle.rap_c.proofs.packer.Packer.put_token.Goals as goal

pub returns-then-bytes-lt-LONG : goal.returns-then-bytes-lt-LONG
returns-then-bytes-lt-LONG c = short_token c.args.kind c.args.bytes _ _ c.if-bytes-lt-LONG.true (rw c.word.ensures at c.put.ensures)

pub returns-else-bytes-lt-LONG : goal.returns-else-bytes-lt-LONG
returns-else-bytes-lt-LONG c =
    long_token c.args.kind c.args.bytes _ _ _ c.if-bytes-lt-LONG.false (rw c.word-else-bytes-lt-LONG.ensures at c.put-else-bytes-lt-LONG.ensures) (rw c.narrow.ensures at c.put-else-bytes-lt-LONG-2.ensures)
