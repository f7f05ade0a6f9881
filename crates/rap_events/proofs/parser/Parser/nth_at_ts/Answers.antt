use Rattle.rap_events.specs.State.{state}
use Rattle.rap_events.proofs.Records.{kind_at_is_token}
use Rattle.rap_events.proofs.parser.Parser.nth_at_ts.Goals as goal

pub contains-requires : goal.contains-requires
unfolding state
contains-requires c =
    let p = c.args.self.now in
    rw c.nth.ensures (kind_at_is_token p.input.now p.pos c.args.n p.tokens)
