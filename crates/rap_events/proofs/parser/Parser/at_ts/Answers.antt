use Rattle.rap_events.specs.State.{state}
use Rattle.rap_events.proofs.Records.{next_is_token}
use Rattle.rap_events.proofs.parser.Parser.at_ts.Goals as goal

pub contains-requires : goal.contains-requires
unfolding state
contains-requires c =
    let p = c.args.self.now in
    rw c.current.ensures.kind (next_is_token p.input.now p.pos p.tokens)
