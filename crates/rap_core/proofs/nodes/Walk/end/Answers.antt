use Rattle.rap_core.proofs.Walks.{ends}
use Rattle.rap_core.proofs.nodes.Walk.end.Goals as goal

pub returns : goal.returns
returns c = λ tree steps a.
    ends tree steps c.args.self.now c.keep.new.self c.in-Some.newest (cc (c.in-Some.ensures.items, c.in_ok-keep.ensures.begun))
    c.in_ok-keep.ensures.tokens c.in_ok-keep.ensures.found a
