use Rattle.std.proofs.Common.{◌∙◌, refl}
use Rattle.rap_c.specs.Listed.{rooms_of}
use Rattle.rap_c.proofs.Wholes.{nodes_filled, waits_in}
use Rattle.rap_c.proofs.nodes.fill_nodes.Goals as goal

pub fill_list-requires-clause-waits : goal.fill_list-requires-clause-waits
fill_list-requires-clause-waits c =
    waits_in c.args.text.now c.args.edition c.args.entry c.in_ok-whole.whole.lexed c.in_ok-whole.whole.output c.as_slice.result.now c.in_ok-whole.ensures.parsed c.in_ok-whole.ensures.joined
    c.len-count.ensures.tokens (c.as_slice.ensures.value ∙ c.in-Ok.ensures.reports)

pub returns-clause-filled : goal.returns-clause-filled
returns-clause-filled c =
    nodes_filled c.args.text.now c.args.edition c.args.entry c.in_ok-whole.whole.lexed c.in_ok-whole.whole.output c.as_slice.result.now _ (rooms_of c.args.elements.now c.args.messages.now c.args.bytes.now) _ _
    c.in_ok-whole.ensures.parsed c.in_ok-whole.ensures.joined (c.as_slice.ensures.value ∙ c.in-Ok.ensures.reports) refl c.fill_list.ensures
