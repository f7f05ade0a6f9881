use Rattle.rap_c.proofs.Weaving.{not_one, not_over}
use Rattle.rap_c.proofs.weave.fill_weave.Goals as goal

pub returns-then-not-is_one-clause-fault : goal.returns-then-not-is_one-clause-fault
returns-then-not-is_one-clause-fault c =
    not_one c.args.text.now c.args.edition c.args.given.now c.args.given_messages.now c.in_ok-reading.reading.lexed c.in_ok-reading.ensures.lexing c.in_ok-reading.ensures.small
    c.in_ok-tree.tree.items c.as_slice.result.now c.in-Ok.is_one c.as_slice.ensures.value c.in_ok-tree.ensures.steps c.in-Ok.ensures c.if-not-is_one.true

pub returns-in_default-covered-clause-fault : goal.returns-in_default-covered-clause-fault
returns-in_default-covered-clause-fault c =
    not_over c.args.text.now c.args.edition c.args.given.now c.args.given_messages.now c.in_ok-reading.reading.lexed c.in_ok-reading.ensures.lexing c.in_ok-reading.ensures.small
    c.in_ok-tree.tree.items c.as_slice-2.result.now c.in_ok-reading.reading.input c.as_slice-2.ensures.value c.in_ok-reading.ensures.input.0 c.in_ok-tree.ensures.steps c.in_default-covered.ensures
