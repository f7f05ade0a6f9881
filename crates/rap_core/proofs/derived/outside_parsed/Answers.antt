use Rattle.std.proofs.Common.{ap, arith, length}
use Rattle.rap_core.proofs.Derivations.{derived}
use Rattle.rap_core.proofs.derived.outside_parsed.Goals as goal

pub returns-then-messages-eq0 : goal.returns-then-messages-eq0
returns-then-messages-eq0 c =
    derived c.args.text.now c.args.edition c.args.parsed.now.lexed c.args.parsed.now.output c.in_ok-input.input c.requires c.in_ok-input.ensures.records (c.in_ok-found.ensures c.if-found.true)
    (omega (arith, c.len-messages.ensures, c.if-messages-eq0.true, ap length c.errors.ensures))
