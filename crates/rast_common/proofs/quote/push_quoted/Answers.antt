use Rattle.std.proofs.Common.{◌≡◌, chars, append_assoc, arith}
use Rattle.std.proofs.lemmas.Iterator.{YieldsList-from_chars}
use Rattle.std.proofs.lemmas.Iterator.Consumers.{YieldsList-end}
use Rattle.std.proofs.lemmas.Grind.{common_steps}
use Rattle.rast_common.proofs.quote.push_quoted.Goals as goal

pub returns : goal.returns
returns c =
    let t = YieldsList-end (YieldsList-from_chars c.args.text.now c.utf8.text cc) c.loop-c.yielded _ c.loop-c.yielded_by _ _ c.in-None.is c.next.ensures.steps in
    let same : c.loop-c.yielded ≡ chars c.args.text.now = grind (arith, common_steps, t.0) in
    rw (c.in_ok-push_str-2.ensures.bytes, c.loop-c.invariant, same) (simp append_assoc)
