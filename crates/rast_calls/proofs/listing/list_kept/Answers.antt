use Rattle.std.proofs.Common.{string_bytes}
use Rattle.rast_calls.proofs.Keeping.{kept}
use Rattle.rast_calls.proofs.listing.list_kept.Goals as goal

pub returns-clause-lists : goal.returns-clause-lists
returns-clause-lists c =
    kept c.args.way c.args.tokens.now c.in_ok-pushed.pushed.count c.len.result c.in_ok-pushed.pushed.input c.in_ok-output.output (string_bytes c.new-lines.result) (string_bytes c.push_kept.new.lines) (string_bytes c.push_steps.new.lines)
    c.in_ok-pushed.ensures.few c.in_ok-pushed.ensures.pushed c.in_ok-output.ensures.made c.len.ensures.len c.new-lines.ensures.bytes c.in_ok-push_kept.ensures c.in_ok-push_steps.ensures
