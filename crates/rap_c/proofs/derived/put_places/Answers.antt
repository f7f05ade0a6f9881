use Rattle.std.proofs.Common.{ap, ◌∙◌}
use Rattle.std.specs.Prelude.{drop, ◌++◌}
use Rattle.rap_c.proofs.Written.{over}
use Rattle.rap_c.proofs.derived.put_places.Goals as goal

pub returns : goal.returns
returns c =
    ap (λ l. l ++ drop c.min-count.result c.args.room.now) c.copy_from_slice.ensures.after
    ∙ over c.args.room.now c.args.rows.now c.min-count.result c.min-count.ensures
