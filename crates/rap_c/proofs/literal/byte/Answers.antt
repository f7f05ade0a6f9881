use Rattle.std.proofs.Common.{◌∙◌, ap, ℕ}
use Rattle.rap_c.specs.Literal.{is_single, no_float}
use Rattle.rap_c.specs.declared.literal.RapNumber.{RapNumber}
use Rattle.rap_c.proofs.literal.byte.Goals as goal

pub returns-in-Some : goal.returns-in-Some
returns-in-Some c =
    let start = c.single_of.result.suffix in
    let given : ℕ → RapNumber = λ n. record { status = 0; radix = 0; low = n; high = 0; real = no_float; suffix = start } in
    is_single c.in-Some.value start c.in-Some.ensures c.single_of.ensures.suffix (c.single_of.ensures.value ∙ ap given c.from.ensures)
