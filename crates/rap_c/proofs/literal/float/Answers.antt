use Rattle.std.proofs.Common.{◌∙◌, ap, sym, ℕ}
use Rattle.rap_c.specs.Literal.{is_float, is_refused, is_unread}
use Rattle.rap_c.specs.declared.literal.RapNumber.{RapNumber}
use Rattle.rap_c.proofs.literal.float.Goals as goal

pub returns-in-Err : goal.returns-in-Err
returns-in-Err c = is_refused c.in-Some.parts.digits.now c.in-Some.parts.suffix.now c.in-Some.ensures c.no_number-in-Err.ensures

pub returns-in-Ok-None : goal.returns-in-Ok-None
returns-in-Ok-None c =
    is_unread c.in-Some.parts.digits.now c.in-Some.parts.suffix.now c.in-Some.ensures
    (sym c.in-Ok-None.ensures ∙ c.in-Ok-None.field-0-is) c.no_number-in-Ok-None.ensures

pub returns-in-Ok-Some : goal.returns-in-Ok-Some
returns-in-Ok-Some c =
    let given : ℕ → RapNumber =
    λ n. record { status = 0; radix = 10; low = 0; high = 0; real = c.in-Ok-Some.real; suffix = n } in
    is_float c.in-Some.parts.digits.now c.in-Some.parts.suffix.now c.in-Some.ensures
    (sym c.in-Ok-Some.ensures ∙ c.in-Ok-Some.field-0-is) (ap given c.saturating_sub-suffix.ensures)
