use Rattle.std.proofs.Common.{◌≡◌, ◌∙◌, ap, subst, List, ℕ, length}
use Rattle.rap_c.specs.Filling.{overwritten}
use Rattle.rap_c.specs.Literal.{StandsFor, a_string}
use Rattle.rap_c.specs.declared.literal.RapString.{RapString}
use Rattle.rap_c.proofs.literal.rap_string_value.Goals as goal

pub returns-in-Ok-Some : goal.returns-in-Ok-Some
returns-in-Ok-Some c =
    let bytes = c.in-Ok-Some.bytes.items in
    let given : ℕ → RapString = λ n. record { status = 0; bytes = n } in
    a_string bytes c.in-Ok.ensures.1
    (subst (λ (text : List ℕ). StandsFor c.args.kind text bytes) c.in-Ok.ensures.0
    (rw c.in-Ok-Some.field-0-is at c.in-Ok-Some.ensures))
    (c.put_bytes.ensures ∙ ap (λ (new : List ℕ). overwritten c.args.value.now new) c.as_slice-given.ensures.value)
    (ap (λ (l : List ℕ). given (length l)) c.as_slice-given.ensures.value)
