use Rattle.rap_literals.proofs.Literals.{no_string, string_outcome}
use Rattle.rap_literals.specs.Literal.StringLiteral.{raw}
use Rattle.rap_literals.proofs.strings.bytes_value.Goals as goal

pub returns-in-None : goal.returns-in-None
returns-in-None c = no_string c.args.mode c.args.text.now c.in-None.ensures

pub returns-in-Ok : goal.returns-in-Ok
returns-in-Ok c = rw (c.in-Ok.ensures.items, c.as_bytes.ensures.value) (raw _ _ (rw c.in-Raw.is at c.in-Some.ensures))

pub returns-in-Escaped : goal.returns-in-Escaped
returns-in-Escaped c = string_outcome c.args.mode c.args.text.now (λ v. v.items) _ _ c.requires (rw c.in-Escaped.is at c.in-Some.ensures) c.bytes_of.result c.bytes_of.ensures
