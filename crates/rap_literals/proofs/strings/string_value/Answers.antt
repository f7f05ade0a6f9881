use Rattle.std.proofs.Common.{refl, string_bytes}
use Rattle.rap_lexer.specs.declared.escape.Mode.TheVariants.{Str}
use Rattle.rap_literals.proofs.Literals.{no_string, string_outcome}
use Rattle.rap_literals.specs.Literal.StringLiteral.{raw}
use Rattle.rap_literals.proofs.strings.string_value.Goals as goal

pub returns-in-None : goal.returns-in-None
returns-in-None c = no_string Str c.args.text.now c.in-None.ensures

pub returns-in-Ok : goal.returns-in-Ok
returns-in-Ok c = rw c.in-Ok.ensures.ok (raw _ _ (rw c.in-Raw.is at c.in-Some.ensures))

pub returns-in-Escaped : goal.returns-in-Escaped
returns-in-Escaped c = string_outcome Str c.args.text.now string_bytes _ _ refl (rw c.in-Escaped.is at c.in-Some.ensures) c.text_of.result c.text_of.ensures
