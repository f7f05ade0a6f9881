use Rattle.std.proofs.Common.{◌≡◌, false, sym, ◌∙◌}
use Rattle.rap_lexer.specs.Plain.{is_based, is_binary}
use Rattle.rap_lexer.specs.declared.lexer.run.Class.TheVariants.{DigitOrUnderscore}
use Rattle.rap_lexer.proofs.PlainNumbers.{run_leaves}
use Rattle.rap_lexer.proofs.lexer.plain.first_digits.Goals as goal

pub returns-else-is_binary-clause-digits : goal.returns-else-is_binary-clause-digits
returns-else-is_binary-clause-digits c =
    let bytes = c.args.bytes.now in
    let x : is_based 120 bytes ≡ false = sym c.is_based.ensures ∙ c.if-is_based.false in
    let b : is_binary bytes ≡ false = sym c.is_binary.ensures ∙ c.if-is_binary.false in
    rw (x, b) (run_leaves DigitOrUnderscore bytes c.byte_run.result c.byte_run.ensures.run c.byte_run.ensures.within)
