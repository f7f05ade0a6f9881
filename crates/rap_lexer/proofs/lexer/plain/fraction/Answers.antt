use Rattle.std.proofs.Common.{◌≡◌, true, sym, ◌∙◌}
use Rattle.std.proofs.lemmas.List.{take_rest}
use Rattle.rap_lexer.specs.Class.{is_ascii_in}
use Rattle.rap_lexer.specs.Common.{next_fits}
use Rattle.rap_lexer.specs.Run.{after_run}
use Rattle.rap_lexer.specs.declared.lexer.run.Class.TheVariants.{Digit, DigitOrUnderscore}
use Rattle.rap_lexer.proofs.PlainNumbers.{leaves_more, run_leaves, run_rest}
use Rattle.rap_lexer.proofs.lexer.plain.fraction.Goals as goal

pub returns-in_err-end-clause-fraction : goal.returns-in_err-end-clause-fraction
returns-in_err-end-clause-fraction c =
    let bytes = c.args.bytes.now in
    let n = c.byte_run-digits.result in
    let rest = run_rest DigitOrUnderscore bytes n c.byte_run-digits.ensures.run in
    let none = rw (take_rest bytes n, rest) at c.in_err-end.ensures.end in
    let digit : next_fits (is_ascii_in Digit) bytes ≡ true = sym c.begins_with.ensures ∙ c.if-not-begins_with.false in
    rw (c.from_residual.ensures, digit) none

pub returns-clause-fraction : goal.returns-clause-fraction
returns-clause-fraction c =
    let bytes = c.args.bytes.now in
    let n = c.byte_run-digits.result in
    let rest = run_rest DigitOrUnderscore bytes n c.byte_run-digits.ensures.run in
    let end = rw (take_rest bytes n, rest) at c.in_ok-end.ensures.end in
    let digit : next_fits (is_ascii_in Digit) bytes ≡ true = sym c.begins_with.ensures ∙ c.if-not-begins_with.false in
    rw digit (leaves_more bytes (after_run (is_ascii_in DigitOrUnderscore) bytes) _ n c.in_ok-end.end.len (run_leaves DigitOrUnderscore bytes n c.byte_run-digits.ensures.run c.byte_run-digits.ensures.within) end)

pub returns-clause-plain : goal.returns-clause-plain
returns-clause-plain c =
    let bytes = c.args.bytes.now in
    let n = c.byte_run-digits.result in
    let rest = run_rest DigitOrUnderscore bytes n c.byte_run-digits.ensures.run in
    let some = rw (take_rest bytes n, rest) at c.in_ok-end.ensures.plain in
    let digit : next_fits (is_ascii_in Digit) bytes ≡ true = sym c.begins_with.ensures ∙ c.if-not-begins_with.false in
    rw digit some
