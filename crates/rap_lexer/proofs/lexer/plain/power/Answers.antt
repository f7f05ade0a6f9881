use Rattle.std.proofs.Common.{◌≡◌, true, sym, ◌∙◌}
use Rattle.std.proofs.lemmas.List.{take_rest}
use Rattle.rap_lexer.specs.Class.{is_ascii_in}
use Rattle.rap_lexer.specs.Common.{next_fits}
use Rattle.rap_lexer.specs.Run.{after_run}
use Rattle.rap_lexer.specs.declared.lexer.run.Class.TheVariants.{Digit, DigitOrUnderscore}
use Rattle.rap_lexer.proofs.PlainNumbers.{leaves_more, run_leaves, run_rest}
use Rattle.rap_lexer.proofs.lexer.plain.power.Goals as goal

pub returns-in_err-more-clause-power : goal.returns-in_err-more-clause-power
returns-in_err-more-clause-power c =
    let bytes = c.args.bytes.now in
    let n = c.byte_run-n.result in
    let rest = run_rest DigitOrUnderscore bytes n c.byte_run-n.ensures.run in
    let none = rw (take_rest bytes n, rest) at c.in_err-more.ensures.suffix in
    let digit : next_fits (is_ascii_in Digit) bytes ≡ true = sym c.begins_with.ensures ∙ c.if-not-begins_with.false in
    rw (c.from_residual.ensures, digit) none

pub returns-clause-power : goal.returns-clause-power
returns-clause-power c =
    let bytes = c.args.bytes.now in
    let n = c.byte_run-n.result in
    let rest = run_rest DigitOrUnderscore bytes n c.byte_run-n.ensures.run in
    let more = rw (take_rest bytes n, rest) at c.in_ok-more.ensures.suffix in
    leaves_more bytes (after_run (is_ascii_in DigitOrUnderscore) bytes) _ n c.in_ok-more.more (run_leaves DigitOrUnderscore bytes n c.byte_run-n.ensures.run c.byte_run-n.ensures.within) more

pub returns-clause-plain : goal.returns-clause-plain
returns-clause-plain c =
    let bytes = c.args.bytes.now in
    let n = c.byte_run-n.result in
    let rest = run_rest DigitOrUnderscore bytes n c.byte_run-n.ensures.run in
    let some = rw (take_rest bytes n, rest) at c.in_ok-more.ensures.plain in
    let digit : next_fits (is_ascii_in Digit) bytes ≡ true = sym c.begins_with.ensures ∙ c.if-not-begins_with.false in
    rw digit some
