use Rattle.std.proofs.Common.{arith}
use Rattle.std.proofs.lemmas.List.{take_rest}
use Rattle.rap_lexer.proofs.PlainNumbers.{run_behind}
use Rattle.rap_lexer.proofs.lexer.plain.digits_of_base.Goals as goal

pub returns-clause-digits : goal.returns-clause-digits
returns-clause-digits c =
    let bytes = c.args.bytes.now in
    let run = rw (take_rest bytes 2) at c.byte_run.ensures.run in
    let within = rw (take_rest bytes 2) at c.byte_run.ensures.within in
    run_behind c.args.class bytes c.byte_run.result (omega (arith, c.if-bytes-lt3.false)) run within
