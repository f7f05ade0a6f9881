use Rattle.std.proofs.Common.{◌≡◌, ap, arith, length}
use Rattle.std.specs.Prelude.{IsTrue}
use Rattle.std.proofs.lemmas.Result.{IfOk-weaker}
use Rattle.rap_events.specs.Forest.{Forest}
use Rattle.rap_grammar_table.specs.Tops.{MakesRow, file_row}
use Rattle.rap_core.specs.Derived.{IsDerived}
use Rattle.rap_core.proofs.Derivations.{derived}
use Rattle.rap_core.proofs.derived.is_parsed_derived.Goals as goal

pub returns : goal.returns
returns c =
    let parsed = c.args.parsed.now in
    let quiet : length parsed.lexed.errors ≡ 0 = omega (arith, c.len.ensures, c.if-len-gt0.false, ap length c.errors.ensures) in
    IfOk-weaker c.is_found.result
    (λ b. IsTrue b → (forest : Forest) × MakesRow file_row c.in_ok-input.input forest)
    (λ b. IsTrue b → IsDerived c.args.text.now c.args.edition)
    (λ b found yes. derived c.args.text.now c.args.edition parsed.lexed parsed.output c.in_ok-input.input c.requires
    c.in_ok-input.ensures.records (found yes) quiet)
    c.is_found.ensures
