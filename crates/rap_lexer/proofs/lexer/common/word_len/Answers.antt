use Rattle.std.proofs.Common.{◌≡◌, true, get_or, ℕ, sym, subst, arith}
use Rattle.rap_lexer.specs.Class.{is_ascii_in}
use Rattle.rap_lexer.specs.declared.lexer.run.Class.TheVariants.{IdentContinue}
use Rattle.rap_lexer.proofs.CommonClasses.{goes_on}
use Rattle.rap_lexer.proofs.Runs.{run_length}
use Rattle.rap_lexer.proofs.lexer.common.word_len.Goals as goal

pub returns-then-not-is_ascii_in : goal.returns-then-not-is_ascii_in
returns-then-not-is_ascii_in c =
    let bytes = c.args.bytes.now in
    let first : is_ascii_in IdentContinue (get_or bytes 0 0) ≡ true = goes_on (get_or bytes 0 0) (let w = c.type_inv.bytes 0 in omega (arith, w)) c.requires in
    run_length (is_ascii_in IdentContinue) bytes 1 (omega (arith, c.if-bytes-gt1.true))
    (λ k l. subst (λ (i : ℕ). is_ascii_in IdentContinue (get_or bytes i 0) ≡ true) (let z : 0 ≡ k = omega (arith, l) in z) first)
    (λ l. sym (c.if-not-is_ascii_in.ensures))
