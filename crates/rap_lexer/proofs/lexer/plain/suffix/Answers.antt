use Rattle.std.proofs.Common.{◌≡◌, ◌≤◌, ℕ, List, true, false, length, sym, arith, ◌∙◌}
use Rattle.std.proofs.lemmas.List.{take_rest}
use Rattle.rap_lexer.specs.Class.{is_ascii_in}
use Rattle.rap_lexer.specs.Common.{next_fits}
use Rattle.rap_lexer.specs.Plain.{begins_suffix}
use Rattle.rap_lexer.specs.Run.{run_of}
use Rattle.rap_lexer.specs.declared.lexer.run.Class.TheVariants.{IdentContinue}
use Rattle.rap_lexer.proofs.PlainNumbers.{past_first, suffix_tells, suffix_leaves}
use Rattle.rap_lexer.proofs.Runs.{run_within}
use Rattle.rap_lexer.proofs.lexer.plain.suffix.Goals as goal

within : (bytes : List ℕ) (n : ℕ) → n ≡ length (run_of (is_ascii_in IdentContinue) bytes) → n ≤ length bytes
within bytes n e = omega (arith, e, run_within (is_ascii_in IdentContinue) bytes)

pub returns-then-is_past_ascii-clause-suffix : goal.returns-then-is_past_ascii-clause-suffix
returns-then-is_past_ascii-clause-suffix c = past_first c.args.bytes.now (sym c.has_suffix.ensures ∙ c.if-not-has_suffix.false) (sym c.is_past_ascii.ensures ∙ c.if-is_past_ascii.true)

pub slice_bounds-is_past_ascii-count : goal.slice_bounds-is_past_ascii-count
slice_bounds-is_past_ascii-count c = within c.args.bytes.now c.word_run-n.result c.word_run-n.ensures

pub slice_bounds-is_past_ascii-start : goal.slice_bounds-is_past_ascii-start
slice_bounds-is_past_ascii-start c = within c.args.bytes.now c.word_run-n.result c.word_run-n.ensures

pub returns-then-is_past_ascii-2-clause-suffix : goal.returns-then-is_past_ascii-2-clause-suffix
returns-then-is_past_ascii-2-clause-suffix c =
    let bytes = c.args.bytes.now in
    let n = c.word_run-n.result in
    let begins : next_fits begins_suffix bytes ≡ true = sym c.has_suffix.ensures ∙ c.if-not-has_suffix.false in
    let past = rw (take_rest bytes n) at c.is_past_ascii-2.ensures in
    suffix_tells bytes n true begins c.word_run-n.ensures (sym past ∙ c.if-is_past_ascii-2.true)

pub returns-else-is_past_ascii-2-clause-suffix : goal.returns-else-is_past_ascii-2-clause-suffix
returns-else-is_past_ascii-2-clause-suffix c =
    let bytes = c.args.bytes.now in
    let begins : next_fits begins_suffix bytes ≡ true = sym c.has_suffix.ensures ∙ c.if-not-has_suffix.false in
    suffix_leaves bytes c.word_run-n.result begins c.word_run-n.ensures (within c.args.bytes.now c.word_run-n.result c.word_run-n.ensures)

pub returns-else-is_past_ascii-2-clause-plain : goal.returns-else-is_past_ascii-2-clause-plain
returns-else-is_past_ascii-2-clause-plain c =
    let bytes = c.args.bytes.now in
    let n = c.word_run-n.result in
    let begins : next_fits begins_suffix bytes ≡ true = sym c.has_suffix.ensures ∙ c.if-not-has_suffix.false in
    let past = rw (take_rest bytes n) at c.is_past_ascii-2.ensures in
    suffix_tells bytes n false begins c.word_run-n.ensures (sym past ∙ c.if-is_past_ascii-2.false)
