use Rattle.std.proofs.Common.{◌≡◌, ◌<◌, ◌+◌, ℕ, true, false, length, drop, sym, ap, ◌∙◌, arith}
use Rattle.rap_lexer.specs.Common.{next_fits}
use Rattle.rap_lexer.specs.PlainLiteral.{is_simple}
use Rattle.rap_lexer.proofs.CommonTokens.{next_at, next_end}
use Rattle.rap_lexer.proofs.PlainStrings.{begun, run_passed, run_ends, closed, closed_is, runs_out, foreign, simply}
use Rattle.rap_lexer.proofs.RestOfStrings.{border_at, first}
use Rattle.rap_lexer.proofs.lexer.literal.string_token.Goals as goal
use Rattle.rap_lexer.proofs.lexer.literal.string_token.Goals.{then-end-bytes-2-via-then-end-bytes-2, then-end-bytes-2-via-else-end-bytes-2+then-not-is_simple}

pub body-init : goal.body-init
body-init c = begun c.args.text.now c.utf8.text c.requires

pub returns-then-end-bytes-clause-token : goal.returns-then-end-bytes-clause-token
returns-then-end-bytes-clause-token c =
    let text = c.args.text.now in
    let at : ℕ = c.body.end + c.string_run-end.result in
    let e = c.as_bytes-bytes.ensures.value in
    let p = run_passed text _ c.body.end c.string_run-end.result e c.body.invariant c.string_run-end.ensures.run in
    first text at c.string_from.result.token _ c.utf8.text c.requires p c.string_from.ensures.token

pub returns-then-end-bytes-clause-test : goal.returns-then-end-bytes-clause-test
returns-then-end-bytes-clause-test c =
    let text = c.args.text.now in
    let at : ℕ = c.body.end + c.string_run-end.result in
    let e = c.as_bytes-bytes.ensures.value in
    let p = run_passed text _ c.body.end c.string_run-end.result e c.body.invariant c.string_run-end.ensures.run in
    c.string_from.ensures.test ∙ sym (runs_out text at c.utf8.text c.requires p (omega (arith, c.if-end-bytes.true, ap length e)))

pub returns-in_default-clause-token : goal.returns-in_default-clause-token
returns-in_default-clause-token c =
    let text = c.args.text.now in
    let at : ℕ = c.body.end + c.string_run-end.result in
    let e = c.as_bytes-bytes.ensures.value in
    let p = run_passed text _ c.body.end c.string_run-end.result e c.body.invariant c.string_run-end.ensures.run in
    first text at c.string_from-in_default.result.token _ c.utf8.text c.requires p c.string_from-in_default.ensures.token

pub returns-in_default-clause-test : goal.returns-in_default-clause-test
returns-in_default-clause-test c =
    let text = c.args.text.now in
    let at : ℕ = c.body.end + c.string_run-end.result in
    let e = c.as_bytes-bytes.ensures.value in
    let p = run_passed text _ c.body.end c.string_run-end.result e c.body.invariant c.string_run-end.ensures.run in
    let inside : at < length text = omega (arith, c.if-end-bytes.false, p.within, ap length e) in
    let mark = c.if-bytes-end-eq34.true in
    let end = c.in_default.ensures in
    c.string_from-in_default.ensures.test ∙ sym (closed_is text at c.utf8.text c.requires p true inside (rw e at mark) (rw e at end))

pub returns-then-bytes-end-eq34-clause-token : goal.returns-then-bytes-end-eq34-clause-token
returns-then-bytes-end-eq34-clause-token c =
    let text = c.args.text.now in
    let at : ℕ = c.body.end + c.string_run-end.result in
    let e = c.as_bytes-bytes.ensures.value in
    let p = run_passed text _ c.body.end c.string_run-end.result e c.body.invariant c.string_run-end.ensures.run in
    let inside : at < length text = omega (arith, c.if-end-bytes.false, p.within, ap length e) in
    let mark = c.if-bytes-end-eq34.true in
    let end = c.in-Some.ensures in
    λ edition. rw (c.literal.ensures, c.in-Some.ensures.0) ((closed text at c.utf8.text c.requires p inside (rw e at mark) ((rw e at end).1)).token edition)

pub returns-then-bytes-end-eq34-clause-test : goal.returns-then-bytes-end-eq34-clause-test
returns-then-bytes-end-eq34-clause-test c =
    let text = c.args.text.now in
    let at : ℕ = c.body.end + c.string_run-end.result in
    let e = c.as_bytes-bytes.ensures.value in
    let p = run_passed text _ c.body.end c.string_run-end.result e c.body.invariant c.string_run-end.ensures.run in
    let inside : at < length text = omega (arith, c.if-end-bytes.false, p.within, ap length e) in
    let mark = c.if-bytes-end-eq34.true in
    let end = c.in-Some.ensures in
    sym (closed_is text at c.utf8.text c.requires p false inside (rw e at mark) ((rw e at end).1))

pub returns-then-bytes-end-eq34-clause-plain : goal.returns-then-bytes-end-eq34-clause-plain
returns-then-bytes-end-eq34-clause-plain c =
    let text = c.args.text.now in
    let at : ℕ = c.body.end + c.string_run-end.result in
    let e = c.as_bytes-bytes.ensures.value in
    let p = run_passed text _ c.body.end c.string_run-end.result e c.body.invariant c.string_run-end.ensures.run in
    let inside : at < length text = omega (arith, c.if-end-bytes.false, p.within, ap length e) in
    let mark = c.if-bytes-end-eq34.true in
    let end = c.in-Some.ensures in
    λ _. rw c.in-Some.ensures.0 (closed text at c.utf8.text c.requires p inside (rw e at mark) ((rw e at end).1))

pub string_from-requires-then-end-bytes-2 : goal.string_from-requires-then-end-bytes-2
string_from-requires-then-end-bytes-2 c =
    let text = c.args.text.now in
    let at : ℕ = c.body.end + c.string_run-end.result in
    let e = c.as_bytes-bytes.ensures.value in
    let p = run_passed text _ c.body.end c.string_run-end.result e c.body.invariant c.string_run-end.ensures.run in
    border_at text at p

pub returns-then-end-bytes-2-clause-token : goal.returns-then-end-bytes-2-clause-token
returns-then-end-bytes-2-clause-token c =
    let text = c.args.text.now in
    let at : ℕ = c.body.end + c.string_run-end.result in
    let e = c.as_bytes-bytes.ensures.value in
    let p = run_passed text _ c.body.end c.string_run-end.result e c.body.invariant c.string_run-end.ensures.run in
    first text at c.string_from-then-end-bytes-2.result.token _ c.utf8.text c.requires p c.string_from-then-end-bytes-2.ensures.token

pub returns-then-end-bytes-2-clause-test : goal.returns-then-end-bytes-2-clause-test
returns-then-end-bytes-2-clause-test c =
    let text = c.args.text.now in
    let at : ℕ = c.body.end + c.string_run-end.result in
    let bytes = c.as_bytes-bytes.result.now in
    let e = c.as_bytes-bytes.ensures.value in
    let p = run_passed text _ c.body.end c.string_run-end.result e c.body.invariant c.string_run-end.ensures.run in
    let other = c.if-bytes-end-eq34.false in
    let inside : at < length text = omega (arith, c.if-end-bytes.false, p.within, ap length e) in
    let mark = run_ends text _ c.body.end c.string_run-end.result e c.string_run-end.ensures.run inside (rw e at other) in
    let next : next_fits is_simple (drop (at + 1) bytes) ≡ false = elim c.then-end-bytes-2.branch [
      | then-end-bytes-2-via-then-end-bytes-2 w ↦ next_end is_simple bytes (at + 1) (omega (arith, w.if-end-bytes-2.true))
      | then-end-bytes-2-via-else-end-bytes-2+then-not-is_simple w ↦ next_at is_simple bytes (at + 1) (omega (arith, w.if-end-bytes-2.false, inside, ap length e)) ∙ (sym w.is_simple.ensures ∙ w.if-not-is_simple.true)
    ] in
    c.string_from-then-end-bytes-2.ensures.test ∙ sym (foreign text at c.utf8.text c.requires p inside mark (rw e at next))

pub body-preserved : goal.body-preserved
body-preserved c =
    let text = c.args.text.now in
    let at : ℕ = c.body.end + c.string_run-end.result in
    let e = c.as_bytes-bytes.ensures.value in
    let p = run_passed text _ c.body.end c.string_run-end.result e c.body.invariant c.string_run-end.ensures.run in
    let other = c.if-bytes-end-eq34.false in
    let inside : at < length text = omega (arith, c.if-end-bytes.false, p.within, ap length e) in
    let mark = run_ends text _ c.body.end c.string_run-end.result e c.string_run-end.ensures.run inside (rw e at other) in
    let escape = sym c.is_simple.ensures ∙ c.if-not-is_simple.false in
    simply text at c.utf8.text c.requires p (omega (arith, c.if-end-bytes-2.false, inside, ap length e)) mark (rw e at escape)
