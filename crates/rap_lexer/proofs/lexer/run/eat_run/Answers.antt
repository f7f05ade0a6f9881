use Rattle.std.proofs.Common.{◌≡◌, ◌<◌, chars, get_or, sym, ap, ◌∙◌, arith}
use Rattle.std.proofs.lemmas.List.{get_or_past}
use Rattle.rap_lexer.specs.Class.{is_in}
use Rattle.rap_lexer.specs.Run.{after_run}
use Rattle.rap_lexer.proofs.AsciiRuns.{border, same, stopped}
use Rattle.rap_lexer.proofs.lexer.run.eat_run.Goals as goal
use Rattle.rap_lexer.proofs.lexer.run.eat_run.Goals.{else-n-bytes-via-then-n-bytes+else-bytes-n-ge128, else-n-bytes-via-else-n-bytes}

pub advance-requires : goal.advance-requires
advance-requires c =
    let text = sym (c.as_bytes-bytes.ensures.value ∙ c.as_str.ensures.text) in
    rw (text, c.ascii_run-n.ensures) (border c.args.class c.as_bytes-bytes.result.now c.as_bytes-bytes.ensures.utf8)

pub returns-then-bytes-n-ge128 : goal.returns-then-bytes-n-ge128
returns-then-bytes-n-ge128 c =
    let text = sym (c.as_bytes-bytes.ensures.value ∙ c.as_str.ensures.text) in
    let seen : chars c.as_bytes-bytes.result.now ≡ c.args.cursor.now = ap chars c.as_bytes-bytes.ensures.value ∙ c.as_str.ensures.same in
    let after = rw (text, c.ascii_run-n.ensures) at c.advance.ensures in
    c.eat_any.ensures ∙ (ap (λ x. after_run (is_in c.args.class) x) after ∙ (same c.args.class _ c.as_bytes-bytes.ensures.utf8 ∙ ap (λ x. after_run (is_in c.args.class) x) seen))

pub returns-else-n-bytes : goal.returns-else-n-bytes
returns-else-n-bytes c =
    let text = sym (c.as_bytes-bytes.ensures.value ∙ c.as_str.ensures.text) in
    let seen : chars c.as_bytes-bytes.result.now ≡ c.args.cursor.now = ap chars c.as_bytes-bytes.ensures.value ∙ c.as_str.ensures.same in
    let after = rw (text, c.ascii_run-n.ensures) at c.advance.ensures in
    let low : get_or c.as_bytes-bytes.result.now c.ascii_run-n.result 0 < 128 =
    elim c.else-n-bytes.branch [
      | else-n-bytes-via-then-n-bytes+else-bytes-n-ge128 w ↦ omega (arith, w.if-bytes-n-ge128.false)
      | else-n-bytes-via-else-n-bytes w ↦ omega (arith, get_or_past c.as_bytes-bytes.result.now c.ascii_run-n.result 0 w.if-n-bytes.false)
    ] in
    after ∙ (stopped c.args.class _ c.as_bytes-bytes.ensures.utf8 (rw c.ascii_run-n.ensures at low) ∙ ap (λ x. after_run (is_in c.args.class) x) seen)
