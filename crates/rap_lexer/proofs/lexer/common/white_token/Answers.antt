use Rattle.std.proofs.Common.{◌≡◌, false, true, get_or, drop, sym, ◌∙◌, arith}
use Rattle.rap_lexer.specs.Common.{begins_white, next_fits}
use Rattle.rap_lexer.proofs.CommonTokens.{next_at, next_end, white_common, white_uncommon}
use Rattle.rap_lexer.proofs.lexer.common.white_token.Goals as goal
use Rattle.rap_lexer.proofs.lexer.common.white_token.Goals.{else-n-bytes-via-then-n-bytes+else-begins_white, else-n-bytes-via-else-n-bytes}

pub returns-then-begins_white-clause-token : goal.returns-then-begins_white-clause-token
returns-then-begins_white-clause-token c =
    let bytes = c.as_bytes-bytes.result.now in
    let n = c.white_run-n.result in
    let past : begins_white (get_or bytes n 0) ≡ true = sym c.begins_white.ensures ∙ c.if-begins_white.true in
    let next : next_fits begins_white (drop n bytes) ≡ true = next_at begins_white bytes n c.if-n-bytes.true ∙ past in
    white_uncommon c.args.text.now n c.requires (rw c.as_bytes-bytes.ensures.value at c.white_run-n.ensures) (rw c.as_bytes-bytes.ensures.value at next)

pub returns-else-n-bytes-clause-token : goal.returns-else-n-bytes-clause-token
returns-else-n-bytes-clause-token c =
    let bytes = c.as_bytes-bytes.result.now in
    let n = c.white_run-n.result in
    let next : next_fits begins_white (drop n bytes) ≡ false = elim c.else-n-bytes.branch [
      | else-n-bytes-via-then-n-bytes+else-begins_white w ↦
          let other : begins_white (get_or bytes n 0) ≡ false = sym w.begins_white.ensures ∙ w.if-begins_white.false in
          next_at begins_white bytes n w.if-n-bytes.true ∙ other
      | else-n-bytes-via-else-n-bytes w ↦ next_end begins_white bytes n (omega (arith, w.if-n-bytes.false))
    ] in
    λ edition. white_common edition c.args.text.now n c.utf8.text c.requires (rw c.as_bytes-bytes.ensures.value at c.white_run-n.ensures) (rw c.as_bytes-bytes.ensures.value at next)
