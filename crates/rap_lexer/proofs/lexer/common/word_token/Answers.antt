use Rattle.std.proofs.Common.{◌≡◌, false, true, get_or, drop, sym, ◌∙◌, subst, IsCharBoundary, arith}
use Rattle.std.proofs.lemmas.Bool.{lt-ltb, le-ltb}
use Rattle.rap_lexer.specs.Common.{ends_no_word, next_fits}
use Rattle.rap_lexer.specs.declared.lexer.run.Class.TheVariants.{IdentContinue}
use Rattle.rap_lexer.proofs.AsciiRuns.{border}
use Rattle.rap_lexer.proofs.CommonTokens.{next_at, next_end, word_common, word_uncommon}
use Rattle.rap_lexer.proofs.lexer.common.word_token.Goals as goal
use Rattle.rap_lexer.proofs.lexer.common.word_token.Goals.{else-n-bytes-via-then-n-bytes+else-class_of-gt-OTHER, else-n-bytes-via-else-n-bytes}

pub range-requires-clause-end_boundary : goal.range-requires-clause-end_boundary
range-requires-clause-end_boundary c =
    let run = rw c.as_bytes-bytes.ensures.value at c.word_len-n.ensures in
    subst (λ i. IsCharBoundary c.args.text.now i) (sym run) (border IdentContinue c.args.text.now c.utf8.text)

pub returns-then-class_of-gt-OTHER-clause-token : goal.returns-then-class_of-gt-OTHER-clause-token
returns-then-class_of-gt-OTHER-clause-token c =
    let bytes = c.as_bytes-bytes.result.now in
    let n = c.word_len-n.result in
    let end : ends_no_word (get_or bytes n 0) ≡ true = sym c.class_of.ensures.end ∙ lt-ltb _ _ c.if-class_of-gt-OTHER.true in
    let next : next_fits ends_no_word (drop n bytes) ≡ true = next_at ends_no_word bytes n c.if-n-bytes.true ∙ end in
    word_uncommon c.args.text.now n c.requires (rw c.as_bytes-bytes.ensures.value at c.word_len-n.ensures) (rw c.as_bytes-bytes.ensures.value at next)

pub returns-else-n-bytes-clause-token : goal.returns-else-n-bytes-clause-token
returns-else-n-bytes-clause-token c =
    let bytes = c.as_bytes-bytes.result.now in
    let n = c.word_len-n.result in
    let next : next_fits ends_no_word (drop n bytes) ≡ false = elim c.else-n-bytes.branch [
      | else-n-bytes-via-then-n-bytes+else-class_of-gt-OTHER w ↦
          let end : ends_no_word (get_or bytes n 0) ≡ false = sym w.class_of.ensures.end ∙ le-ltb _ _ w.if-class_of-gt-OTHER.false in
          next_at ends_no_word bytes n w.if-n-bytes.true ∙ end
      | else-n-bytes-via-else-n-bytes w ↦ next_end ends_no_word bytes n (omega (arith, w.if-n-bytes.false))
    ] in
    let run = rw c.as_bytes-bytes.ensures.value at c.word_len-n.ensures in
    let edge = border IdentContinue c.args.text.now c.utf8.text in
    word_common c.args.edition c.args.text.now c.range.result.now n _ c.utf8.text c.requires run (omega (arith, run, edge.0)) (rw c.as_bytes-bytes.ensures.value at next) c.range.ensures.value c.common_word-kind.ensures.kind
