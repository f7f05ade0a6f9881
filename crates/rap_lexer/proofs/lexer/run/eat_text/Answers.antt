use Rattle.std.proofs.Common.{chars, sym, ap, ◌∙◌}
use Rattle.rap_lexer.specs.Class.{is_in}
use Rattle.rap_lexer.specs.Run.{after_run}
use Rattle.rap_lexer.proofs.TextRuns.{border, chars_after}
use Rattle.rap_lexer.proofs.lexer.run.eat_text.Goals as goal

pub advance-requires : goal.advance-requires
advance-requires c =
    let text = sym (c.as_bytes.ensures.value ∙ c.as_str.ensures.text) in
    rw (text, c.text_run-n.ensures) (border (is_in c.args.class) c.requires c.as_bytes.result.now c.as_bytes.ensures.utf8)

pub returns : goal.returns
returns c =
    let text = sym (c.as_bytes.ensures.value ∙ c.as_str.ensures.text) in
    let after = rw (text, c.text_run-n.ensures) at c.advance.ensures in
    after ∙ (chars_after (is_in c.args.class) c.requires c.as_bytes.result.now c.as_bytes.ensures.utf8 ∙ ap (λ x. after_run (is_in c.args.class) x) (ap chars c.as_bytes.ensures.value ∙ c.as_str.ensures.same))
