use Rattle.std.proofs.Common.{◌≡◌, ◌∙◌, ap, chars, sym}
use Rattle.rap_lexer.specs.PlainLiteral.{is_bare}
use Rattle.rap_lexer.proofs.AsciiRuns.{tested_border, tested_spelt}
use Rattle.rap_lexer.proofs.BareCharacters.{bare_ascii}
use Rattle.rap_lexer.proofs.Runs.{after_drop}
use Rattle.rap_lexer.proofs.escape.skip_bare.Goals as goal

pub advance-requires : goal.advance-requires
advance-requires c =
    let text = sym (c.as_bytes.ensures.value ∙ c.as_str.ensures.text) in
    rw (text, c.bare_run-n.ensures.run) (tested_border is_bare bare_ascii c.as_bytes.result.now c.as_bytes.ensures.utf8)

pub returns : goal.returns
returns c =
    let text = sym (c.as_bytes.ensures.value ∙ c.as_str.ensures.text) in
    let bytes = c.as_bytes.result.now in
    let seen : chars bytes ≡ c.args.rest.now = ap chars c.as_bytes.ensures.value ∙ c.as_str.ensures.same in
    let after = rw (text, c.bare_run-n.ensures.run, after_drop is_bare bytes) at c.advance.ensures in
    rw (text, after) (sym seen ∙ tested_spelt is_bare bare_ascii bytes c.as_bytes.ensures.utf8)
