use Rattle.std.proofs.Common.{sym, ap, ◌∙◌, length, arith}
use Rattle.rap_lexer.proofs.PlainCharacters.{quoted}
use Rattle.rap_lexer.proofs.lexer.literal.bare_character.Goals as goal

pub returns-clause-literal : goal.returns-clause-literal
returns-clause-literal c =
    let e = c.as_bytes-bytes.ensures.value in
    let bare = sym c.is_bare.ensures ∙ c.if-not-is_bare.false in
    let first = c.if-bytes-ne39.false in
    let last = c.if-bytes-ne39-2.false in
    let end = c.plain_end.ensures in
    quoted c.args.text.now c.plain_end.result c.utf8.text (omega (arith, c.if-bytes-lt3.false, ap length e)) (rw e at first) (rw e at bare) (rw e at last) (rw e at end)
