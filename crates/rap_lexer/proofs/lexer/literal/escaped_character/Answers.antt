use Rattle.std.proofs.Common.{sym, ap, ◌∙◌, length, arith}
use Rattle.rap_lexer.proofs.PlainCharacters.{quoted_escape}
use Rattle.rap_lexer.proofs.lexer.literal.escaped_character.Goals as goal

pub returns-clause-literal : goal.returns-clause-literal
returns-clause-literal c =
    let e = c.as_bytes-bytes.ensures.value in
    let escape = sym c.is_simple.ensures ∙ c.if-not-is_simple.false in
    let first = c.if-bytes-ne39.false in
    let backslash = c.if-bytes-ne92.false in
    let last = c.if-bytes-ne39-2.false in
    let end = c.plain_end.ensures in
    quoted_escape c.args.text.now c.plain_end.result c.utf8.text (omega (arith, c.if-bytes-lt4.false, ap length e)) (rw e at first) (rw e at backslash) (rw e at escape) (rw e at last) (rw e at end)
