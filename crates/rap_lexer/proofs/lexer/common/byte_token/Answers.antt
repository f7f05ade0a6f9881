use Rattle.std.proofs.Common.{◌<◌, length, ◌∙◌}
use Rattle.rap_lexer.proofs.CommonTokens.{alone_common}
use Rattle.rap_lexer.proofs.lexer.common.byte_token.Goals as goal

pub returns-clause-token : goal.returns-clause-token
returns-clause-token c = λ edition.
    let e = c.as_bytes-bytes.ensures.value in
    let said = c.class_of-class.ensures in
    let some : 1 < length c.args.text.now = rw e at c.if-bytes-lt2.false in
    rw (c.from_u16.ensures ∙ c.from.ensures) (alone_common edition c.args.text.now c.class_of-class.result c.last_alone.result c.utf8.text some (rw e at said.lone) (rw e at said.kind) (rw e at said.white) (rw e at c.last_alone.ensures) c.if-class-last_alone.false)
