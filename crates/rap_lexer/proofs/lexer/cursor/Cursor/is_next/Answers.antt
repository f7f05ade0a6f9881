use Rattle.std.proofs.Common.{◌≡◌, ◌<◌, encode_utf8_all, ap, sym, ◌∙◌}
use Rattle.std.proofs.lemmas.Bool.{ltb-true}
use Rattle.std.proofs.lemmas.Str.{encodes-chars}
use Rattle.rap_lexer.specs.Run.{next_is}
use Rattle.rap_lexer.proofs.NextBytes.{next_byte}
use Rattle.rap_lexer.proofs.lexer.cursor.Cursor.is_next.Goals as goal

pub returns-then-is_ascii : goal.returns-then-is_ascii
returns-then-is_ascii c =
    let ascii : c.args.c < 128 = ltb-true c.args.c 128 (sym c.is_ascii.ensures ∙ c.if-is_ascii.true) in
    let bytes : encode_utf8_all c.args.self.now ≡ c.self.inside.rest.now = ap encode_utf8_all (sym c.self.view_is) ∙ encodes-chars _ c.self.invariant in
    c.is_next.ensures ∙ (ap (next_is c.args.c) (c.as_bytes.ensures.value ∙ sym bytes) ∙ sym (next_byte c.args.c ascii c.args.self.now))
