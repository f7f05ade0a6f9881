use Rattle.std.proofs.Common.{◌≡◌, encode_utf8_all, length, arith, ap, sym, ◌∙◌}
use Rattle.std.proofs.lemmas.Str.{encodes-chars, length-le-encodes}
use Rattle.rap_lexer.proofs.lexer.cursor.Cursor.len.Goals as goal

pub returns-clause-bytes : goal.returns-clause-bytes
returns-clause-bytes c = ap length (sym (ap encode_utf8_all (sym c.self.view_is) ∙ encodes-chars _ c.self.invariant))

pub returns-clause-room : goal.returns-clause-room
returns-clause-room c =
    let e = length-le-encodes c.args.self.now in
    let f : encode_utf8_all c.args.self.now ≡ c.self.inside.rest.now = ap encode_utf8_all (sym c.self.view_is) ∙ encodes-chars _ c.self.invariant in
    omega (arith, e, ap length f, c.self.told)
