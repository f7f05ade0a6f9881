use Rattle.std.proofs.Common.{◌≡◌, encode_utf8_all, drop, chars, ap, sym, ◌∙◌}
use Rattle.std.proofs.lemmas.Str.{encodes-chars}
use Rattle.rap_lexer.proofs.lexer.cursor.Cursor.advance.Goals as goal

pub range_from-self-inside-requires : goal.range_from-self-inside-requires
range_from-self-inside-requires c =
    let bytes : encode_utf8_all c.args.self.now ≡ c.self.inside.rest.now = ap encode_utf8_all (sym c.self.view_is) ∙ encodes-chars _ c.self.invariant in
    λ _. rw bytes at c.requires

pub returns : goal.returns
returns c =
    let bytes : encode_utf8_all c.args.self.now ≡ c.self.inside.rest.now = ap encode_utf8_all (sym c.self.view_is) ∙ encodes-chars _ c.self.invariant in
    ap chars c.range_from-self-inside.ensures.value ∙ ap (λ x. chars (drop c.args.n x)) (sym bytes)
