use Rattle.std.proofs.Common.{◌≡◌, encode_utf8_all, IsUtf8, length, arith, ap, sym, ◌∙◌}
use Rattle.std.specs.Str.{chars}
use Rattle.std.proofs.lemmas.Str.{encodes-chars, length-le-encodes}
use Rattle.rap_lexer.proofs.Steps.{step}
use Rattle.rap_lexer.proofs.lexer.cursor.Cursor.bump.Goals as goal

pub returns-clause-taken : goal.returns-clause-taken
returns-clause-taken c =
    let u : IsUtf8 c.chars-chars.result.rest.now = rw c.chars-chars.ensures.rest c.self.invariant in
    let h = step (λ s. s.rest.now) c.chars-chars.result c.next-c.new.self c.next-c.result u c.next-c.ensures.steps.0 in
    let before : chars c.chars-chars.result.rest.now ≡ c.args.self.now = ap chars c.chars-chars.ensures.rest ∙ c.self.view_is in
    let after : chars c.next-c.new.self.rest.now ≡ chars c.as_str-self-inside.result.now = ap chars (sym c.as_str-self-inside.ensures) in
    rw (before, after) at h

pub returns-clause-room : goal.returns-clause-room
returns-clause-room c =
    let e = length-le-encodes c.args.self.now in
    let f : encode_utf8_all c.args.self.now ≡ c.self.inside.rest.now = ap encode_utf8_all (sym c.self.view_is) ∙ encodes-chars _ c.self.invariant in
    omega (arith, e, ap length f, c.self.told)
