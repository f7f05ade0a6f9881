use Rattle.std.proofs.Common.{◌≡◌, IsUtf8, ap, sym, ◌∙◌}
use Rattle.std.specs.Str.{chars}
use Rattle.rap_lexer.proofs.Steps.{step}
use Rattle.rap_literals.proofs.cursor.Cursor.bump.Goals as goal

pub returns : goal.returns
returns c =
    let u : IsUtf8 c.chars-chars.result.rest.now = rw c.chars-chars.ensures.rest c.self.invariant in
    let h = step (λ s. s.rest.now) c.chars-chars.result c.next-c.new.self c.next-c.result u c.next-c.ensures.steps.0 in
    let before : chars c.chars-chars.result.rest.now ≡ c.args.self.now = ap chars c.chars-chars.ensures.rest ∙ c.self.view_is in
    let after : chars c.next-c.new.self.rest.now ≡ chars c.as_str-self-inside.result.now = ap chars (sym c.as_str-self-inside.ensures) in
    rw (before, after) at h
