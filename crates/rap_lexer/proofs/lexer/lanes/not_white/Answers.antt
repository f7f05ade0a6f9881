use Rattle.std.proofs.Common.{sym, ◌∙◌}
use Rattle.rap_lexer.proofs.Lanes.{spaces_white}
use Rattle.rap_lexer.proofs.lexer.lanes.not_white.Goals as goal

pub returns-then-not_space-eq0 : goal.returns-then-not_space-eq0
returns-then-not_space-eq0 c = sym (spaces_white c.args.bytes (sym c.not_space.ensures ∙ c.if-not_space-eq0.true))
