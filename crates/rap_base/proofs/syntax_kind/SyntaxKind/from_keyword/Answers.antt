use Rattle.std.proofs.Common.{sym, ◌∙◌}
use Rattle.rap_base.proofs.WordTable.{reserved-none, reserved-yes, reserved-no}
use Rattle.rap_base.proofs.syntax_kind.SyntaxKind.from_keyword.Goals as goal

pub returns-then-is_reserved : goal.returns-then-is_reserved
returns-then-is_reserved c = sym (reserved-yes c.args.text.now c.args.edition c.in-Some.kind (sym c.known_word.ensures ∙ c.in-Some.is) (sym c.is_reserved.ensures ∙ c.if-is_reserved.true))

pub returns-else-is_reserved : goal.returns-else-is_reserved
returns-else-is_reserved c = sym (reserved-no c.args.text.now c.args.edition c.in-Some.kind (sym c.known_word.ensures ∙ c.in-Some.is) (sym c.is_reserved.ensures ∙ c.if-is_reserved.false))

pub returns-in-None : goal.returns-in-None
returns-in-None c = sym (reserved-none c.args.text.now c.args.edition (sym c.known_word.ensures ∙ c.in-None.is))
