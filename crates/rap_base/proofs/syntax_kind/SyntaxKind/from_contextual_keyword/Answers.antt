use Rattle.std.proofs.Common.{sym, ◌∙◌}
use Rattle.rap_base.proofs.WordTable.{contextual-none, contextual-yes, contextual-no}
use Rattle.rap_base.proofs.syntax_kind.SyntaxKind.from_contextual_keyword.Goals as goal

pub returns-then-is_contextual : goal.returns-then-is_contextual
returns-then-is_contextual c = sym (contextual-yes c.args.text.now c.args.edition c.in-Some.kind (sym c.known_word.ensures ∙ c.in-Some.is) (sym c.is_contextual.ensures ∙ c.if-is_contextual.true))

pub returns-else-is_contextual : goal.returns-else-is_contextual
returns-else-is_contextual c = sym (contextual-no c.args.text.now c.args.edition c.in-Some.kind (sym c.known_word.ensures ∙ c.in-Some.is) (sym c.is_contextual.ensures ∙ c.if-is_contextual.false))

pub returns-in-None : goal.returns-in-None
returns-in-None c = sym (contextual-none c.args.text.now c.args.edition (sym c.known_word.ensures ∙ c.in-None.is))
