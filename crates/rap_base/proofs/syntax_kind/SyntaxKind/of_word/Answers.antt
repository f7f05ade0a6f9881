use Rattle.std.proofs.Common.{ℕ, ap, sym, ◌∙◌}
use Rattle.std.specs.Prelude.{Option, is_some, unwrap_or}
use Rattle.rap_base.specs.TokenKind.{IDENT}
use Rattle.rap_base.specs.declared.edition.Edition.TheVariants.{Edition2015}
use Rattle.rap_base.proofs.WordTable.{reserved-none, reserved-yes, reserved-no, contextual-none, contextual-is}
use Rattle.rap_base.proofs.syntax_kind.SyntaxKind.of_word.Goals as goal

or_ident : Option ℕ → ℕ
or_ident kind = unwrap_or kind IDENT

pub returns-in-None-clause-kind : goal.returns-in-None-clause-kind
unfolding or_ident
returns-in-None-clause-kind c = sym (ap or_ident (reserved-none c.args.text.now c.args.edition (sym c.known_word.ensures ∙ c.in-None.is)))

pub returns-in-None-clause-contextual : goal.returns-in-None-clause-contextual
returns-in-None-clause-contextual c = sym (ap is_some (contextual-none c.args.text.now Edition2015 (sym c.known_word.ensures ∙ c.in-None.is)))

pub returns-then-is_reserved-clause-kind : goal.returns-then-is_reserved-clause-kind
unfolding or_ident
returns-then-is_reserved-clause-kind c = sym (ap or_ident (reserved-yes c.args.text.now c.args.edition c.in-Some.kind (sym c.known_word.ensures ∙ c.in-Some.is) (sym c.is_reserved.ensures ∙ c.if-is_reserved.true)))

pub returns-else-is_reserved-clause-kind : goal.returns-else-is_reserved-clause-kind
unfolding or_ident
returns-else-is_reserved-clause-kind c = sym (ap or_ident (reserved-no c.args.text.now c.args.edition c.in-Some.kind (sym c.known_word.ensures ∙ c.in-Some.is) (sym c.is_reserved.ensures ∙ c.if-is_reserved.false)))

pub returns-else-is_reserved-clause-contextual : goal.returns-else-is_reserved-clause-contextual
returns-else-is_reserved-clause-contextual c = c.is_contextual.ensures ∙ sym (contextual-is c.args.text.now Edition2015 c.in-Some.kind (sym c.known_word.ensures ∙ c.in-Some.is))
