use Rattle.std.proofs.Common.{ℕ, sym, ap, ◌∙◌}
use Rattle.rap_grammar_rows.specs.Excluders.{is_excluded}
use Rattle.rap_grammar_rows.proofs.guard.is_excluded.Goals as goal

pub returns-in-2 : goal.returns-in-2
returns-in-2 c = c.begins_no_predicate.ensures ∙ ap (λ (g : ℕ). is_excluded g c.args.coming) (sym c.in-2.is)
