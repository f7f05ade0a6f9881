use Rattle.std.proofs.Common.{refl, ◌∙◌}
use Rattle.std.proofs.lemmas.Bool.{eqb-true}
use Rattle.rap_grammar_rows.proofs.FactLeads.{said}
use Rattle.rap_grammar_rows.proofs.Joins.{file_fact}
use Rattle.rap_grammar_rows.specs.declared.fact.Goal.TheVariants as kind
use Rattle.rap_grammar_rows.proofs.check.is_file.Goals as goal

pub returns : goal.returns
returns c h =
    file_fact c.args.input.now c.in-Row.place c.args.fact.start c.args.fact.end c.in-Row.field-1
    (said c.args.input.now c.args.fact (kind.Row c.in-Row.place c.in-Row.field-1) c.args.fact.start c.requires.holds c.in-Row.is refl)
    c.if-place-ne0.false c.if-fact-ne0.false (eqb-true c.args.fact.end c.args.len h ∙ c.requires.len)
