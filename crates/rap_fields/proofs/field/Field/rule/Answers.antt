use Rattle.std.proofs.Common.{map, sym, ◌∙◌, ap}
use Rattle.std.proofs.lemmas.List.{drop_all}
use Rattle.rap_fields.specs.Rule.{Look, Row, look_of, of_field}
use Rattle.rap_fields.proofs.Searches.{rule_here, rule_later}
use Rattle.rap_fields.proofs.field.Field.rule.Goals as goal

pub returns-then-number-self : goal.returns-then-number-self
returns-then-number-self c h =
    (sym (rule_here c.args.self c.rows_of-number-items.result.now c.loop-number.number-index _ c.loop-number-test.true
    (c.if-number-self.true ∙ c.self.view_is))
    ∙ c.loop-number.invariant) h

pub loop-number-preserved : goal.loop-number-preserved
loop-number-preserved c =
    sym (rule_later c.args.self c.rows_of-number-items.result.now c.loop-number.number-index _ c.loop-number-test.true
    (λ e. c.if-number-self.false (e ∙ sym c.self.view_is)))
    ∙ c.loop-number.invariant

pub returns : goal.returns
returns c =
    sym (ap (λ rows. of_field c.args.self (map {B = Row} (λ row. (row.0, map {B = Look} look_of row.1.now)) rows))
    (drop_all c.loop-number.number-index c.rows_of-number-items.result.now c.loop-number-test.false))
    ∙ c.loop-number.invariant
