use Rattle.std.proofs.Common.{◌≡◌, drop, map}
use Rattle.rap_fields.specs.Rule.{Look, Row, look_of, of_field}
use Rattle.rap_fields.specs.RuleOf.{rule_of}
use Rattle.rap_fields.proofs.field.Field.rule.Given as goal

-- of the rows that are still to come the rule is that of all
abbrev pub invariant-loop-number : goal.invariant-loop-number
invariant-loop-number l =
    of_field l.fn.self (map {B = Row} (λ row. (row.0, map {B = Look} look_of row.1.now)) (drop l.number-index l.number-items))
    ≡ rule_of l.fn.kind l.fn.self
