use Rattle.std.proofs.Common.{◌≤◌, ◌∙◌, subst}
use Rattle.rap_fields.specs.FieldNames.{YIELD_TOKEN}
use Rattle.rap_fields.proofs.Searches.{name_at}
use Rattle.rap_fields.proofs.field.Field.name.Goals as goal

pub returns : goal.returns
returns c =
    let last = subst (λ field. field ≤ YIELD_TOKEN) c.self.view_is c.self.invariant in
    name_at c.numbered.result.now c.from.result _ _ c.numbered.ensures.table (c.from.ensures ∙ c.self.view_is) last
