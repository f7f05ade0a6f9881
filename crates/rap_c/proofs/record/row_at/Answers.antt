use Rattle.std.proofs.Common.{ap, ◌∙◌}
use Rattle.std.specs.Prelude.{if◌then◌else◌}
use Rattle.rap_base.specs.Edition.{year}
use Rattle.rap_c.proofs.Put.{bit}
use Rattle.rap_c.proofs.Rows.{row_next}
use Rattle.rap_c.proofs.record.row_at.Goals as goal

pub returns : goal.returns
returns c =
    row_next c.args.input.now c.args.i _ _ _ _ c.requires (c.kind_number.ensures ∙ c.kind.ensures) (c.kind_number-2.ensures ∙ c.contextual_kind.ensures.contextual) (c.year_of.ensures ∙ ap year c.edition.ensures)
    (c.from.ensures ∙ (bit c.is_joint.result ∙ ap (λ b. if b then 1 else 0) c.is_joint.ensures))
