use Rattle.rap_grammar_frame.proofs.Binary.{fits}
use Rattle.rap_grammar_expressions.proofs.expressions.operators.bin_expr.Goals as goal

pub complete_fit-requires-clause-fit : goal.complete_fit-requires-clause-fit
complete_fit-requires-clause-fit g c =
    let r = c.requires in
    fits _ _ _ _ _ _ _ _ _ _ c.in_ok-run.field-0 c.in_ok-m.ensures.state c.in_ok-bump.ensures.state
    c.in_ok-run.ensures.0 r.power r.positive r.no_range r.no_cast c.right_power-bp.ensures.left r.left_side
