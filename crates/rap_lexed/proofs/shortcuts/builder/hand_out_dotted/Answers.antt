use Rattle.std.proofs.Common.{[], ◌∷◌}
use Rattle.std.specs.Prelude.{codes}
use Rattle.rap_base.specs.TokenKind.{DOT}
use Rattle.rap_lexed.specs.Builder.{number_steps}
use Rattle.rap_lexed.specs.StrStep.{str_exit, str_token}
use Rattle.rap_lexed.proofs.Handed.{hands-refused, stops-within, hands-after}
use Rattle.rap_lexed.proofs.shortcuts.builder.hand_out_dotted.Goals as goal

pub returns-in_err-hand_out_number : goal.returns-in_err-hand_out_number
returns-in_err-hand_out_number g c =
    hands-refused g.S.StrSink.takes g.S.StrSink.refuses _ _ _ c.from_residual.result _ c.from_residual.ensures.1
    (stops-within g.S.StrSink.takes g.S.StrSink.refuses (number_steps c.args.number.now) (str_exit ∷ str_token DOT (codes ".") ∷ []) _ _ _ c.in_err-hand_out_number.ensures)

pub returns : goal.returns
returns g c =
    hands-after g.S.StrSink.takes g.S.StrSink.refuses (number_steps c.args.number.now) (str_exit ∷ str_token DOT (codes ".") ∷ []) c.args.sink.now c.hand_out_number.new.sink c.hand_out.new.sink c.hand_out.result c.in_ok-hand_out_number.ensures c.hand_out.ensures
