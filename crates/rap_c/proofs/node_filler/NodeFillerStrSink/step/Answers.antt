use Rattle.std.proofs.Common.{refl}
use Rattle.rap_c.proofs.Laid.{enter_laid, exit_laid, error_laid}
use Rattle.rap_c.proofs.Noted.{puts_note}
use Rattle.rap_c.proofs.node_filler.NodeFillerStrSink.step.Goals as goal

pub returns-in-Enter : goal.returns-in-Enter
returns-in-Enter c = rw c.in-Enter.is (enter_laid c.in-Enter.kind _ _ (rw c.kind_number.ensures at c.enter.ensures) refl refl refl refl (record { elements = refl; messages = refl; bytes = refl }))

pub returns-in-Exit : goal.returns-in-Exit
returns-in-Exit c = rw c.in-Exit.is (exit_laid _ _ c.exit.ensures refl refl refl refl (record { elements = refl; messages = refl; bytes = refl }))

pub returns-in-Token : goal.returns-in-Token
returns-in-Token c = rw c.in-Token.is (rw c.kind_number-in-Token.ensures at c.token.ensures)

pub returns-in-Error : goal.returns-in-Error
returns-in-Error c = rw c.in-Error.is (error_laid c.in-Error.msg.now c.in-Error.pos _ _ (puts_note _ _ _ _ _ _ c.add.ensures) refl refl refl refl (record { elements = refl; messages = refl; bytes = refl }))
