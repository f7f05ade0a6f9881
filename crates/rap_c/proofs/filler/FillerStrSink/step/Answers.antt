use Rattle.rap_c.proofs.Put.{put_enter, put_exit, put_token}
use Rattle.rap_c.proofs.filler.FillerStrSink.step.Goals as goal

pub returns-in-Enter : goal.returns-in-Enter
returns-in-Enter c = rw c.in-Enter.is (put_enter c.in-Enter.kind _ _ (rw c.kind_number.ensures at c.put.ensures))

pub returns-in-Exit : goal.returns-in-Exit
returns-in-Exit c = rw c.in-Exit.is (put_exit _ _ c.put-in-Exit.ensures)

pub returns-in-Token : goal.returns-in-Token
returns-in-Token c = rw c.in-Token.is (put_token c.in-Token.kind _ _ _ (rw c.kind_number-in-Token.ensures at c.put-in-Token.ensures))
