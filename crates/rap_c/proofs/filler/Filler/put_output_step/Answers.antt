use Rattle.rap_c.proofs.Put.{put_enter, put_exit, put_token, put_split, bit}
use Rattle.rap_c.proofs.filler.Filler.put_output_step.Goals as goal

pub returns-in-Enter : goal.returns-in-Enter
returns-in-Enter c = rw c.in-Enter.is (put_enter c.in-Enter.kind _ _ (rw c.kind_number.ensures at c.put.ensures))

pub returns-in-Exit : goal.returns-in-Exit
returns-in-Exit c = rw c.in-Exit.is (put_exit _ _ c.put-in-Exit.ensures)

pub returns-in-Token : goal.returns-in-Token
returns-in-Token c = rw c.in-Token.is (put_token c.in-Token.kind c.in-Token.n_input_tokens _ _ (rw (c.kind_number-in-Token.ensures, c.from.ensures) at c.put-in-Token.ensures))

pub returns-in-FloatSplit : goal.returns-in-FloatSplit
returns-in-FloatSplit c = rw c.in-FloatSplit.is (put_split c.in-FloatSplit.ends_in_dot _ _ _ (bit c.in-FloatSplit.ends_in_dot) (rw c.from-in-FloatSplit.ensures at c.put-in-FloatSplit.ensures))
