use Rattle.rap_c.specs.Words.{word_of}
use Rattle.rap_c.proofs.Packed.{pack_one}
use Rattle.rap_c.proofs.packer.PackerStrSink.step.Goals as goal

pub returns-in-Enter : goal.returns-in-Enter
returns-in-Enter c = rw c.in-Enter.is (pack_one (word_of 0 0 c.in-Enter.kind) _ _ (rw c.word.ensures at c.put.ensures))

pub returns-in-Exit : goal.returns-in-Exit
returns-in-Exit c = rw c.in-Exit.is (pack_one 1 _ _ c.put-in-Exit.ensures)
