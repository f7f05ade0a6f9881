use Rattle.rast_frames.proofs.WrittenLemmas.{reads}
use Rattle.rast_frames.proofs.laws.reads_written.Goals as goal

pub returns : goal.returns
returns c = reads
