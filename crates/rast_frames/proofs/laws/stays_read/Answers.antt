use Rattle.rast_frames.proofs.FrontLemmas.{front_stays}
use Rattle.rast_frames.proofs.laws.stays_read.Goals as goal

pub returns : goal.returns
returns c = front_stays
