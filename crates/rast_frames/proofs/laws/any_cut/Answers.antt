use Rattle.rast_frames.proofs.StreamLemmas.{come_twice}
use Rattle.rast_frames.proofs.laws.any_cut.Goals as goal

pub returns : goal.returns
returns c = come_twice
