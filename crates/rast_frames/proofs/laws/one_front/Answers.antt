use Rattle.rast_frames.proofs.FrontLemmas.{only_front}
use Rattle.rast_frames.proofs.laws.one_front.Goals as goal

pub returns : goal.returns
returns c = only_front
