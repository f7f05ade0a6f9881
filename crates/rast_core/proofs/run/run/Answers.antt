use Rattle.std.proofs.Common.{inl, inr, refl}
use Rattle.rast_core.proofs.run.run.Goals as goal

pub returns-in-None : goal.returns-in-None
returns-in-None g c = inl (record { derived = c.in-None.ensures; status = refl; unwritten = refl; unreported = refl })

pub returns-in-Some : goal.returns-in-Some
returns-in-Some g c = inr (record { made = c.in-Some.made; is_made = c.in-Some.ensures; ends = c.finish.ensures })
