use Rattle.rast_answers.proofs.TogetherLaws.{partners_partners}
use Rattle.rast_answers.proofs.laws.partners_are_partners.Goals as goal

pub returns : goal.returns
returns c = partners_partners
