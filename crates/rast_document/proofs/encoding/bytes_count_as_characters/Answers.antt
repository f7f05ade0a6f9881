use Rattle.rast_document.proofs.CharacterLemmas.{units_of_characters}
use Rattle.rast_document.proofs.encoding.bytes_count_as_characters.Goals as goal

pub returns : goal.returns
returns c = λ e cs. units_of_characters e cs
