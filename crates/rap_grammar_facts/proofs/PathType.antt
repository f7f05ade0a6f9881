-- What is computed of the scripts of PathType: the open nodes are as before, and a token is taken.
-- Written by crates/rap_grammar_facts/facts from the scripts: an edit here is lost.
use Rattle.std.proofs.Common.{◌≡◌, true, refl}
use Rattle.rap_grammar_scripts.specs.Effects.{level}
use Rattle.rap_grammar_facts.proofs.Alone.{kept}
use Rattle.rap_grammar_scripts.proofs.Scripts.{scripts}
use Rattle.rap_grammar_scripts.specs.PathType as script

pub level_path_type : level script.path_type ≡ true
unfolding scripts
level_path_type = refl

-- all of them
pub ruleset facts = (kept, level_path_type)
