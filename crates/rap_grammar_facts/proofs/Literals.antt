-- What is computed of the scripts of Literals: the open nodes are as before, and a token is taken.
-- Written by crates/rap_grammar_facts/facts from the scripts: an edit here is lost.
use Rattle.std.proofs.Common.{◌≡◌, true, refl}
use Rattle.rap_grammar_scripts.specs.Effects.{level}
use Rattle.rap_grammar_facts.proofs.Alone.{kept}
use Rattle.rap_grammar_scripts.proofs.Scripts.{scripts}
use Rattle.rap_grammar_scripts.specs.Literals as script

pub level_literal : level script.literal ≡ true
unfolding scripts
level_literal = refl

-- all of them
pub ruleset facts = (kept, level_literal)
