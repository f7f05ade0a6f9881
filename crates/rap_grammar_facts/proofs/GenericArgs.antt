-- What is computed of the scripts of GenericArgs: the open nodes are as before, and a token is taken.
-- Written by crates/rap_grammar_facts/facts from the scripts: an edit here is lost.
use Rattle.std.proofs.Common.{◌≡◌, ◌<◌, ℕ, true, refl}
use Rattle.rap_events.specs.State.{state}
use Rattle.rap_events.specs.declared.parser.Parser.{Parser}
use Rattle.rap_grammar_scripts.specs.Effects.{level}
use Rattle.rap_grammar_scripts.specs.Exec.{Does}
use Rattle.rap_grammar_scripts.specs.Script.{Outcome}
use Rattle.rap_grammar_frame.proofs.Done.{moved}
use Rattle.rap_grammar_facts.specs.Alone.{DoesAlone}
use Rattle.rap_grammar_facts.proofs.Alone.{kept}
use Rattle.rap_grammar_scripts.proofs.Scripts.{scripts}
use Rattle.rap_grammar_scripts.specs.GenericArgs as script

pub level_lifetime_arg : level script.lifetime_arg ≡ true
unfolding scripts
level_lifetime_arg = refl

pub moved_lifetime_arg : {v : Outcome} → (p q : Parser) →
    DoesAlone script.lifetime_arg v (state p) (state q) →
    (state q).left < (state p).left
unfolding scripts
moved_lifetime_arg p q d = let x = d.at 0 in moved p q x refl

pub level_type_arg : level script.type_arg ≡ true
unfolding scripts
level_type_arg = refl

pub level_assoc_value : level script.assoc_value ≡ true
unfolding scripts
level_assoc_value = refl

pub moved_macro_arg : {n : ℕ} {v : Outcome} → (p q : Parser) →
    Does n script.macro_arg v (state p) (state q) →
    (state q).left < (state p).left
unfolding scripts
moved_macro_arg p q d = moved p q d refl

pub level_path_arg : level script.path_arg ≡ true
unfolding scripts
level_path_arg = refl

pub level_named_arg : level script.named_arg ≡ true
unfolding scripts
level_named_arg = refl

pub level_generic_arg : level script.generic_arg ≡ true
unfolding scripts
level_generic_arg = refl

-- all of them
pub ruleset facts = (
  kept,
  level_lifetime_arg,
  moved_lifetime_arg,
  level_type_arg,
  level_assoc_value,
  moved_macro_arg,
  level_path_arg,
  level_named_arg,
  level_generic_arg,
)
