-- What is computed of the scripts of Modifiers: the open nodes are as before, and a token is taken.
-- Written by crates/rap_grammar_facts/facts from the scripts: an edit here is lost.
use Rattle.std.proofs.Common.{◌≡◌, ◌<◌, ℕ, Bool, true, false, refl}
use Rattle.rap_events.specs.State.{state}
use Rattle.rap_events.specs.declared.parser.Parser.{Parser}
use Rattle.rap_grammar_scripts.specs.Effects.{level}
use Rattle.rap_grammar_scripts.specs.Exec.{Does}
use Rattle.rap_grammar_scripts.specs.Script.{Outcome}
use Rattle.rap_grammar_frame.proofs.Done.{moved}
use Rattle.rap_grammar_facts.proofs.Alone.{kept}
use Rattle.rap_grammar_scripts.proofs.Scripts.{scripts}
use Rattle.rap_grammar_scripts.specs.Modifiers as script

pub level_impl_restriction : level script.impl_restriction ≡ true
unfolding scripts
level_impl_restriction = refl

pub moved_impl_restriction : {n : ℕ} {v : Outcome} → (p q : Parser) →
    Does n script.impl_restriction v (state p) (state q) →
    (state q).left < (state p).left
unfolding scripts
moved_impl_restriction p q d = moved p q d refl

pub level_opt_impl_restriction : level script.opt_impl_restriction ≡ true
unfolding scripts
level_opt_impl_restriction = refl

pub level_qualifiers : level script.qualifiers ≡ true
unfolding scripts
level_qualifiers = refl

pub level_safety : (a : Bool) → level (script.safety a) ≡ true
unfolding scripts
level_safety true = refl
level_safety false = refl

pub level_opt_abi : level script.opt_abi ≡ true
unfolding scripts
level_opt_abi = refl

pub level_opt_default : level script.opt_default ≡ true
unfolding scripts
level_opt_default = refl

pub level_auto_or_default : level script.auto_or_default ≡ true
unfolding scripts
level_auto_or_default = refl

pub level_modifiers : (a : Bool) → level (script.modifiers a) ≡ true
unfolding scripts
level_modifiers true = refl
level_modifiers false = refl

-- all of them
pub ruleset facts = (
  kept,
  level_impl_restriction,
  moved_impl_restriction,
  level_opt_impl_restriction,
  level_qualifiers,
  level_safety,
  level_opt_abi,
  level_opt_default,
  level_auto_or_default,
  level_modifiers,
)
