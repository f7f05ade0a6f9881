-- What is computed of the scripts of Functions: the open nodes are as before, and a token is taken.
-- Written by crates/rap_grammar_facts/facts from the scripts: an edit here is lost.
use Rattle.std.proofs.Common.{◌≡◌, ◌<◌, ℕ, true, refl}
use Rattle.rap_events.specs.State.{state}
use Rattle.rap_events.specs.declared.parser.Parser.{Parser}
use Rattle.rap_grammar_scripts.specs.Effects.{level}
use Rattle.rap_grammar_scripts.specs.Exec.{Does}
use Rattle.rap_grammar_scripts.specs.Script.{Outcome}
use Rattle.rap_grammar_frame.proofs.Done.{moved}
use Rattle.rap_grammar_facts.proofs.Alone.{kept}
use Rattle.rap_grammar_scripts.proofs.Scripts.{scripts}
use Rattle.rap_grammar_scripts.specs.Functions as script

pub level_fn_params : level script.fn_params ≡ true
unfolding scripts
level_fn_params = refl

pub level_fn_ret_type : level script.fn_ret_type ≡ true
unfolding scripts
level_fn_ret_type = refl

pub level_unbalanced_brackets : level script.unbalanced_brackets ≡ true
unfolding scripts
level_unbalanced_brackets = refl

pub level_fn_body : level script.fn_body ≡ true
unfolding scripts
level_fn_body = refl

pub level_signature : level script.signature ≡ true
unfolding scripts
level_signature = refl

pub moved_fn_ : {n : ℕ} {v : Outcome} → (p q : Parser) →
    Does n script.fn_ v (state p) (state q) →
    (state q).left < (state p).left
unfolding scripts
moved_fn_ p q d = moved p q d refl

-- all of them
pub ruleset facts = (
  kept,
  level_fn_params,
  level_fn_ret_type,
  level_unbalanced_brackets,
  level_fn_body,
  level_signature,
  moved_fn_,
)
