-- What is computed of the scripts of Consts: the open nodes are as before, and a token is taken.
-- Written by crates/rap_grammar_facts/facts from the scripts: an edit here is lost.
use Rattle.std.proofs.Common.{◌≡◌, ◌<◌, ℕ, Bool, true, false, refl}
use Rattle.rap_events.specs.State.{state}
use Rattle.rap_events.specs.declared.parser.Parser.{Parser}
use Rattle.rap_grammar_scripts.specs.Effects.{level}
use Rattle.rap_grammar_scripts.specs.Exec.{Does}
use Rattle.rap_grammar_scripts.specs.Script.{Outcome}
use Rattle.rap_grammar_frame.proofs.Done.{moved}
use Rattle.rap_grammar_facts.proofs.Alone.{kept}
use Rattle.rap_grammar_scripts.proofs.Scripts.{scripts}
use Rattle.rap_grammar_scripts.specs.Consts as script

pub level_const_name : (a : Bool) → level (script.const_name a) ≡ true
unfolding scripts
level_const_name true = refl
level_const_name false = refl

pub level_const_params : (a : Bool) → level (script.const_params a) ≡ true
unfolding scripts
level_const_params true = refl
level_const_params false = refl

pub level_missing_const_type : (a : Bool) → level (script.missing_const_type a) ≡ true
unfolding scripts
level_missing_const_type true = refl
level_missing_const_type false = refl

pub level_const_type : (a : Bool) → level (script.const_type a) ≡ true
unfolding scripts
level_const_type true = refl
level_const_type false = refl

pub level_const_value : level script.const_value ≡ true
unfolding scripts
level_const_value = refl

pub level_const_where : (a : Bool) → level (script.const_where a) ≡ true
unfolding scripts
level_const_where true = refl
level_const_where false = refl

pub level_const_or_static : (a : Bool) → level (script.const_or_static a) ≡ true
unfolding scripts
level_const_or_static true = refl
level_const_or_static false = refl

pub moved_static_ : {n : ℕ} {v : Outcome} → (p q : Parser) →
    Does n script.static_ v (state p) (state q) →
    (state q).left < (state p).left
unfolding scripts
moved_static_ p q d = moved p q d refl

-- all of them
pub ruleset facts = (
  kept,
  level_const_name,
  level_const_params,
  level_missing_const_type,
  level_const_type,
  level_const_value,
  level_const_where,
  level_const_or_static,
  moved_static_,
)
