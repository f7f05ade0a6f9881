-- What is computed of the scripts of ConstArgs: the open nodes are as before, and a token is taken.
-- Written by crates/rap_grammar_facts/facts from the scripts: an edit here is lost.
use Rattle.std.proofs.Common.{◌≡◌, ◌<◌, true, refl}
use Rattle.rap_events.specs.State.{state}
use Rattle.rap_events.specs.declared.parser.Parser.{Parser}
use Rattle.rap_grammar_scripts.specs.Effects.{level}
use Rattle.rap_grammar_scripts.specs.Script.{Outcome}
use Rattle.rap_grammar_frame.proofs.Done.{moved}
use Rattle.rap_grammar_facts.specs.Alone.{DoesAlone}
use Rattle.rap_grammar_facts.proofs.Alone.{kept}
use Rattle.rap_grammar_scripts.proofs.Scripts.{scripts}
use Rattle.rap_grammar_scripts.specs.ConstArgs as script

pub level_negative_const : level script.negative_const ≡ true
unfolding scripts
level_negative_const = refl

pub moved_negative_const : {v : Outcome} → (p q : Parser) →
    DoesAlone script.negative_const v (state p) (state q) →
    (state q).left < (state p).left
unfolding scripts
moved_negative_const p q d = let x = d.at 0 in moved p q x refl

pub level_const_path : level script.const_path ≡ true
unfolding scripts
level_const_path = refl

pub level_missing_const : level script.missing_const ≡ true
unfolding scripts
level_missing_const = refl

pub level_const_arg_expr : level script.const_arg_expr ≡ true
unfolding scripts
level_const_arg_expr = refl

pub level_const_arg : level script.const_arg ≡ true
unfolding scripts
level_const_arg = refl

-- all of them
pub ruleset facts = (
  kept,
  level_negative_const,
  moved_negative_const,
  level_const_path,
  level_missing_const,
  level_const_arg_expr,
  level_const_arg,
)
