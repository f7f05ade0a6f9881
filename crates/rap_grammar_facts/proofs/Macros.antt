-- What is computed of the scripts of Macros: the open nodes are as before, and a token is taken.
-- Written by crates/rap_grammar_facts/facts from the scripts: an edit here is lost.
use Rattle.std.proofs.Common.{◌≡◌, ◌<◌, true, refl, arith}
use Rattle.rap_events.specs.State.{state}
use Rattle.rap_events.specs.declared.parser.Parser.{Parser}
use Rattle.rap_grammar_scripts.specs.Effects.{level}
use Rattle.rap_grammar_scripts.specs.Script.{Outcome}
use Rattle.rap_grammar_frame.proofs.Done.{moved}
use Rattle.rap_grammar_facts.specs.Alone.{DoesDeep}
use Rattle.rap_grammar_facts.proofs.Alone.{kept}
use Rattle.rap_grammar_scripts.proofs.Scripts.{scripts}
use Rattle.rap_grammar_scripts.specs.Macros as script

pub level_rules_in_brackets : level script.rules_in_brackets ≡ true
unfolding scripts
level_rules_in_brackets = refl

pub moved_macro_rules : {v : Outcome} → (p q : Parser) →
    DoesDeep script.macro_rules v (state p) (state q) →
    (state q).left < (state p).left
unfolding scripts
moved_macro_rules p q d = let x = d.at (state p).left (omega arith) in moved p q x refl

pub level_macro_def_body : level script.macro_def_body ≡ true
unfolding scripts
level_macro_def_body = refl

pub level_macro_def_tokens : level script.macro_def_tokens ≡ true
unfolding scripts
level_macro_def_tokens = refl

pub moved_macro_def : {v : Outcome} → (p q : Parser) →
    DoesDeep script.macro_def v (state p) (state q) →
    (state q).left < (state p).left
unfolding scripts
moved_macro_def p q d = let x = d.at (state p).left (omega arith) in moved p q x refl

pub moved_macro_call : {v : Outcome} → (p q : Parser) →
    DoesDeep script.macro_call v (state p) (state q) →
    (state q).left < (state p).left
unfolding scripts
moved_macro_call p q d = let x = d.at (state p).left (omega arith) in moved p q x refl

-- all of them
pub ruleset facts = (
  kept,
  level_rules_in_brackets,
  moved_macro_rules,
  level_macro_def_body,
  level_macro_def_tokens,
  moved_macro_def,
  moved_macro_call,
)
