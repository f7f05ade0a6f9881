-- What is computed of the scripts of Items: the open nodes are as before, and a token is taken.
-- Written by crates/rap_grammar_facts/facts from the scripts: an edit here is lost.
use Rattle.std.proofs.Common.{◌≡◌, ◌<◌, ◌≤◌, ℕ, Bool, true, false, refl}
use Rattle.rap_events.specs.State.{state}
use Rattle.rap_events.specs.declared.parser.Parser.{Parser}
use Rattle.rap_grammar_scripts.specs.Effects.{level}
use Rattle.rap_grammar_scripts.specs.Exec.{Does}
use Rattle.rap_grammar_scripts.specs.Script.{Outcome}
use Rattle.rap_grammar_frame.proofs.Done.{less_left, moved}
use Rattle.rap_grammar_facts.specs.Alone.{DoesAlone}
use Rattle.rap_grammar_facts.proofs.Alone.{kept}
use Rattle.rap_grammar_scripts.proofs.Scripts.{scripts}
use Rattle.rap_grammar_scripts.specs.Items as script

pub moved_global_asm : {n : ℕ} {v : Outcome} → (p q : Parser) →
    Does n script.global_asm v (state p) (state q) →
    (state q).left < (state p).left
unfolding scripts
moved_global_asm p q d = moved p q d refl

pub fewer_opt_item_without_modifiers : {n : ℕ} {v : Outcome} → (p q : Parser) →
    Does n script.opt_item_without_modifiers v (state p) (state q) →
    (state q).left ≤ (state p).left
unfolding scripts
fewer_opt_item_without_modifiers p q d = less_left p q d

pub fewer_opt_item : {n : ℕ} {v : Outcome} (a : Bool) → (p q : Parser) →
    Does n (script.opt_item a) v (state p) (state q) →
    (state q).left ≤ (state p).left
unfolding scripts
fewer_opt_item true p q d = less_left p q d
fewer_opt_item false p q d = less_left p q d

pub level_after_item : level script.after_item ≡ true
unfolding scripts
level_after_item = refl

pub level_unmatched_brace : level script.unmatched_brace ≡ true
unfolding scripts
level_unmatched_brace = refl

pub moved_unmatched_brace : {v : Outcome} → (p q : Parser) →
    DoesAlone script.unmatched_brace v (state p) (state q) →
    (state q).left < (state p).left
unfolding scripts
moved_unmatched_brace p q d = let x = d.at 0 in moved p q x refl

pub level_missing_item : (a : Bool) → level (script.missing_item a) ≡ true
unfolding scripts
level_missing_item true = refl
level_missing_item false = refl

-- all of them
pub ruleset facts = (
  kept,
  moved_global_asm,
  fewer_opt_item_without_modifiers,
  fewer_opt_item,
  level_after_item,
  level_unmatched_brace,
  moved_unmatched_brace,
  level_missing_item,
)
