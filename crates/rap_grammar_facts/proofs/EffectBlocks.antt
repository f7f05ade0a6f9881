-- What is computed of the scripts of EffectBlocks: the open nodes are as before, and a token is taken.
-- Written by crates/rap_grammar_facts/facts from the scripts: an edit here is lost.
use Rattle.std.proofs.Common.{◌≡◌, ◌<◌, ℕ, true, refl}
use Rattle.rap_events.specs.State.{state}
use Rattle.rap_events.specs.declared.parser.Parser.{Parser}
use Rattle.rap_grammar_scripts.specs.Effects.{level}
use Rattle.rap_grammar_scripts.specs.Exec.{Does}
use Rattle.rap_grammar_scripts.specs.Script.{Outcome}
use Rattle.rap_grammar_frame.proofs.Done.{moved}
use Rattle.rap_grammar_facts.specs.Alone.{DoesAlone}
use Rattle.rap_grammar_facts.proofs.Alone.{kept}
use Rattle.rap_grammar_scripts.proofs.Scripts.{scripts}
use Rattle.rap_grammar_scripts.specs.EffectBlocks as script

pub level_plain_block : level script.plain_block ≡ true
unfolding scripts
level_plain_block = refl

pub moved_plain_block : {n : ℕ} {v : Outcome} → (p q : Parser) →
    Does n script.plain_block v (state p) (state q) →
    (state q).left < (state p).left
unfolding scripts
moved_plain_block p q d = moved p q d refl

pub level_try_modifier : level script.try_modifier ≡ true
unfolding scripts
level_try_modifier = refl

pub moved_try_modifier : {n : ℕ} {v : Outcome} → (p q : Parser) →
    Does n script.try_modifier v (state p) (state q) →
    (state q).left < (state p).left
unfolding scripts
moved_try_modifier p q d = moved p q d refl

pub level_try_block_expr : level script.try_block_expr ≡ true
unfolding scripts
level_try_block_expr = refl

pub moved_try_block_expr : {n : ℕ} {v : Outcome} → (p q : Parser) →
    Does n script.try_block_expr v (state p) (state q) →
    (state q).left < (state p).left
unfolding scripts
moved_try_block_expr p q d = moved p q d refl

pub level_effects : level script.effects ≡ true
unfolding scripts
level_effects = refl

pub moved_effects : {v : Outcome} → (p q : Parser) →
    DoesAlone script.effects v (state p) (state q) →
    (state q).left < (state p).left
unfolding scripts
moved_effects p q d = let x = d.at 0 in moved p q x refl

pub level_effect_block : level script.effect_block ≡ true
unfolding scripts
level_effect_block = refl

pub moved_effect_block : {n : ℕ} {v : Outcome} → (p q : Parser) →
    Does n script.effect_block v (state p) (state q) →
    (state q).left < (state p).left
unfolding scripts
moved_effect_block p q d = moved p q d refl

pub level_effect_expr : level script.effect_expr ≡ true
unfolding scripts
level_effect_expr = refl

-- all of them
pub ruleset facts = (
  kept,
  level_plain_block,
  moved_plain_block,
  level_try_modifier,
  moved_try_modifier,
  level_try_block_expr,
  moved_try_block_expr,
  level_effects,
  moved_effects,
  level_effect_block,
  moved_effect_block,
  level_effect_expr,
)
