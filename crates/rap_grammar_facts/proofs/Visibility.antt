-- What is computed of the scripts of Visibility: the open nodes are as before, and a token is taken.
-- Written by crates/rap_grammar_facts/facts from the scripts: an edit here is lost.
use Rattle.std.proofs.Common.{◌≡◌, ◌<◌, ℕ, Bool, true, false, refl}
use Rattle.rap_events.specs.State.{state}
use Rattle.rap_events.specs.declared.parser.Parser.{Parser}
use Rattle.rap_grammar_scripts.specs.Effects.{level}
use Rattle.rap_grammar_scripts.specs.Exec.{Does}
use Rattle.rap_grammar_scripts.specs.Script.{Outcome, something}
use Rattle.rap_grammar_frame.specs.Grew.{Took}
use Rattle.rap_grammar_frame.specs.Room.{list_room}
use Rattle.rap_grammar_frame.proofs.Done.{moved, took}
use Rattle.rap_grammar_facts.proofs.Alone.{kept}
use Rattle.rap_grammar_scripts.proofs.Scripts.{scripts}
use Rattle.rap_grammar_scripts.specs.Visibility as script

pub level_restriction : level script.restriction ≡ true
unfolding scripts
level_restriction = refl

pub moved_restriction : {n : ℕ} {v : Outcome} → (p q : Parser) →
    Does n script.restriction v (state p) (state q) →
    (state q).left < (state p).left
unfolding scripts
moved_restriction p q d = moved p q d refl

pub took_restriction : {n : ℕ} → (p q : Parser) →
    Does n script.restriction something (state p) (state q) →
    Took (state p) (state q) list_room
unfolding scripts
took_restriction p q d = took list_room p q d refl (moved p q d refl)

pub level_in_restriction : level script.in_restriction ≡ true
unfolding scripts
level_in_restriction = refl

pub moved_in_restriction : {n : ℕ} {v : Outcome} → (p q : Parser) →
    Does n script.in_restriction v (state p) (state q) →
    (state q).left < (state p).left
unfolding scripts
moved_in_restriction p q d = moved p q d refl

pub took_in_restriction : {n : ℕ} → (p q : Parser) →
    Does n script.in_restriction something (state p) (state q) →
    Took (state p) (state q) list_room
unfolding scripts
took_in_restriction p q d = took list_room p q d refl (moved p q d refl)

pub level_opt_visibility_inner : (a : Bool) → level (script.opt_visibility_inner a) ≡ true
unfolding scripts
level_opt_visibility_inner true = refl
level_opt_visibility_inner false = refl

pub level_opt_visibility : (a : Bool) → level (script.opt_visibility a) ≡ true
unfolding scripts
level_opt_visibility true = refl
level_opt_visibility false = refl

-- all of them
pub ruleset facts = (
  kept,
  level_restriction,
  moved_restriction,
  took_restriction,
  level_in_restriction,
  moved_in_restriction,
  took_in_restriction,
  level_opt_visibility_inner,
  level_opt_visibility,
)
