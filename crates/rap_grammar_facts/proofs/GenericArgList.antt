-- What is computed of the scripts of GenericArgList: the open nodes are as before, and a token is taken.
-- Written by crates/rap_grammar_facts/facts from the scripts: an edit here is lost.
use Rattle.std.proofs.Common.{◌≡◌, ◌<◌, ℕ, true, Some, refl}
use Rattle.rap_events.specs.State.{state}
use Rattle.rap_events.specs.declared.parser.Parser.{Parser}
use Rattle.rap_grammar_scripts.specs.Effects.{level}
use Rattle.rap_grammar_scripts.specs.Exec.{Does}
use Rattle.rap_grammar_scripts.specs.Script.{Outcome, something}
use Rattle.rap_grammar_frame.specs.Grew.{Ended}
use Rattle.rap_grammar_frame.specs.Room.{element_room}
use Rattle.rap_grammar_frame.proofs.Done.{moved}
use Rattle.rap_grammar_frame.proofs.Ended.{ended}
use Rattle.rap_grammar_facts.proofs.Alone.{kept}
use Rattle.rap_grammar_scripts.proofs.Scripts.{scripts}
use Rattle.rap_grammar_scripts.specs.GenericArgList as script

pub moved_generic_arg_list : {n : ℕ} {v : Outcome} → (p q : Parser) →
    Does n script.generic_arg_list v (state p) (state q) →
    (state q).left < (state p).left
unfolding scripts
moved_generic_arg_list p q d = moved p q d refl

pub ended_generic_arg_list : {n : ℕ} {m : ℕ} → (p q : Parser) →
    Does n script.generic_arg_list something (state p) (state q) →
    (state p).marker ≡ Some m → Ended (state p) (state q) element_room
unfolding scripts
ended_generic_arg_list p q d e = ended element_room p q d refl (moved p q d refl) e

pub level_opt_generic_arg_list_expr : level script.opt_generic_arg_list_expr ≡ true
unfolding scripts
level_opt_generic_arg_list_expr = refl

-- all of them
pub ruleset facts = (kept, moved_generic_arg_list, ended_generic_arg_list, level_opt_generic_arg_list_expr)
