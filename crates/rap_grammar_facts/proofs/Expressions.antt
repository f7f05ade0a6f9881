-- What is computed of the scripts of Expressions: the open nodes are as before, and a token is taken.
-- Written by crates/rap_grammar_facts/facts from the scripts: an edit here is lost.
use Rattle.std.proofs.Common.{◌≡◌, ◌<◌, ℕ, Option, None, refl}
use Rattle.rap_events.specs.State.{state}
use Rattle.rap_events.specs.declared.parser.Parser.{Parser}
use Rattle.rap_events.specs.declared.parser.CompletedMarker.{CompletedMarker}
use Rattle.rap_grammar_scripts.specs.Exec.{Does}
use Rattle.rap_grammar_scripts.specs.Script.{Outcome}
use Rattle.rap_grammar_scripts.specs.Words.{of_expr}
use Rattle.rap_grammar_scripts.specs.declared.arguments.Restrictions.{Restrictions}
use Rattle.rap_grammar_scripts.specs.declared.arguments.BlockLike.{BlockLike}
use Rattle.rap_grammar_frame.specs.Grew.{Took}
use Rattle.rap_grammar_frame.specs.Room.{operand_room}
use Rattle.rap_grammar_facts.proofs.Alone.{kept}
use Rattle.rap_grammar_facts.proofs.Grown.{took_each, reported}
use Rattle.rap_grammar_scripts.proofs.Scripts.{scripts}
use Rattle.rap_grammar_scripts.specs.Expressions as script

pub took_lhs : {n : ℕ} {v : Outcome} (a : Restrictions) → (p q : Parser) →
    Does n (script.lhs a) v (state p) (state q) →
    (state q).left < (state p).left → Took (state p) (state q) operand_room
unfolding scripts
took_lhs a p q d e = took_each operand_room p q d refl e

pub reported_lhs : {n : ℕ} (o : Option (CompletedMarker × BlockLike)) (a : Restrictions) → (p q : Parser) →
    Does n (script.lhs a) (of_expr o) (state p) (state q) →
    o ≡ None → (state p).messages < (state q).messages
unfolding scripts
reported_lhs o a p q d e = reported o p q d e refl

-- all of them
pub ruleset facts = (kept, took_lhs, reported_lhs)
