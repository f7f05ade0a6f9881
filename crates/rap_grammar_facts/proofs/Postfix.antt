-- What is computed of the scripts of Postfix: the open nodes are as before, and a token is taken.
-- Written by crates/rap_grammar_facts/facts from the scripts: an edit here is lost.
use Rattle.std.proofs.Common.{◌≡◌, ◌<◌, ◌≤◌, ℕ, Bool, true, false, refl}
use Rattle.rap_events.specs.State.{state}
use Rattle.rap_events.specs.declared.parser.Parser.{Parser}
use Rattle.rap_grammar_scripts.specs.Effects.{level}
use Rattle.rap_grammar_scripts.specs.Exec.{Does}
use Rattle.rap_grammar_scripts.specs.Script.{Outcome, something, again}
use Rattle.rap_grammar_frame.proofs.Done.{less_left, marker_kept, moved}
use Rattle.rap_grammar_frame.proofs.Ended.{below_kept}
use Rattle.rap_grammar_facts.specs.Alone.{DoesAlone}
use Rattle.rap_grammar_facts.proofs.Alone.{kept}
use Rattle.rap_grammar_facts.proofs.Moved.{turn_moved}
use Rattle.rap_grammar_scripts.proofs.Scripts.{scripts}
use Rattle.rap_grammar_scripts.specs.Postfix as script

pub level_arg_list : level script.arg_list ≡ true
unfolding scripts
level_arg_list = refl

pub moved_arg_list : {n : ℕ} {v : Outcome} → (p q : Parser) →
    Does n script.arg_list v (state p) (state q) →
    (state q).left < (state p).left
unfolding scripts
moved_arg_list p q d = moved p q d refl

pub marker_arg_list : {n : ℕ} → (p q : Parser) →
    Does n script.arg_list something (state p) (state q) →
    (state q).marker ≡ (state p).marker
unfolding scripts
marker_arg_list p q d = marker_kept p q d refl

pub below_arg_list : {n : ℕ} → (p q : Parser) →
    Does n script.arg_list something (state p) (state q) →
    (state q).below ≡ (state p).below
unfolding scripts
below_arg_list p q d = below_kept p q d refl

pub fewer_arg_list : {n : ℕ} → (p q : Parser) →
    Does n script.arg_list something (state p) (state q) →
    (state q).left ≤ (state p).left
unfolding scripts
fewer_arg_list p q d = less_left p q d

pub level_call_expr : level script.call_expr ≡ true
unfolding scripts
level_call_expr = refl

pub moved_call_expr : {n : ℕ} {v : Outcome} → (p q : Parser) →
    Does n script.call_expr v (state p) (state q) →
    (state q).left < (state p).left
unfolding scripts
moved_call_expr p q d = moved p q d refl

pub level_index_expr : level script.index_expr ≡ true
unfolding scripts
level_index_expr = refl

pub moved_index_expr : {n : ℕ} {v : Outcome} → (p q : Parser) →
    Does n script.index_expr v (state p) (state q) →
    (state q).left < (state p).left
unfolding scripts
moved_index_expr p q d = moved p q d refl

pub level_try_expr : level script.try_expr ≡ true
unfolding scripts
level_try_expr = refl

pub moved_try_expr : {v : Outcome} → (p q : Parser) →
    DoesAlone script.try_expr v (state p) (state q) →
    (state q).left < (state p).left
unfolding scripts
moved_try_expr p q d = let x = d.at 0 in moved p q x refl

pub moved_await_expr : {v : Outcome} → (p q : Parser) →
    DoesAlone script.await_expr v (state p) (state q) →
    (state q).left < (state p).left
unfolding scripts
moved_await_expr p q d = let x = d.at 0 in moved p q x refl

pub moved_postfix_dot_expr : {n : ℕ} {v : Outcome} → (p q : Parser) →
    Does n script.postfix_dot_expr v (state p) (state q) →
    (state q).left < (state p).left
unfolding scripts
moved_postfix_dot_expr p q d = moved p q d refl

pub onward_postfix_turn : {n : ℕ} {x y : Bool} (a : Bool) (b : Bool) → (p q : Parser) →
    Does n (script.postfix_turn a b) (again x y) (state p) (state q) →
    (state q).left < (state p).left
unfolding scripts
onward_postfix_turn true true p q d = turn_moved p q d refl
onward_postfix_turn true false p q d = turn_moved p q d refl
onward_postfix_turn false true p q d = turn_moved p q d refl
onward_postfix_turn false false p q d = turn_moved p q d refl

-- all of them
pub ruleset facts = (
  kept,
  level_arg_list,
  moved_arg_list,
  marker_arg_list,
  below_arg_list,
  fewer_arg_list,
  level_call_expr,
  moved_call_expr,
  level_index_expr,
  moved_index_expr,
  level_try_expr,
  moved_try_expr,
  moved_await_expr,
  moved_postfix_dot_expr,
  onward_postfix_turn,
)
