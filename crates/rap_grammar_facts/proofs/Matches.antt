-- What is computed of the scripts of Matches: the open nodes are as before, and a token is taken.
-- Written by crates/rap_grammar_facts/facts from the scripts: an edit here is lost.
use Rattle.std.proofs.Common.{◌≡◌, ◌<◌, ◌≤◌, ℕ, Bool, true, false, refl}
use Rattle.rap_events.specs.State.{state}
use Rattle.rap_events.specs.declared.parser.Parser.{Parser}
use Rattle.rap_grammar_scripts.specs.Effects.{level}
use Rattle.rap_grammar_scripts.specs.Exec.{Does}
use Rattle.rap_grammar_scripts.specs.Script.{Outcome, something, again}
use Rattle.rap_grammar_frame.specs.Grew.{Took}
use Rattle.rap_grammar_frame.specs.Room.{list_room}
use Rattle.rap_grammar_frame.proofs.Done.{less_left, marker_kept, moved, took}
use Rattle.rap_grammar_frame.proofs.Ended.{below_kept}
use Rattle.rap_grammar_facts.proofs.Alone.{kept}
use Rattle.rap_grammar_facts.proofs.Moved.{turn_moved}
use Rattle.rap_grammar_scripts.proofs.Scripts.{scripts}
use Rattle.rap_grammar_scripts.specs.Matches as script

pub level_match_guard : level script.match_guard ≡ true
unfolding scripts
level_match_guard = refl

pub moved_match_guard : {n : ℕ} {v : Outcome} → (p q : Parser) →
    Does n script.match_guard v (state p) (state q) →
    (state q).left < (state p).left
unfolding scripts
moved_match_guard p q d = moved p q d refl

pub level_arm_head : level script.arm_head ≡ true
unfolding scripts
level_arm_head = refl

pub marker_arm_head : {n : ℕ} → (p q : Parser) →
    Does n script.arm_head something (state p) (state q) →
    (state q).marker ≡ (state p).marker
unfolding scripts
marker_arm_head p q d = marker_kept p q d refl

pub below_arm_head : {n : ℕ} → (p q : Parser) →
    Does n script.arm_head something (state p) (state q) →
    (state q).below ≡ (state p).below
unfolding scripts
below_arm_head p q d = below_kept p q d refl

pub fewer_arm_head : {n : ℕ} → (p q : Parser) →
    Does n script.arm_head something (state p) (state q) →
    (state q).left ≤ (state p).left
unfolding scripts
fewer_arm_head p q d = less_left p q d

pub level_arm_end : (a : Bool) → level (script.arm_end a) ≡ true
unfolding scripts
level_arm_end true = refl
level_arm_end false = refl

pub level_arm_body : level script.arm_body ≡ true
unfolding scripts
level_arm_body = refl

pub marker_arm_body : {n : ℕ} → (p q : Parser) →
    Does n script.arm_body something (state p) (state q) →
    (state q).marker ≡ (state p).marker
unfolding scripts
marker_arm_body p q d = marker_kept p q d refl

pub below_arm_body : {n : ℕ} → (p q : Parser) →
    Does n script.arm_body something (state p) (state q) →
    (state q).below ≡ (state p).below
unfolding scripts
below_arm_body p q d = below_kept p q d refl

pub fewer_arm_body : {n : ℕ} → (p q : Parser) →
    Does n script.arm_body something (state p) (state q) →
    (state q).left ≤ (state p).left
unfolding scripts
fewer_arm_body p q d = less_left p q d

pub level_match_arm : level script.match_arm ≡ true
unfolding scripts
level_match_arm = refl

pub onward_arms_turn : {n : ℕ} {x y : Bool} (a : Bool) (b : Bool) → (p q : Parser) →
    Does n (script.arms_turn a b) (again x y) (state p) (state q) →
    (state q).left < (state p).left
unfolding scripts
onward_arms_turn true true p q d = turn_moved p q d refl
onward_arms_turn true false p q d = turn_moved p q d refl
onward_arms_turn false true p q d = turn_moved p q d refl
onward_arms_turn false false p q d = turn_moved p q d refl

pub level_match_arms : level script.match_arms ≡ true
unfolding scripts
level_match_arms = refl

pub marker_match_arms : {n : ℕ} → (p q : Parser) →
    Does n script.match_arms something (state p) (state q) →
    (state q).marker ≡ (state p).marker
unfolding scripts
marker_match_arms p q d = marker_kept p q d refl

pub below_match_arms : {n : ℕ} → (p q : Parser) →
    Does n script.match_arms something (state p) (state q) →
    (state q).below ≡ (state p).below
unfolding scripts
below_match_arms p q d = below_kept p q d refl

pub fewer_match_arms : {n : ℕ} → (p q : Parser) →
    Does n script.match_arms something (state p) (state q) →
    (state q).left ≤ (state p).left
unfolding scripts
fewer_match_arms p q d = less_left p q d

pub level_match_arm_list : level script.match_arm_list ≡ true
unfolding scripts
level_match_arm_list = refl

pub moved_match_arm_list : {n : ℕ} {v : Outcome} → (p q : Parser) →
    Does n script.match_arm_list v (state p) (state q) →
    (state q).left < (state p).left
unfolding scripts
moved_match_arm_list p q d = moved p q d refl

pub took_match_arm_list : {n : ℕ} → (p q : Parser) →
    Does n script.match_arm_list something (state p) (state q) →
    Took (state p) (state q) list_room
unfolding scripts
took_match_arm_list p q d = took list_room p q d refl (moved p q d refl)

pub level_match_expr : level script.match_expr ≡ true
unfolding scripts
level_match_expr = refl

pub moved_match_expr : {n : ℕ} {v : Outcome} → (p q : Parser) →
    Does n script.match_expr v (state p) (state q) →
    (state q).left < (state p).left
unfolding scripts
moved_match_expr p q d = moved p q d refl

-- all of them
pub ruleset facts = (
  kept,
  level_match_guard,
  moved_match_guard,
  level_arm_head,
  marker_arm_head,
  below_arm_head,
  fewer_arm_head,
  level_arm_end,
  level_arm_body,
  marker_arm_body,
  below_arm_body,
  fewer_arm_body,
  level_match_arm,
  onward_arms_turn,
  level_match_arms,
  marker_match_arms,
  below_match_arms,
  fewer_match_arms,
  level_match_arm_list,
  moved_match_arm_list,
  took_match_arm_list,
  level_match_expr,
  moved_match_expr,
)
