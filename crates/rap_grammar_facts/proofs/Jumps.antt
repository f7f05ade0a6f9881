-- What is computed of the scripts of Jumps: the open nodes are as before, and a token is taken.
-- Written by crates/rap_grammar_facts/facts from the scripts: an edit here is lost.
use Rattle.std.proofs.Common.{◌≡◌, ◌<◌, ◌≤◌, ℕ, Bool, true, false, refl}
use Rattle.rap_events.specs.State.{state}
use Rattle.rap_events.specs.declared.parser.Parser.{Parser}
use Rattle.rap_grammar_scripts.specs.Effects.{level}
use Rattle.rap_grammar_scripts.specs.Exec.{Does}
use Rattle.rap_grammar_scripts.specs.Script.{Outcome, something}
use Rattle.rap_grammar_scripts.specs.declared.arguments.Restrictions.{Restrictions}
use Rattle.rap_grammar_frame.proofs.Done.{less_left, marker_kept, moved}
use Rattle.rap_grammar_frame.proofs.Ended.{below_kept}
use Rattle.rap_grammar_facts.specs.Alone.{DoesAlone}
use Rattle.rap_grammar_facts.proofs.Alone.{kept}
use Rattle.rap_grammar_scripts.proofs.Scripts.{scripts}
use Rattle.rap_grammar_scripts.specs.Jumps as script

pub level_opt_expr : (a : Bool) → level (script.opt_expr a) ≡ true
unfolding scripts
level_opt_expr true = refl
level_opt_expr false = refl

pub marker_opt_expr : {n : ℕ} (a : Bool) → (p q : Parser) →
    Does n (script.opt_expr a) something (state p) (state q) →
    (state q).marker ≡ (state p).marker
unfolding scripts
marker_opt_expr true p q d = marker_kept p q d refl
marker_opt_expr false p q d = marker_kept p q d refl

pub below_opt_expr : {n : ℕ} (a : Bool) → (p q : Parser) →
    Does n (script.opt_expr a) something (state p) (state q) →
    (state q).below ≡ (state p).below
unfolding scripts
below_opt_expr true p q d = below_kept p q d refl
below_opt_expr false p q d = below_kept p q d refl

pub fewer_opt_expr : {n : ℕ} (a : Bool) → (p q : Parser) →
    Does n (script.opt_expr a) something (state p) (state q) →
    (state q).left ≤ (state p).left
unfolding scripts
fewer_opt_expr true p q d = less_left p q d
fewer_opt_expr false p q d = less_left p q d

pub level_opt_lifetime : level script.opt_lifetime ≡ true
unfolding scripts
level_opt_lifetime = refl

pub level_return_expr : level script.return_expr ≡ true
unfolding scripts
level_return_expr = refl

pub moved_return_expr : {n : ℕ} {v : Outcome} → (p q : Parser) →
    Does n script.return_expr v (state p) (state q) →
    (state q).left < (state p).left
unfolding scripts
moved_return_expr p q d = moved p q d refl

pub level_become_expr : level script.become_expr ≡ true
unfolding scripts
level_become_expr = refl

pub moved_become_expr : {n : ℕ} {v : Outcome} → (p q : Parser) →
    Does n script.become_expr v (state p) (state q) →
    (state q).left < (state p).left
unfolding scripts
moved_become_expr p q d = moved p q d refl

pub level_yield_expr : level script.yield_expr ≡ true
unfolding scripts
level_yield_expr = refl

pub moved_yield_expr : {n : ℕ} {v : Outcome} → (p q : Parser) →
    Does n script.yield_expr v (state p) (state q) →
    (state q).left < (state p).left
unfolding scripts
moved_yield_expr p q d = moved p q d refl

pub level_yeet_expr : level script.yeet_expr ≡ true
unfolding scripts
level_yeet_expr = refl

pub moved_yeet_expr : {n : ℕ} {v : Outcome} → (p q : Parser) →
    Does n script.yeet_expr v (state p) (state q) →
    (state q).left < (state p).left
unfolding scripts
moved_yeet_expr p q d = moved p q d refl

pub level_continue_expr : level script.continue_expr ≡ true
unfolding scripts
level_continue_expr = refl

pub moved_continue_expr : {v : Outcome} → (p q : Parser) →
    DoesAlone script.continue_expr v (state p) (state q) →
    (state q).left < (state p).left
unfolding scripts
moved_continue_expr p q d = let x = d.at 0 in moved p q x refl

pub level_break_expr : (a : Restrictions) → level (script.break_expr a) ≡ true
unfolding scripts
level_break_expr a = refl

pub moved_break_expr : {n : ℕ} {v : Outcome} (a : Restrictions) → (p q : Parser) →
    Does n (script.break_expr a) v (state p) (state q) →
    (state q).left < (state p).left
unfolding scripts
moved_break_expr a p q d = moved p q d refl

-- all of them
pub ruleset facts = (
  kept,
  level_opt_expr,
  marker_opt_expr,
  below_opt_expr,
  fewer_opt_expr,
  level_opt_lifetime,
  level_return_expr,
  moved_return_expr,
  level_become_expr,
  moved_become_expr,
  level_yield_expr,
  moved_yield_expr,
  level_yeet_expr,
  moved_yeet_expr,
  level_continue_expr,
  moved_continue_expr,
  level_break_expr,
  moved_break_expr,
)
