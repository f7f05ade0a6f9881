-- What is computed of the scripts of Control: the open nodes are as before, and a token is taken.
-- Written by crates/rap_grammar_facts/facts from the scripts: an edit here is lost.
use Rattle.std.proofs.Common.{◌≡◌, ◌<◌, ◌≤◌, ℕ, true, refl}
use Rattle.rap_events.specs.State.{state}
use Rattle.rap_events.specs.declared.parser.Parser.{Parser}
use Rattle.rap_grammar_scripts.specs.Effects.{level}
use Rattle.rap_grammar_scripts.specs.Exec.{Does}
use Rattle.rap_grammar_scripts.specs.Script.{Outcome, something}
use Rattle.rap_grammar_scripts.specs.declared.arguments.Restrictions.{Restrictions}
use Rattle.rap_grammar_frame.proofs.Done.{less_left, marker_kept, moved}
use Rattle.rap_grammar_frame.proofs.Ended.{below_kept}
use Rattle.rap_grammar_facts.specs.Alone.{DoesAlone}
use Rattle.rap_grammar_facts.proofs.Alone.{kept}
use Rattle.rap_grammar_scripts.proofs.Scripts.{scripts}
use Rattle.rap_grammar_scripts.specs.Control as script

pub level_else_branch : level script.else_branch ≡ true
unfolding scripts
level_else_branch = refl

pub marker_else_branch : {n : ℕ} → (p q : Parser) →
    Does n script.else_branch something (state p) (state q) →
    (state q).marker ≡ (state p).marker
unfolding scripts
marker_else_branch p q d = marker_kept p q d refl

pub below_else_branch : {n : ℕ} → (p q : Parser) →
    Does n script.else_branch something (state p) (state q) →
    (state q).below ≡ (state p).below
unfolding scripts
below_else_branch p q d = below_kept p q d refl

pub fewer_else_branch : {n : ℕ} → (p q : Parser) →
    Does n script.else_branch something (state p) (state q) →
    (state q).left ≤ (state p).left
unfolding scripts
fewer_else_branch p q d = less_left p q d

pub level_if_expr : level script.if_expr ≡ true
unfolding scripts
level_if_expr = refl

pub moved_if_expr : {n : ℕ} {v : Outcome} → (p q : Parser) →
    Does n script.if_expr v (state p) (state q) →
    (state q).left < (state p).left
unfolding scripts
moved_if_expr p q d = moved p q d refl

pub level_let_expr : (a : Restrictions) → level (script.let_expr a) ≡ true
unfolding scripts
level_let_expr a = refl

pub moved_let_expr : {n : ℕ} {v : Outcome} (a : Restrictions) → (p q : Parser) →
    Does n (script.let_expr a) v (state p) (state q) →
    (state q).left < (state p).left
unfolding scripts
moved_let_expr a p q d = moved p q d refl

pub moved_loop_from : {n : ℕ} {v : Outcome} → (p q : Parser) →
    Does n script.loop_from v (state p) (state q) →
    (state q).left < (state p).left
unfolding scripts
moved_loop_from p q d = moved p q d refl

pub moved_while_from : {n : ℕ} {v : Outcome} → (p q : Parser) →
    Does n script.while_from v (state p) (state q) →
    (state q).left < (state p).left
unfolding scripts
moved_while_from p q d = moved p q d refl

pub moved_for_from : {n : ℕ} {v : Outcome} → (p q : Parser) →
    Does n script.for_from v (state p) (state q) →
    (state q).left < (state p).left
unfolding scripts
moved_for_from p q d = moved p q d refl

pub level_loop_expr : level script.loop_expr ≡ true
unfolding scripts
level_loop_expr = refl

pub moved_loop_expr : {n : ℕ} {v : Outcome} → (p q : Parser) →
    Does n script.loop_expr v (state p) (state q) →
    (state q).left < (state p).left
unfolding scripts
moved_loop_expr p q d = moved p q d refl

pub level_while_expr : level script.while_expr ≡ true
unfolding scripts
level_while_expr = refl

pub moved_while_expr : {n : ℕ} {v : Outcome} → (p q : Parser) →
    Does n script.while_expr v (state p) (state q) →
    (state q).left < (state p).left
unfolding scripts
moved_while_expr p q d = moved p q d refl

pub level_for_expr : level script.for_expr ≡ true
unfolding scripts
level_for_expr = refl

pub moved_for_expr : {n : ℕ} {v : Outcome} → (p q : Parser) →
    Does n script.for_expr v (state p) (state q) →
    (state q).left < (state p).left
unfolding scripts
moved_for_expr p q d = moved p q d refl

pub level_label : level script.label ≡ true
unfolding scripts
level_label = refl

pub moved_label : {v : Outcome} → (p q : Parser) →
    DoesAlone script.label v (state p) (state q) →
    (state q).left < (state p).left
unfolding scripts
moved_label p q d = let x = d.at 0 in moved p q x refl

pub level_labelled_expr : level script.labelled_expr ≡ true
unfolding scripts
level_labelled_expr = refl

pub moved_labelled_expr : {n : ℕ} {v : Outcome} → (p q : Parser) →
    Does n script.labelled_expr v (state p) (state q) →
    (state q).left < (state p).left
unfolding scripts
moved_labelled_expr p q d = moved p q d refl

-- all of them
pub ruleset facts = (
  kept,
  level_else_branch,
  marker_else_branch,
  below_else_branch,
  fewer_else_branch,
  level_if_expr,
  moved_if_expr,
  level_let_expr,
  moved_let_expr,
  moved_loop_from,
  moved_while_from,
  moved_for_from,
  level_loop_expr,
  moved_loop_expr,
  level_while_expr,
  moved_while_expr,
  level_for_expr,
  moved_for_expr,
  level_label,
  moved_label,
  level_labelled_expr,
  moved_labelled_expr,
)
