-- What is computed of the scripts of Closures: the open nodes are as before, and a token is taken.
-- Written by crates/rap_grammar_facts/facts from the scripts: an edit here is lost.
use Rattle.std.proofs.Common.{◌≡◌, ◌<◌, ℕ, true, refl}
use Rattle.rap_events.specs.State.{state}
use Rattle.rap_events.specs.declared.parser.Parser.{Parser}
use Rattle.rap_grammar_scripts.specs.Effects.{level}
use Rattle.rap_grammar_scripts.specs.Exec.{Does}
use Rattle.rap_grammar_scripts.specs.First.{is_closure}
use Rattle.rap_grammar_scripts.specs.Script.{Outcome}
use Rattle.rap_grammar_scripts.specs.Test.{holds}
use Rattle.rap_grammar_frame.proofs.Ended.{moved_where}
use Rattle.rap_grammar_facts.proofs.Alone.{kept}
use Rattle.rap_grammar_scripts.proofs.Scripts.{scripts}
use Rattle.rap_grammar_scripts.specs.Closures as script

pub level_closure_binder : level script.closure_binder ≡ true
unfolding scripts
level_closure_binder = refl

pub level_closure_keywords : level script.closure_keywords ≡ true
unfolding scripts
level_closure_keywords = refl

pub level_closing_angles : level script.closing_angles ≡ true
unfolding scripts
level_closing_angles = refl

pub level_closure_body : level script.closure_body ≡ true
unfolding scripts
level_closure_body = refl

pub level_closure_expr : level script.closure_expr ≡ true
unfolding scripts
level_closure_expr = refl

pub moved_closure_expr : {n : ℕ} {v : Outcome} → (p q : Parser) →
    Does n script.closure_expr v (state p) (state q) →
    holds is_closure (state p).rest ≡ true → (state q).left < (state p).left
unfolding scripts
moved_closure_expr p q d e = moved_where is_closure p q d refl e

-- all of them
pub ruleset facts = (
  kept,
  level_closure_binder,
  level_closure_keywords,
  level_closing_angles,
  level_closure_body,
  level_closure_expr,
  moved_closure_expr,
)
