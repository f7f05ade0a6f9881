-- What is computed of the scripts of Operators: the open nodes are as before, and a token is taken.
-- Written by crates/rap_grammar_facts/facts from the scripts: an edit here is lost.
use Rattle.std.proofs.Common.{◌≡◌, ◌<◌, ℕ, true, refl}
use Rattle.rap_events.specs.State.{state}
use Rattle.rap_events.specs.declared.parser.Parser.{Parser}
use Rattle.rap_grammar_scripts.specs.Effects.{level}
use Rattle.rap_grammar_scripts.specs.Exec.{Does}
use Rattle.rap_grammar_scripts.specs.Script.{Outcome}
use Rattle.rap_grammar_scripts.specs.declared.arguments.Restrictions.{Restrictions}
use Rattle.rap_grammar_frame.specs.Grew.{Grew}
use Rattle.rap_grammar_frame.proofs.Done.{moved}
use Rattle.rap_grammar_facts.proofs.Alone.{kept}
use Rattle.rap_grammar_facts.proofs.Grown.{grown}
use Rattle.rap_grammar_scripts.proofs.Scripts.{scripts}
use Rattle.rap_grammar_scripts.specs.Operators as script

pub level_cast_expr : level script.cast_expr ≡ true
unfolding scripts
level_cast_expr = refl

pub moved_cast_expr : {n : ℕ} {v : Outcome} → (p q : Parser) →
    Does n script.cast_expr v (state p) (state q) →
    (state q).left < (state p).left
unfolding scripts
moved_cast_expr p q d = moved p q d refl

pub grew_climb : {n : ℕ} {v : Outcome} (a : Restrictions) (b : ℕ) → (p q : Parser) →
    Does n (script.climb a b) v (state p) (state q) →
    Grew (state p) (state q) 0
unfolding scripts
grew_climb a b p q d = grown 0 p q d refl

pub level_ref_qualifier : level script.ref_qualifier ≡ true
unfolding scripts
level_ref_qualifier = refl

pub level_ref_expr : (a : Restrictions) → level (script.ref_expr a) ≡ true
unfolding scripts
level_ref_expr a = refl

pub moved_ref_expr : {n : ℕ} {v : Outcome} (a : Restrictions) → (p q : Parser) →
    Does n (script.ref_expr a) v (state p) (state q) →
    (state q).left < (state p).left
unfolding scripts
moved_ref_expr a p q d = moved p q d refl

pub level_prefix_expr : (a : Restrictions) → level (script.prefix_expr a) ≡ true
unfolding scripts
level_prefix_expr a = refl

pub moved_prefix_expr : {n : ℕ} {v : Outcome} (a : Restrictions) → (p q : Parser) →
    Does n (script.prefix_expr a) v (state p) (state q) →
    (state q).left < (state p).left
unfolding scripts
moved_prefix_expr a p q d = moved p q d refl

-- all of them
pub ruleset facts = (
  kept,
  level_cast_expr,
  moved_cast_expr,
  grew_climb,
  level_ref_qualifier,
  level_ref_expr,
  moved_ref_expr,
  level_prefix_expr,
  moved_prefix_expr,
)
