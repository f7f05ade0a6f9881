-- What is computed of the scripts of Atom: the open nodes are as before, and a token is taken.
-- Written by crates/rap_grammar_facts/facts from the scripts: an edit here is lost.
use Rattle.std.proofs.Common.{◌≡◌, ◌<◌, ℕ, Bool, true, false, refl}
use Rattle.rap_events.specs.State.{state}
use Rattle.rap_events.specs.declared.parser.Parser.{Parser}
use Rattle.rap_grammar_scripts.specs.Effects.{level}
use Rattle.rap_grammar_scripts.specs.Exec.{Does}
use Rattle.rap_grammar_scripts.specs.Script.{Outcome}
use Rattle.rap_grammar_scripts.specs.declared.arguments.Restrictions.{Restrictions}
use Rattle.rap_grammar_frame.proofs.Done.{moved}
use Rattle.rap_grammar_facts.specs.Alone.{DoesAlone}
use Rattle.rap_grammar_facts.proofs.Alone.{kept}
use Rattle.rap_grammar_scripts.proofs.Scripts.{scripts}
use Rattle.rap_grammar_scripts.specs.Atom as script

pub level_path_expr : (a : Restrictions) → level (script.path_expr a) ≡ true
unfolding scripts
level_path_expr a = refl

pub level_tuple_elements : level script.tuple_elements ≡ true
unfolding scripts
level_tuple_elements = refl

pub level_tuple_expr : level script.tuple_expr ≡ true
unfolding scripts
level_tuple_expr = refl

pub moved_tuple_expr : {n : ℕ} {v : Outcome} → (p q : Parser) →
    Does n script.tuple_expr v (state p) (state q) →
    (state q).left < (state p).left
unfolding scripts
moved_tuple_expr p q d = moved p q d refl

pub level_after_element : (a : Bool) (b : Bool) → level (script.after_element a b) ≡ true
unfolding scripts
level_after_element true true = refl
level_after_element true false = refl
level_after_element false true = refl
level_after_element false false = refl

pub level_array_elements : level script.array_elements ≡ true
unfolding scripts
level_array_elements = refl

pub level_array_expr : level script.array_expr ≡ true
unfolding scripts
level_array_expr = refl

pub moved_array_expr : {n : ℕ} {v : Outcome} → (p q : Parser) →
    Does n script.array_expr v (state p) (state q) →
    (state q).left < (state p).left
unfolding scripts
moved_array_expr p q d = moved p q d refl

pub level_underscore_expr : level script.underscore_expr ≡ true
unfolding scripts
level_underscore_expr = refl

pub moved_underscore_expr : {v : Outcome} → (p q : Parser) →
    DoesAlone script.underscore_expr v (state p) (state q) →
    (state q).left < (state p).left
unfolding scripts
moved_underscore_expr p q d = let x = d.at 0 in moved p q x refl

pub level_jump_expr : (a : Restrictions) → level (script.jump_expr a) ≡ true
unfolding scripts
level_jump_expr a = refl

pub level_control_expr : (a : Restrictions) → level (script.control_expr a) ≡ true
unfolding scripts
level_control_expr a = refl

pub level_bracketed_expr : (a : Restrictions) → level (script.bracketed_expr a) ≡ true
unfolding scripts
level_bracketed_expr a = refl

pub level_atom_expr : (a : Restrictions) → level (script.atom_expr a) ≡ true
unfolding scripts
level_atom_expr a = refl

-- all of them
pub ruleset facts = (
  kept,
  level_path_expr,
  level_tuple_elements,
  level_tuple_expr,
  moved_tuple_expr,
  level_after_element,
  level_array_elements,
  level_array_expr,
  moved_array_expr,
  level_underscore_expr,
  moved_underscore_expr,
  level_jump_expr,
  level_control_expr,
  level_bracketed_expr,
  level_atom_expr,
)
