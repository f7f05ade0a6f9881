-- What is computed of the scripts of Builtin: the open nodes are as before, and a token is taken.
-- Written by crates/rap_grammar_facts/facts from the scripts: an edit here is lost.
use Rattle.std.proofs.Common.{◌≡◌, ◌<◌, ℕ, Bool, true, false, if◌then◌else◌, refl}
use Rattle.rap_events.specs.State.{state}
use Rattle.rap_events.specs.declared.parser.Parser.{Parser}
use Rattle.rap_grammar_scripts.specs.Effects.{level}
use Rattle.rap_grammar_scripts.specs.Exec.{Does}
use Rattle.rap_grammar_scripts.specs.Script.{Outcome, something, again, loop}
use Rattle.rap_grammar_frame.specs.Grew.{Grew}
use Rattle.rap_grammar_frame.proofs.Done.{moved}
use Rattle.rap_grammar_facts.specs.Alone.{DoesAlone}
use Rattle.rap_grammar_facts.proofs.Alone.{kept}
use Rattle.rap_grammar_facts.proofs.Grown.{grown}
use Rattle.rap_grammar_facts.proofs.Moved.{turned}
use Rattle.rap_grammar_facts.proofs.Turning.{TurnsAlone, turned_on, turned_off}
use Rattle.rap_grammar_scripts.proofs.Scripts.{scripts}
use Rattle.rap_grammar_scripts.specs.Builtin as script

pub turned_fields_turn : (on : Bool) (a : Bool) (b : Bool) → (p q : Parser) →
    DoesAlone (script.fields_turn a b) (if on then again false false else something) (state p) (state q) →
    on ≡ true → (state q).left < (state p).left
unfolding scripts
turned_fields_turn on a b p q d e = let x = d.at 0 in turned on p q x e refl

pub again_fields_turn : (on : Bool) (o p q : Parser) → TurnsAlone script.fields_turn o p →
    DoesAlone (script.fields_turn false false) (if on then again false false else something) (state p) (state q) →
    on ≡ true → TurnsAlone script.fields_turn o q
unfolding scripts
again_fields_turn on o p q t d e = turned_on on o p q t d e refl

pub last_fields_turn : (on : Bool) (o p q : Parser) → TurnsAlone script.fields_turn o p →
    DoesAlone (script.fields_turn false false) (if on then again false false else something) (state p) (state q) →
    on ≡ false → DoesAlone (loop script.fields_turn false false) something (state o) (state q)
unfolding scripts
last_fields_turn on o p q t d e = turned_off on o p q t d e

pub level_offset_of_fields : level script.offset_of_fields ≡ true
unfolding scripts
level_offset_of_fields = refl

pub level_offset_of : level script.offset_of ≡ true
unfolding scripts
level_offset_of = refl

pub grew_offset_of : {n : ℕ} {v : Outcome} → (p q : Parser) →
    Does n script.offset_of v (state p) (state q) →
    Grew (state p) (state q) 40
unfolding scripts
grew_offset_of p q d = grown 40 p q d refl

pub level_opt_arg_name : level script.opt_arg_name ≡ true
unfolding scripts
level_opt_arg_name = refl

pub level_format_arguments : level script.format_arguments ≡ true
unfolding scripts
level_format_arguments = refl

pub level_format_args : level script.format_args ≡ true
unfolding scripts
level_format_args = refl

pub grew_format_args : {n : ℕ} {v : Outcome} → (p q : Parser) →
    Does n script.format_args v (state p) (state q) →
    Grew (state p) (state q) 40
unfolding scripts
grew_format_args p q d = grown 40 p q d refl

pub level_cfg : level script.cfg ≡ true
unfolding scripts
level_cfg = refl

pub grew_cfg : {n : ℕ} {v : Outcome} → (p q : Parser) →
    Does n script.cfg v (state p) (state q) →
    Grew (state p) (state q) 40
unfolding scripts
grew_cfg p q d = grown 40 p q d refl

pub level_asm_name : level script.asm_name ≡ true
unfolding scripts
level_asm_name = refl

pub grew_asm_name : {v : Outcome} → (p q : Parser) →
    DoesAlone script.asm_name v (state p) (state q) →
    Grew (state p) (state q) 0
unfolding scripts
grew_asm_name p q d = let x = d.at 0 in grown 0 p q x refl

pub level_builtin_expr : level script.builtin_expr ≡ true
unfolding scripts
level_builtin_expr = refl

pub moved_builtin_expr : {n : ℕ} {v : Outcome} → (p q : Parser) →
    Does n script.builtin_expr v (state p) (state q) →
    (state q).left < (state p).left
unfolding scripts
moved_builtin_expr p q d = moved p q d refl

-- all of them
pub ruleset facts = (
  kept,
  turned_fields_turn,
  again_fields_turn,
  last_fields_turn,
  level_offset_of_fields,
  level_offset_of,
  grew_offset_of,
  level_opt_arg_name,
  level_format_arguments,
  level_format_args,
  grew_format_args,
  level_cfg,
  grew_cfg,
  level_asm_name,
  grew_asm_name,
  level_builtin_expr,
  moved_builtin_expr,
)
