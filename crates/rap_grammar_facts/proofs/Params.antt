-- What is computed of the scripts of Params: the open nodes are as before, and a token is taken.
-- Written by crates/rap_grammar_facts/facts from the scripts: an edit here is lost.
use Rattle.std.proofs.Common.{◌≡◌, ◌<◌, ℕ, Bool, true, refl}
use Rattle.rap_events.specs.State.{state}
use Rattle.rap_events.specs.declared.parser.Parser.{Parser}
use Rattle.rap_grammar_scripts.specs.Effects.{level}
use Rattle.rap_grammar_scripts.specs.Exec.{Does}
use Rattle.rap_grammar_scripts.specs.Script.{Outcome, something}
use Rattle.rap_grammar_scripts.specs.Words.{of_bool}
use Rattle.rap_grammar_scripts.specs.declared.arguments.Flavor.{Flavor}
use Rattle.rap_grammar_scripts.specs.declared.arguments.Flavor.TheVariants as flavor
use Rattle.rap_grammar_frame.specs.Grew.{Took}
use Rattle.rap_grammar_frame.specs.Room.{list_room}
use Rattle.rap_grammar_frame.proofs.Done.{marker_kept, moved, took}
use Rattle.rap_grammar_facts.specs.Alone.{DoesAlone}
use Rattle.rap_grammar_facts.proofs.Alone.{kept}
use Rattle.rap_grammar_facts.proofs.Moved.{moved_on}
use Rattle.rap_grammar_scripts.proofs.Scripts.{scripts}
use Rattle.rap_grammar_scripts.specs.Params as script

pub level_self_as_name : level script.self_as_name ≡ true
unfolding scripts
level_self_as_name = refl

pub moved_self_as_name : {v : Outcome} → (p q : Parser) →
    DoesAlone script.self_as_name v (state p) (state q) →
    (state q).left < (state p).left
unfolding scripts
moved_self_as_name p q d = let x = d.at 0 in moved p q x refl

pub level_self_value : level script.self_value ≡ true
unfolding scripts
level_self_value = refl

pub level_self_mut : level script.self_mut ≡ true
unfolding scripts
level_self_mut = refl

pub level_self_ref : level script.self_ref ≡ true
unfolding scripts
level_self_ref = refl

pub moved_self_ref : {v : Outcome} → (p q : Parser) →
    DoesAlone script.self_ref v (state p) (state q) →
    (state q).left < (state p).left
unfolding scripts
moved_self_ref p q d = let x = d.at 0 in moved p q x refl

pub level_opt_self_param : level script.opt_self_param ≡ true
unfolding scripts
level_opt_self_param = refl

pub level_variadic_param : level script.variadic_param ≡ true
unfolding scripts
level_variadic_param = refl

pub level_param_type : level script.param_type ≡ true
unfolding scripts
level_param_type = refl

pub level_fn_def_param : level script.fn_def_param ≡ true
unfolding scripts
level_fn_def_param = refl

pub level_fn_ptr_param : level script.fn_ptr_param ≡ true
unfolding scripts
level_fn_ptr_param = refl

pub level_closure_param : level script.closure_param ≡ true
unfolding scripts
level_closure_param = refl

pub marker_param : {n : ℕ} (a : Flavor) → (p q : Parser) →
    Does n (script.param a) something (state p) (state q) →
    (state q).marker ≡ (state p).marker
unfolding scripts
marker_param flavor.FnDef p q d = marker_kept p q d refl
marker_param flavor.FnPointer p q d = marker_kept p q d refl
marker_param flavor.Closure p q d = marker_kept p q d refl

pub level_after_param : level script.after_param ≡ true
unfolding scripts
level_after_param = refl

pub level_attributed_param : (a : Flavor) → level (script.attributed_param a) ≡ true
unfolding scripts
level_attributed_param flavor.FnDef = refl
level_attributed_param flavor.FnPointer = refl
level_attributed_param flavor.Closure = refl

pub on_attributed_param : {n : ℕ} (on : Bool) (a : Flavor) → (p q : Parser) →
    Does n (script.attributed_param a) (of_bool on) (state p) (state q) →
    on ≡ true → (state q).left < (state p).left
unfolding scripts
on_attributed_param on flavor.FnDef p q d e = moved_on on p q d e refl
on_attributed_param on flavor.FnPointer p q d e = moved_on on p q d e refl
on_attributed_param on flavor.Closure p q d e = moved_on on p q d e refl

pub level_params : (a : Flavor) → level (script.params a) ≡ true
unfolding scripts
level_params flavor.FnDef = refl
level_params flavor.FnPointer = refl
level_params flavor.Closure = refl

pub level_after_self : level script.after_self ≡ true
unfolding scripts
level_after_self = refl

pub level_first_param : level script.first_param ≡ true
unfolding scripts
level_first_param = refl

pub level_fn_def_params : level script.fn_def_params ≡ true
unfolding scripts
level_fn_def_params = refl

pub marker_params_of : {n : ℕ} (a : Flavor) → (p q : Parser) →
    Does n (script.params_of a) something (state p) (state q) →
    (state q).marker ≡ (state p).marker
unfolding scripts
marker_params_of flavor.FnDef p q d = marker_kept p q d refl
marker_params_of flavor.FnPointer p q d = marker_kept p q d refl
marker_params_of flavor.Closure p q d = marker_kept p q d refl

pub level_list_ : (a : Flavor) → level (script.list_ a) ≡ true
unfolding scripts
level_list_ flavor.FnDef = refl
level_list_ flavor.FnPointer = refl
level_list_ flavor.Closure = refl

pub moved_list_ : {n : ℕ} {v : Outcome} (a : Flavor) → (p q : Parser) →
    Does n (script.list_ a) v (state p) (state q) →
    (state q).left < (state p).left
unfolding scripts
moved_list_ flavor.FnDef p q d = moved p q d refl
moved_list_ flavor.FnPointer p q d = moved p q d refl
moved_list_ flavor.Closure p q d = moved p q d refl

pub level_param_list_fn_def : level script.param_list_fn_def ≡ true
unfolding scripts
level_param_list_fn_def = refl

pub moved_param_list_fn_def : {n : ℕ} {v : Outcome} → (p q : Parser) →
    Does n script.param_list_fn_def v (state p) (state q) →
    (state q).left < (state p).left
unfolding scripts
moved_param_list_fn_def p q d = moved p q d refl

pub took_param_list_fn_def : {n : ℕ} → (p q : Parser) →
    Does n script.param_list_fn_def something (state p) (state q) →
    Took (state p) (state q) list_room
unfolding scripts
took_param_list_fn_def p q d = took list_room p q d refl (moved p q d refl)

pub level_param_list_fn_ptr : level script.param_list_fn_ptr ≡ true
unfolding scripts
level_param_list_fn_ptr = refl

pub moved_param_list_fn_ptr : {n : ℕ} {v : Outcome} → (p q : Parser) →
    Does n script.param_list_fn_ptr v (state p) (state q) →
    (state q).left < (state p).left
unfolding scripts
moved_param_list_fn_ptr p q d = moved p q d refl

pub took_param_list_fn_ptr : {n : ℕ} → (p q : Parser) →
    Does n script.param_list_fn_ptr something (state p) (state q) →
    Took (state p) (state q) list_room
unfolding scripts
took_param_list_fn_ptr p q d = took list_room p q d refl (moved p q d refl)

pub level_param_list_closure : level script.param_list_closure ≡ true
unfolding scripts
level_param_list_closure = refl

pub moved_param_list_closure : {n : ℕ} {v : Outcome} → (p q : Parser) →
    Does n script.param_list_closure v (state p) (state q) →
    (state q).left < (state p).left
unfolding scripts
moved_param_list_closure p q d = moved p q d refl

pub took_param_list_closure : {n : ℕ} → (p q : Parser) →
    Does n script.param_list_closure something (state p) (state q) →
    Took (state p) (state q) list_room
unfolding scripts
took_param_list_closure p q d = took list_room p q d refl (moved p q d refl)

-- all of them
pub ruleset facts = (
  kept,
  level_self_as_name,
  moved_self_as_name,
  level_self_value,
  level_self_mut,
  level_self_ref,
  moved_self_ref,
  level_opt_self_param,
  level_variadic_param,
  level_param_type,
  level_fn_def_param,
  level_fn_ptr_param,
  level_closure_param,
  marker_param,
  level_after_param,
  level_attributed_param,
  on_attributed_param,
  level_params,
  level_after_self,
  level_first_param,
  level_fn_def_params,
  marker_params_of,
  level_list_,
  moved_list_,
  level_param_list_fn_def,
  moved_param_list_fn_def,
  took_param_list_fn_def,
  level_param_list_fn_ptr,
  moved_param_list_fn_ptr,
  took_param_list_fn_ptr,
  level_param_list_closure,
  moved_param_list_closure,
  took_param_list_closure,
)
