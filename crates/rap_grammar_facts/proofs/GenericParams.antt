-- What is computed of the scripts of GenericParams: the open nodes are as before, and a token is taken.
-- Written by crates/rap_grammar_facts/facts from the scripts: an edit here is lost.
use Rattle.std.proofs.Common.{◌≡◌, ◌<◌, ℕ, Bool, true, refl}
use Rattle.rap_events.specs.State.{state, next}
use Rattle.rap_events.specs.declared.parser.Parser.{Parser}
use Rattle.rap_grammar_scripts.specs.Effects.{level}
use Rattle.rap_grammar_scripts.specs.Exec.{Does}
use Rattle.rap_grammar_scripts.specs.First.{is_where_predicate_first}
use Rattle.rap_grammar_scripts.specs.Script.{Outcome, something}
use Rattle.rap_grammar_scripts.specs.Words.{next_so, of_bool}
use Rattle.rap_grammar_frame.specs.Grew.{Grew, Took}
use Rattle.rap_grammar_frame.specs.Room.{element_room, element_events}
use Rattle.rap_grammar_frame.proofs.Done.{moved, took}
use Rattle.rap_grammar_frame.proofs.Ended.{moved_where}
use Rattle.rap_grammar_facts.specs.Alone.{DoesAlone}
use Rattle.rap_grammar_facts.proofs.Alone.{kept}
use Rattle.rap_grammar_facts.proofs.Grown.{grown, element_grew, element_took}
use Rattle.rap_grammar_facts.proofs.Moved.{moved_on}
use Rattle.rap_grammar_scripts.proofs.Scripts.{scripts}
use Rattle.rap_grammar_scripts.specs.GenericParams as script

pub level_use_bound_arg : level script.use_bound_arg ≡ true
unfolding scripts
level_use_bound_arg = refl

pub level_use_bound_args : level script.use_bound_args ≡ true
unfolding scripts
level_use_bound_args = refl

pub moved_use_bound_args : {v : Outcome} → (p q : Parser) →
    DoesAlone script.use_bound_args v (state p) (state q) →
    (state q).left < (state p).left
unfolding scripts
moved_use_bound_args p q d = let x = d.at 0 in moved p q x refl

pub level_use_bound : level script.use_bound ≡ true
unfolding scripts
level_use_bound = refl

pub moved_use_bound : {v : Outcome} → (p q : Parser) →
    DoesAlone script.use_bound v (state p) (state q) →
    (state q).left < (state p).left
unfolding scripts
moved_use_bound p q d = let x = d.at 0 in moved p q x refl

pub level_bound_constness : level script.bound_constness ≡ true
unfolding scripts
level_bound_constness = refl

pub level_bound_macro_call : level script.bound_macro_call ≡ true
unfolding scripts
level_bound_macro_call = refl

pub moved_bound_macro_call : {n : ℕ} {v : Outcome} → (p q : Parser) →
    Does n script.bound_macro_call v (state p) (state q) →
    (state q).left < (state p).left
unfolding scripts
moved_bound_macro_call p q d = moved p q d refl

pub level_path_type_bound : level script.path_type_bound ≡ true
unfolding scripts
level_path_type_bound = refl

pub level_bare_bound : level script.bare_bound ≡ true
unfolding scripts
level_bare_bound = refl

pub level_type_bound : level script.type_bound ≡ true
unfolding scripts
level_type_bound = refl

pub on_type_bound : {n : ℕ} (on : Bool) → (p q : Parser) →
    Does n script.type_bound (of_bool on) (state p) (state q) →
    on ≡ true → (state q).left < (state p).left
unfolding scripts
on_type_bound on p q d e = moved_on on p q d e refl

pub level_type_bounds : level script.type_bounds ≡ true
unfolding scripts
level_type_bounds = refl

pub grew_type_bounds : {n : ℕ} {v : Outcome} → (p q : Parser) →
    Does n script.type_bounds v (state p) (state q) →
    Grew (state p) (state q) 11
unfolding scripts
grew_type_bounds p q d = grown 11 p q d refl

pub level_bounds_without_colon : level script.bounds_without_colon ≡ true
unfolding scripts
level_bounds_without_colon = refl

pub level_bounds : level script.bounds ≡ true
unfolding scripts
level_bounds = refl

pub moved_bounds : {n : ℕ} {v : Outcome} → (p q : Parser) →
    Does n script.bounds v (state p) (state q) →
    (state q).left < (state p).left
unfolding scripts
moved_bounds p q d = moved p q d refl

pub level_lifetime_bound : level script.lifetime_bound ≡ true
unfolding scripts
level_lifetime_bound = refl

pub on_lifetime_bound : {n : ℕ} (on : Bool) → (p q : Parser) →
    Does n script.lifetime_bound (of_bool on) (state p) (state q) →
    on ≡ true → (state q).left < (state p).left
unfolding scripts
on_lifetime_bound on p q d e = moved_on on p q d e refl

pub level_lifetime_bound_list : level script.lifetime_bound_list ≡ true
unfolding scripts
level_lifetime_bound_list = refl

pub grew_lifetime_bound_list : {n : ℕ} {v : Outcome} → (p q : Parser) →
    Does n script.lifetime_bound_list v (state p) (state q) →
    Grew (state p) (state q) 12
unfolding scripts
grew_lifetime_bound_list p q d = grown 12 p q d refl

pub level_lifetime_bounds : level script.lifetime_bounds ≡ true
unfolding scripts
level_lifetime_bounds = refl

pub moved_lifetime_param : {n : ℕ} {v : Outcome} → (p q : Parser) →
    Does n script.lifetime_param v (state p) (state q) →
    (state q).left < (state p).left
unfolding scripts
moved_lifetime_param p q d = moved p q d refl

pub level_type_default : level script.type_default ≡ true
unfolding scripts
level_type_default = refl

pub level_const_type : level script.const_type ≡ true
unfolding scripts
level_const_type = refl

pub level_const_default : level script.const_default ≡ true
unfolding scripts
level_const_default = refl

pub moved_const_param : {n : ℕ} {v : Outcome} → (p q : Parser) →
    Does n script.const_param v (state p) (state q) →
    (state q).left < (state p).left
unfolding scripts
moved_const_param p q d = moved p q d refl

pub level_attributed_param : level script.attributed_param ≡ true
unfolding scripts
level_attributed_param = refl

pub took_on_attributed_param : {n : ℕ} (on : Bool) → (p q : Parser) →
    Does n script.attributed_param (of_bool on) (state p) (state q) →
    on ≡ true → Took (state p) (state q) element_room
unfolding scripts
took_on_attributed_param on p q d e = element_took on p q d e refl refl

pub grew_attributed_param : {n : ℕ} (on : Bool) → (p q : Parser) →
    Does n script.attributed_param (of_bool on) (state p) (state q) →
    Grew (state p) (state q) element_events
unfolding scripts
grew_attributed_param on p q d = element_grew on p q d refl refl refl

pub level_generic_params : level script.generic_params ≡ true
unfolding scripts
level_generic_params = refl

pub moved_generic_params : {n : ℕ} {v : Outcome} → (p q : Parser) →
    Does n script.generic_params v (state p) (state q) →
    (state q).left < (state p).left
unfolding scripts
moved_generic_params p q d = moved p q d refl

pub level_generic_param_list : level script.generic_param_list ≡ true
unfolding scripts
level_generic_param_list = refl

pub moved_generic_param_list : {n : ℕ} {v : Outcome} → (p q : Parser) →
    Does n script.generic_param_list v (state p) (state q) →
    (state q).left < (state p).left
unfolding scripts
moved_generic_param_list p q d = moved p q d refl

pub level_predicate_bounds : level script.predicate_bounds ≡ true
unfolding scripts
level_predicate_bounds = refl

pub level_type_predicate : level script.type_predicate ≡ true
unfolding scripts
level_type_predicate = refl

pub level_where_predicate : level script.where_predicate ≡ true
unfolding scripts
level_where_predicate = refl

pub took_where_predicate : {n : ℕ} → (p q : Parser) →
    Does n script.where_predicate something (state p) (state q) →
    is_where_predicate_first (next (state p)) ≡ true → Took (state p) (state q) element_room
unfolding scripts
took_where_predicate p q d e = took element_room p q d refl (moved_where (next_so is_where_predicate_first) p q d refl e)

pub level_after_predicate : level script.after_predicate ≡ true
unfolding scripts
level_after_predicate = refl

pub level_where_predicates : level script.where_predicates ≡ true
unfolding scripts
level_where_predicates = refl

pub grew_where_predicates : {n : ℕ} {v : Outcome} → (p q : Parser) →
    Does n script.where_predicates v (state p) (state q) →
    Grew (state p) (state q) 32
unfolding scripts
grew_where_predicates p q d = grown 32 p q d refl

pub level_where_clause : level script.where_clause ≡ true
unfolding scripts
level_where_clause = refl

pub moved_where_clause : {n : ℕ} {v : Outcome} → (p q : Parser) →
    Does n script.where_clause v (state p) (state q) →
    (state q).left < (state p).left
unfolding scripts
moved_where_clause p q d = moved p q d refl

-- all of them
pub ruleset facts = (
  kept,
  level_use_bound_arg,
  level_use_bound_args,
  moved_use_bound_args,
  level_use_bound,
  moved_use_bound,
  level_bound_constness,
  level_bound_macro_call,
  moved_bound_macro_call,
  level_path_type_bound,
  level_bare_bound,
  level_type_bound,
  on_type_bound,
  level_type_bounds,
  grew_type_bounds,
  level_bounds_without_colon,
  level_bounds,
  moved_bounds,
  level_lifetime_bound,
  on_lifetime_bound,
  level_lifetime_bound_list,
  grew_lifetime_bound_list,
  level_lifetime_bounds,
  moved_lifetime_param,
  level_type_default,
  level_const_type,
  level_const_default,
  moved_const_param,
  level_attributed_param,
  took_on_attributed_param,
  grew_attributed_param,
  level_generic_params,
  moved_generic_params,
  level_generic_param_list,
  moved_generic_param_list,
  level_predicate_bounds,
  level_type_predicate,
  level_where_predicate,
  took_where_predicate,
  level_after_predicate,
  level_where_predicates,
  grew_where_predicates,
  level_where_clause,
  moved_where_clause,
)
