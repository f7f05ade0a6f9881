-- What is computed of the scripts of Types: the open nodes are as before, and a token is taken.
-- Written by crates/rap_grammar_facts/facts from the scripts: an edit here is lost.
use Rattle.std.proofs.Common.{◌≡◌, ◌<◌, ◌≤◌, ℕ, Bool, true, false, refl}
use Rattle.rap_events.specs.State.{state}
use Rattle.rap_events.specs.declared.parser.Parser.{Parser}
use Rattle.rap_grammar_scripts.specs.Effects.{level}
use Rattle.rap_grammar_scripts.specs.Exec.{Does}
use Rattle.rap_grammar_scripts.specs.First.{is_path_start}
use Rattle.rap_grammar_scripts.specs.Script.{Outcome, something}
use Rattle.rap_grammar_scripts.specs.Test.{holds}
use Rattle.rap_grammar_frame.specs.Grew.{Took}
use Rattle.rap_grammar_frame.specs.Room.{type_room}
use Rattle.rap_grammar_frame.proofs.Done.{less_left, marker_kept, moved, took}
use Rattle.rap_grammar_frame.proofs.Ended.{below_kept, moved_where}
use Rattle.rap_grammar_facts.specs.Alone.{DoesAlone}
use Rattle.rap_grammar_facts.proofs.Alone.{kept}
use Rattle.rap_grammar_scripts.proofs.Scripts.{scripts}
use Rattle.rap_grammar_scripts.specs.Types as script

pub level_tuple_types : level script.tuple_types ≡ true
unfolding scripts
level_tuple_types = refl

pub level_paren_or_tuple_type : level script.paren_or_tuple_type ≡ true
unfolding scripts
level_paren_or_tuple_type = refl

pub moved_paren_or_tuple_type : {n : ℕ} {v : Outcome} → (p q : Parser) →
    Does n script.paren_or_tuple_type v (state p) (state q) →
    (state q).left < (state p).left
unfolding scripts
moved_paren_or_tuple_type p q d = moved p q d refl

pub level_never_type : level script.never_type ≡ true
unfolding scripts
level_never_type = refl

pub moved_never_type : {v : Outcome} → (p q : Parser) →
    DoesAlone script.never_type v (state p) (state q) →
    (state q).left < (state p).left
unfolding scripts
moved_never_type p q d = let x = d.at 0 in moved p q x refl

pub level_ptr_qualifier : level script.ptr_qualifier ≡ true
unfolding scripts
level_ptr_qualifier = refl

pub level_ptr_type : level script.ptr_type ≡ true
unfolding scripts
level_ptr_type = refl

pub moved_ptr_type : {n : ℕ} {v : Outcome} → (p q : Parser) →
    Does n script.ptr_type v (state p) (state q) →
    (state q).left < (state p).left
unfolding scripts
moved_ptr_type p q d = moved p q d refl

pub level_array_length : level script.array_length ≡ true
unfolding scripts
level_array_length = refl

pub moved_array_length : {n : ℕ} {v : Outcome} → (p q : Parser) →
    Does n script.array_length v (state p) (state q) →
    (state q).left < (state p).left
unfolding scripts
moved_array_length p q d = moved p q d refl

pub level_array_or_slice_type : level script.array_or_slice_type ≡ true
unfolding scripts
level_array_or_slice_type = refl

pub moved_array_or_slice_type : {n : ℕ} {v : Outcome} → (p q : Parser) →
    Does n script.array_or_slice_type v (state p) (state q) →
    (state q).left < (state p).left
unfolding scripts
moved_array_or_slice_type p q d = moved p q d refl

pub level_ref_type : level script.ref_type ≡ true
unfolding scripts
level_ref_type = refl

pub moved_ref_type : {n : ℕ} {v : Outcome} → (p q : Parser) →
    Does n script.ref_type v (state p) (state q) →
    (state q).left < (state p).left
unfolding scripts
moved_ref_type p q d = moved p q d refl

pub level_infer_type : level script.infer_type ≡ true
unfolding scripts
level_infer_type = refl

pub moved_infer_type : {v : Outcome} → (p q : Parser) →
    DoesAlone script.infer_type v (state p) (state q) →
    (state q).left < (state p).left
unfolding scripts
moved_infer_type p q d = let x = d.at 0 in moved p q x refl

pub level_fn_qualifiers : level script.fn_qualifiers ≡ true
unfolding scripts
level_fn_qualifiers = refl

pub level_fn_ptr_params : level script.fn_ptr_params ≡ true
unfolding scripts
level_fn_ptr_params = refl

pub level_fn_ptr_type : level script.fn_ptr_type ≡ true
unfolding scripts
level_fn_ptr_type = refl

pub level_for_type : (a : Bool) → level (script.for_type a) ≡ true
unfolding scripts
level_for_type true = refl
level_for_type false = refl

pub moved_for_type : {n : ℕ} {v : Outcome} (a : Bool) → (p q : Parser) →
    Does n (script.for_type a) v (state p) (state q) →
    (state q).left < (state p).left
unfolding scripts
moved_for_type true p q d = moved p q d refl
moved_for_type false p q d = moved p q d refl

pub level_impl_trait_type : level script.impl_trait_type ≡ true
unfolding scripts
level_impl_trait_type = refl

pub moved_impl_trait_type : {n : ℕ} {v : Outcome} → (p q : Parser) →
    Does n script.impl_trait_type v (state p) (state q) →
    (state q).left < (state p).left
unfolding scripts
moved_impl_trait_type p q d = moved p q d refl

pub level_dyn_trait_type : level script.dyn_trait_type ≡ true
unfolding scripts
level_dyn_trait_type = refl

pub moved_dyn_trait_type : {n : ℕ} {v : Outcome} → (p q : Parser) →
    Does n script.dyn_trait_type v (state p) (state q) →
    (state q).left < (state p).left
unfolding scripts
moved_dyn_trait_type p q d = moved p q d refl

pub level_dyn_trait_type_weak : level script.dyn_trait_type_weak ≡ true
unfolding scripts
level_dyn_trait_type_weak = refl

pub moved_dyn_trait_type_weak : {n : ℕ} {v : Outcome} → (p q : Parser) →
    Does n script.dyn_trait_type_weak v (state p) (state q) →
    (state q).left < (state p).left
unfolding scripts
moved_dyn_trait_type_weak p q d = moved p q d refl

pub level_bare_dyn_trait_type : level script.bare_dyn_trait_type ≡ true
unfolding scripts
level_bare_dyn_trait_type = refl

pub level_pattern_type_parts : level script.pattern_type_parts ≡ true
unfolding scripts
level_pattern_type_parts = refl

pub level_pattern_type : level script.pattern_type ≡ true
unfolding scripts
level_pattern_type = refl

pub moved_pattern_type : {n : ℕ} {v : Outcome} → (p q : Parser) →
    Does n script.pattern_type v (state p) (state q) →
    (state q).left < (state p).left
unfolding scripts
moved_pattern_type p q d = moved p q d refl

pub level_path_or_macro : (a : Bool) → level (script.path_or_macro a) ≡ true
unfolding scripts
level_path_or_macro true = refl
level_path_or_macro false = refl

pub level_path_or_macro_type : (a : Bool) → level (script.path_or_macro_type a) ≡ true
unfolding scripts
level_path_or_macro_type true = refl
level_path_or_macro_type false = refl

pub level_path_type_bounds : (a : Bool) → level (script.path_type_bounds a) ≡ true
unfolding scripts
level_path_type_bounds true = refl
level_path_type_bounds false = refl

pub took_path_type_bounds : {n : ℕ} (a : Bool) → (p q : Parser) →
    Does n (script.path_type_bounds a) something (state p) (state q) →
    holds is_path_start (state p).rest ≡ true → Took (state p) (state q) type_room
unfolding scripts
took_path_type_bounds true p q d e = took type_room p q d refl (moved_where is_path_start p q d refl e)
took_path_type_bounds false p q d e = took type_room p q d refl (moved_where is_path_start p q d refl e)

pub level_missing_type : level script.missing_type ≡ true
unfolding scripts
level_missing_type = refl

pub level_named_type : (a : Bool) → level (script.named_type a) ≡ true
unfolding scripts
level_named_type true = refl
level_named_type false = refl

pub level_type_with_bounds_cond : (a : Bool) → level (script.type_with_bounds_cond a) ≡ true
unfolding scripts
level_type_with_bounds_cond true = refl
level_type_with_bounds_cond false = refl

pub marker_type_with_bounds_cond : {n : ℕ} (a : Bool) → (p q : Parser) →
    Does n (script.type_with_bounds_cond a) something (state p) (state q) →
    (state q).marker ≡ (state p).marker
unfolding scripts
marker_type_with_bounds_cond true p q d = marker_kept p q d refl
marker_type_with_bounds_cond false p q d = marker_kept p q d refl

pub below_type_with_bounds_cond : {n : ℕ} (a : Bool) → (p q : Parser) →
    Does n (script.type_with_bounds_cond a) something (state p) (state q) →
    (state q).below ≡ (state p).below
unfolding scripts
below_type_with_bounds_cond true p q d = below_kept p q d refl
below_type_with_bounds_cond false p q d = below_kept p q d refl

pub fewer_type_with_bounds_cond : {n : ℕ} (a : Bool) → (p q : Parser) →
    Does n (script.type_with_bounds_cond a) something (state p) (state q) →
    (state q).left ≤ (state p).left
unfolding scripts
fewer_type_with_bounds_cond true p q d = less_left p q d
fewer_type_with_bounds_cond false p q d = less_left p q d

-- all of them
pub ruleset facts = (
  kept,
  level_tuple_types,
  level_paren_or_tuple_type,
  moved_paren_or_tuple_type,
  level_never_type,
  moved_never_type,
  level_ptr_qualifier,
  level_ptr_type,
  moved_ptr_type,
  level_array_length,
  moved_array_length,
  level_array_or_slice_type,
  moved_array_or_slice_type,
  level_ref_type,
  moved_ref_type,
  level_infer_type,
  moved_infer_type,
  level_fn_qualifiers,
  level_fn_ptr_params,
  level_fn_ptr_type,
  level_for_type,
  moved_for_type,
  level_impl_trait_type,
  moved_impl_trait_type,
  level_dyn_trait_type,
  moved_dyn_trait_type,
  level_dyn_trait_type_weak,
  moved_dyn_trait_type_weak,
  level_bare_dyn_trait_type,
  level_pattern_type_parts,
  level_pattern_type,
  moved_pattern_type,
  level_path_or_macro,
  level_path_or_macro_type,
  level_path_type_bounds,
  took_path_type_bounds,
  level_missing_type,
  level_named_type,
  level_type_with_bounds_cond,
  marker_type_with_bounds_cond,
  below_type_with_bounds_cond,
  fewer_type_with_bounds_cond,
)
