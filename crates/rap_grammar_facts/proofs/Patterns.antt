-- What is computed of the scripts of Patterns: the open nodes are as before, and a token is taken.
-- Written by crates/rap_grammar_facts/facts from the scripts: an edit here is lost.
use Rattle.std.proofs.Common.{◌≡◌, ◌<◌, ◌≤◌, ℕ, Bool, true, false, refl}
use Rattle.rap_base.specs.TokenKind.{EOF, R_CURLY}
use Rattle.rap_events.specs.Composite.{is_at}
use Rattle.rap_events.specs.State.{state, next}
use Rattle.rap_events.specs.declared.parser.Parser.{Parser}
use Rattle.rap_grammar_scripts.specs.Effects.{level}
use Rattle.rap_grammar_scripts.specs.Exec.{Does}
use Rattle.rap_grammar_scripts.specs.First.{is_pat_top_first}
use Rattle.rap_grammar_scripts.specs.Script.{Outcome, something}
use Rattle.rap_grammar_scripts.specs.Words.{next_so}
use Rattle.rap_grammar_frame.specs.Grew.{Took}
use Rattle.rap_grammar_frame.specs.Room.{list_room}
use Rattle.rap_grammar_frame.proofs.Done.{less_left, marker_kept, moved, took}
use Rattle.rap_grammar_frame.proofs.Ended.{below_kept, moved_where}
use Rattle.rap_grammar_facts.specs.Alone.{DoesAlone}
use Rattle.rap_grammar_facts.proofs.Alone.{kept}
use Rattle.rap_grammar_facts.proofs.Moved.{moved_inside}
use Rattle.rap_grammar_scripts.proofs.Scripts.{scripts}
use Rattle.rap_grammar_scripts.specs.Patterns as script

pub level_binding : level script.binding ≡ true
unfolding scripts
level_binding = refl

pub level_at_pattern : (a : Bool) → level (script.at_pattern a) ≡ true
unfolding scripts
level_at_pattern true = refl
level_at_pattern false = refl

pub level_ident_pat : (a : Bool) → level (script.ident_pat a) ≡ true
unfolding scripts
level_ident_pat true = refl
level_ident_pat false = refl

pub level_box_pat : level script.box_pat ≡ true
unfolding scripts
level_box_pat = refl

pub moved_box_pat : {n : ℕ} {v : Outcome} → (p q : Parser) →
    Does n script.box_pat v (state p) (state q) →
    (state q).left < (state p).left
unfolding scripts
moved_box_pat p q d = moved p q d refl

pub level_const_block_pat : level script.const_block_pat ≡ true
unfolding scripts
level_const_block_pat = refl

pub moved_const_block_pat : {n : ℕ} {v : Outcome} → (p q : Parser) →
    Does n script.const_block_pat v (state p) (state q) →
    (state q).left < (state p).left
unfolding scripts
moved_const_block_pat p q d = moved p q d refl

pub level_literal_pat : level script.literal_pat ≡ true
unfolding scripts
level_literal_pat = refl

pub level_wildcard_pat : level script.wildcard_pat ≡ true
unfolding scripts
level_wildcard_pat = refl

pub moved_wildcard_pat : {v : Outcome} → (p q : Parser) →
    DoesAlone script.wildcard_pat v (state p) (state q) →
    (state q).left < (state p).left
unfolding scripts
moved_wildcard_pat p q d = let x = d.at 0 in moved p q x refl

pub level_ref_pat : level script.ref_pat ≡ true
unfolding scripts
level_ref_pat = refl

pub moved_ref_pat : {n : ℕ} {v : Outcome} → (p q : Parser) →
    Does n script.ref_pat v (state p) (state q) →
    (state q).left < (state p).left
unfolding scripts
moved_ref_pat p q d = moved p q d refl

pub level_not_null_pat : level script.not_null_pat ≡ true
unfolding scripts
level_not_null_pat = refl

pub moved_not_null_pat : {n : ℕ} {v : Outcome} → (p q : Parser) →
    Does n script.not_null_pat v (state p) (state q) →
    (state q).left < (state p).left
unfolding scripts
moved_not_null_pat p q d = moved p q d refl

pub level_pat_list : (a : ℕ) → level (script.pat_list a) ≡ true
unfolding scripts
level_pat_list a = refl

pub level_slice_pat : level script.slice_pat ≡ true
unfolding scripts
level_slice_pat = refl

pub moved_slice_pat : {n : ℕ} {v : Outcome} → (p q : Parser) →
    Does n script.slice_pat v (state p) (state q) →
    (state q).left < (state p).left
unfolding scripts
moved_slice_pat p q d = moved p q d refl

pub level_leading_comma : level script.leading_comma ≡ true
unfolding scripts
level_leading_comma = refl

pub moved_tuple_element : {n : ℕ} {v : Outcome} (a : Bool) → (p q : Parser) →
    Does n (script.tuple_element a) v (state p) (state q) →
    is_pat_top_first (next (state p)) ≡ true → (state q).left < (state p).left
unfolding scripts
moved_tuple_element true p q d e = moved_where (next_so is_pat_top_first) p q d refl e
moved_tuple_element false p q d e = moved_where (next_so is_pat_top_first) p q d refl e

pub level_tuple_patterns : (a : Bool) → level (script.tuple_patterns a) ≡ true
unfolding scripts
level_tuple_patterns true = refl
level_tuple_patterns false = refl

pub level_tuple_pat : level script.tuple_pat ≡ true
unfolding scripts
level_tuple_pat = refl

pub moved_tuple_pat : {n : ℕ} {v : Outcome} → (p q : Parser) →
    Does n script.tuple_pat v (state p) (state q) →
    (state q).left < (state p).left
unfolding scripts
moved_tuple_pat p q d = moved p q d refl

pub level_record_pat_field : level script.record_pat_field ≡ true
unfolding scripts
level_record_pat_field = refl

pub level_record_pat_element : level script.record_pat_element ≡ true
unfolding scripts
level_record_pat_element = refl

pub inside_record_pat_turn : {n : ℕ} {v : Outcome} (a : Bool) (b : Bool) → (p q : Parser) →
    Does n (script.record_pat_turn a b) v (state p) (state q) →
    is_at EOF (state p).rest ≡ false → is_at R_CURLY (state p).rest ≡ false →
    (state q).left < (state p).left
unfolding scripts
inside_record_pat_turn true true p q d e f = moved_inside p q d e f refl
inside_record_pat_turn true false p q d e f = moved_inside p q d e f refl
inside_record_pat_turn false true p q d e f = moved_inside p q d e f refl
inside_record_pat_turn false false p q d e f = moved_inside p q d e f refl

pub level_record_pat_fields : level script.record_pat_fields ≡ true
unfolding scripts
level_record_pat_fields = refl

pub level_record_pat_field_list : level script.record_pat_field_list ≡ true
unfolding scripts
level_record_pat_field_list = refl

pub moved_record_pat_field_list : {n : ℕ} {v : Outcome} → (p q : Parser) →
    Does n script.record_pat_field_list v (state p) (state q) →
    (state q).left < (state p).left
unfolding scripts
moved_record_pat_field_list p q d = moved p q d refl

pub took_record_pat_field_list : {n : ℕ} → (p q : Parser) →
    Does n script.record_pat_field_list something (state p) (state q) →
    Took (state p) (state q) list_room
unfolding scripts
took_record_pat_field_list p q d = took list_room p q d refl (moved p q d refl)

pub level_tuple_pat_fields : level script.tuple_pat_fields ≡ true
unfolding scripts
level_tuple_pat_fields = refl

pub moved_tuple_pat_fields : {n : ℕ} {v : Outcome} → (p q : Parser) →
    Does n script.tuple_pat_fields v (state p) (state q) →
    (state q).left < (state p).left
unfolding scripts
moved_tuple_pat_fields p q d = moved p q d refl

pub took_tuple_pat_fields : {n : ℕ} → (p q : Parser) →
    Does n script.tuple_pat_fields something (state p) (state q) →
    Took (state p) (state q) list_room
unfolding scripts
took_tuple_pat_fields p q d = took list_room p q d refl (moved p q d refl)

pub level_path_or_macro_pat : level script.path_or_macro_pat ≡ true
unfolding scripts
level_path_or_macro_pat = refl

pub level_builtin_pat : level script.builtin_pat ≡ true
unfolding scripts
level_builtin_pat = refl

pub moved_builtin_pat : {n : ℕ} {v : Outcome} → (p q : Parser) →
    Does n script.builtin_pat v (state p) (state q) →
    (state q).left < (state p).left
unfolding scripts
moved_builtin_pat p q d = moved p q d refl

pub level_missing_pat : (a : Bool) → level (script.missing_pat a) ≡ true
unfolding scripts
level_missing_pat true = refl
level_missing_pat false = refl

pub level_symbol_pat : (a : Bool) → level (script.symbol_pat a) ≡ true
unfolding scripts
level_symbol_pat true = refl
level_symbol_pat false = refl

pub level_atom_pat : (a : Bool) → level (script.atom_pat a) ≡ true
unfolding scripts
level_atom_pat true = refl
level_atom_pat false = refl

pub marker_atom_pat : {n : ℕ} {v : Outcome} (a : Bool) → (p q : Parser) →
    Does n (script.atom_pat a) v (state p) (state q) →
    (state q).marker ≡ (state p).marker
unfolding scripts
marker_atom_pat true p q d = marker_kept p q d refl
marker_atom_pat false p q d = marker_kept p q d refl

pub below_atom_pat : {n : ℕ} {v : Outcome} (a : Bool) → (p q : Parser) →
    Does n (script.atom_pat a) v (state p) (state q) →
    (state q).below ≡ (state p).below
unfolding scripts
below_atom_pat true p q d = below_kept p q d refl
below_atom_pat false p q d = below_kept p q d refl

pub fewer_atom_pat : {n : ℕ} {v : Outcome} (a : Bool) → (p q : Parser) →
    Does n (script.atom_pat a) v (state p) (state q) →
    (state q).left ≤ (state p).left
unfolding scripts
fewer_atom_pat true p q d = less_left p q d
fewer_atom_pat false p q d = less_left p q d

pub level_range_op : (a : Bool) → level (script.range_op a) ≡ true
unfolding scripts
level_range_op true = refl
level_range_op false = refl

pub level_range_to_pat : (a : Bool) → level (script.range_to_pat a) ≡ true
unfolding scripts
level_range_to_pat true = refl
level_range_to_pat false = refl

pub moved_range_to_pat : {n : ℕ} {v : Outcome} (a : Bool) → (p q : Parser) →
    Does n (script.range_to_pat a) v (state p) (state q) →
    (state q).left < (state p).left
unfolding scripts
moved_range_to_pat true p q d = moved p q d refl
moved_range_to_pat false p q d = moved p q d refl

pub level_rest_pat : (a : Bool) → level (script.rest_pat a) ≡ true
unfolding scripts
level_rest_pat true = refl
level_rest_pat false = refl

pub moved_rest_pat : {n : ℕ} {v : Outcome} (a : Bool) → (p q : Parser) →
    Does n (script.rest_pat a) v (state p) (state q) →
    (state q).left < (state p).left
unfolding scripts
moved_rest_pat true p q d = moved p q d refl
moved_rest_pat false p q d = moved p q d refl

pub level_pattern_single_r : (a : Bool) → level (script.pattern_single_r a) ≡ true
unfolding scripts
level_pattern_single_r true = refl
level_pattern_single_r false = refl

pub marker_pattern_single_r : {n : ℕ} (a : Bool) → (p q : Parser) →
    Does n (script.pattern_single_r a) something (state p) (state q) →
    (state q).marker ≡ (state p).marker
unfolding scripts
marker_pattern_single_r true p q d = marker_kept p q d refl
marker_pattern_single_r false p q d = marker_kept p q d refl

pub below_pattern_single_r : {n : ℕ} (a : Bool) → (p q : Parser) →
    Does n (script.pattern_single_r a) something (state p) (state q) →
    (state q).below ≡ (state p).below
unfolding scripts
below_pattern_single_r true p q d = below_kept p q d refl
below_pattern_single_r false p q d = below_kept p q d refl

pub fewer_pattern_single_r : {n : ℕ} (a : Bool) → (p q : Parser) →
    Does n (script.pattern_single_r a) something (state p) (state q) →
    (state q).left ≤ (state p).left
unfolding scripts
fewer_pattern_single_r true p q d = less_left p q d
fewer_pattern_single_r false p q d = less_left p q d

pub level_alternatives : (a : Bool) → level (script.alternatives a) ≡ true
unfolding scripts
level_alternatives true = refl
level_alternatives false = refl

pub marker_alternatives : {n : ℕ} (a : Bool) → (p q : Parser) →
    Does n (script.alternatives a) something (state p) (state q) →
    (state q).marker ≡ (state p).marker
unfolding scripts
marker_alternatives true p q d = marker_kept p q d refl
marker_alternatives false p q d = marker_kept p q d refl

pub below_alternatives : {n : ℕ} (a : Bool) → (p q : Parser) →
    Does n (script.alternatives a) something (state p) (state q) →
    (state q).below ≡ (state p).below
unfolding scripts
below_alternatives true p q d = below_kept p q d refl
below_alternatives false p q d = below_kept p q d refl

pub fewer_alternatives : {n : ℕ} (a : Bool) → (p q : Parser) →
    Does n (script.alternatives a) something (state p) (state q) →
    (state q).left ≤ (state p).left
unfolding scripts
fewer_alternatives true p q d = less_left p q d
fewer_alternatives false p q d = less_left p q d

pub level_pattern_r : (a : Bool) → level (script.pattern_r a) ≡ true
unfolding scripts
level_pattern_r true = refl
level_pattern_r false = refl

-- all of them
pub ruleset facts = (
  kept,
  level_binding,
  level_at_pattern,
  level_ident_pat,
  level_box_pat,
  moved_box_pat,
  level_const_block_pat,
  moved_const_block_pat,
  level_literal_pat,
  level_wildcard_pat,
  moved_wildcard_pat,
  level_ref_pat,
  moved_ref_pat,
  level_not_null_pat,
  moved_not_null_pat,
  level_pat_list,
  level_slice_pat,
  moved_slice_pat,
  level_leading_comma,
  moved_tuple_element,
  level_tuple_patterns,
  level_tuple_pat,
  moved_tuple_pat,
  level_record_pat_field,
  level_record_pat_element,
  inside_record_pat_turn,
  level_record_pat_fields,
  level_record_pat_field_list,
  moved_record_pat_field_list,
  took_record_pat_field_list,
  level_tuple_pat_fields,
  moved_tuple_pat_fields,
  took_tuple_pat_fields,
  level_path_or_macro_pat,
  level_builtin_pat,
  moved_builtin_pat,
  level_missing_pat,
  level_symbol_pat,
  level_atom_pat,
  marker_atom_pat,
  below_atom_pat,
  fewer_atom_pat,
  level_range_op,
  level_range_to_pat,
  moved_range_to_pat,
  level_rest_pat,
  moved_rest_pat,
  level_pattern_single_r,
  marker_pattern_single_r,
  below_pattern_single_r,
  fewer_pattern_single_r,
  level_alternatives,
  marker_alternatives,
  below_alternatives,
  fewer_alternatives,
  level_pattern_r,
)
