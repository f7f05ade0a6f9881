-- What is computed of the scripts of Adt: the open nodes are as before, and a token is taken.
-- Written by crates/rap_grammar_facts/facts from the scripts: an edit here is lost.
use Rattle.std.proofs.Common.{◌≡◌, ◌<◌, ℕ, Bool, true, false, List, refl}
use Rattle.rap_base.specs.TokenKind.{EOF, R_CURLY}
use Rattle.rap_events.specs.Composite.{is_at}
use Rattle.rap_events.specs.State.{state}
use Rattle.rap_events.specs.declared.parser.Parser.{Parser}
use Rattle.rap_grammar_scripts.specs.Effects.{level}
use Rattle.rap_grammar_scripts.specs.Exec.{Does}
use Rattle.rap_grammar_scripts.specs.Script.{Outcome, something}
use Rattle.rap_grammar_scripts.specs.Words.{of_bool}
use Rattle.rap_grammar_frame.specs.Grew.{Grew, Took}
use Rattle.rap_grammar_frame.specs.Room.{element_room, element_events, list_room}
use Rattle.rap_grammar_frame.proofs.Done.{moved, took}
use Rattle.rap_grammar_facts.proofs.Alone.{kept}
use Rattle.rap_grammar_facts.proofs.Grown.{element_grew, element_took}
use Rattle.rap_grammar_facts.proofs.Moved.{moved_inside}
use Rattle.rap_grammar_scripts.proofs.Scripts.{scripts}
use Rattle.rap_grammar_scripts.specs.Adt as script

pub level_missing_in_list : (a : List ℕ) → level (script.missing_in_list a) ≡ true
unfolding scripts
level_missing_in_list a = refl

pub level_comma_in_braces : level script.comma_in_braces ≡ true
unfolding scripts
level_comma_in_braces = refl

pub level_opt_value : level script.opt_value ≡ true
unfolding scripts
level_opt_value = refl

pub level_mut_restriction : level script.mut_restriction ≡ true
unfolding scripts
level_mut_restriction = refl

pub moved_mut_restriction : {n : ℕ} {v : Outcome} → (p q : Parser) →
    Does n script.mut_restriction v (state p) (state q) →
    (state q).left < (state p).left
unfolding scripts
moved_mut_restriction p q d = moved p q d refl

pub level_opt_mut_restriction : level script.opt_mut_restriction ≡ true
unfolding scripts
level_opt_mut_restriction = refl

pub level_opt_unsafe : level script.opt_unsafe ≡ true
unfolding scripts
level_opt_unsafe = refl

pub level_record_field : level script.record_field ≡ true
unfolding scripts
level_record_field = refl

pub level_field_or_block : level script.field_or_block ≡ true
unfolding scripts
level_field_or_block = refl

pub inside_field_or_block : {n : ℕ} {v : Outcome} → (p q : Parser) →
    Does n script.field_or_block v (state p) (state q) →
    is_at EOF (state p).rest ≡ false → is_at R_CURLY (state p).rest ≡ false →
    (state q).left < (state p).left
unfolding scripts
inside_field_or_block p q d e f = moved_inside p q d e f refl

pub level_record_fields : level script.record_fields ≡ true
unfolding scripts
level_record_fields = refl

pub level_record_field_list : level script.record_field_list ≡ true
unfolding scripts
level_record_field_list = refl

pub moved_record_field_list : {n : ℕ} {v : Outcome} → (p q : Parser) →
    Does n script.record_field_list v (state p) (state q) →
    (state q).left < (state p).left
unfolding scripts
moved_record_field_list p q d = moved p q d refl

pub took_record_field_list : {n : ℕ} → (p q : Parser) →
    Does n script.record_field_list something (state p) (state q) →
    Took (state p) (state q) list_room
unfolding scripts
took_record_field_list p q d = took list_room p q d refl (moved p q d refl)

pub level_tuple_field : level script.tuple_field ≡ true
unfolding scripts
level_tuple_field = refl

pub took_on_tuple_field : {n : ℕ} (on : Bool) → (p q : Parser) →
    Does n script.tuple_field (of_bool on) (state p) (state q) →
    on ≡ true → Took (state p) (state q) element_room
unfolding scripts
took_on_tuple_field on p q d e = element_took on p q d e refl refl

pub grew_tuple_field : {n : ℕ} (on : Bool) → (p q : Parser) →
    Does n script.tuple_field (of_bool on) (state p) (state q) →
    Grew (state p) (state q) element_events
unfolding scripts
grew_tuple_field on p q d = element_grew on p q d refl refl refl

pub level_tuple_field_list : level script.tuple_field_list ≡ true
unfolding scripts
level_tuple_field_list = refl

pub moved_tuple_field_list : {n : ℕ} {v : Outcome} → (p q : Parser) →
    Does n script.tuple_field_list v (state p) (state q) →
    (state q).left < (state p).left
unfolding scripts
moved_tuple_field_list p q d = moved p q d refl

pub level_variant_fields : level script.variant_fields ≡ true
unfolding scripts
level_variant_fields = refl

pub level_variant : level script.variant ≡ true
unfolding scripts
level_variant = refl

pub level_variant_or_block : level script.variant_or_block ≡ true
unfolding scripts
level_variant_or_block = refl

pub inside_variant_or_block : {n : ℕ} {v : Outcome} → (p q : Parser) →
    Does n script.variant_or_block v (state p) (state q) →
    is_at EOF (state p).rest ≡ false → is_at R_CURLY (state p).rest ≡ false →
    (state q).left < (state p).left
unfolding scripts
inside_variant_or_block p q d e f = moved_inside p q d e f refl

pub level_variants : level script.variants ≡ true
unfolding scripts
level_variants = refl

pub level_variant_list : level script.variant_list ≡ true
unfolding scripts
level_variant_list = refl

pub moved_variant_list : {n : ℕ} {v : Outcome} → (p q : Parser) →
    Does n script.variant_list v (state p) (state q) →
    (state q).left < (state p).left
unfolding scripts
moved_variant_list p q d = moved p q d refl

pub took_variant_list : {n : ℕ} → (p q : Parser) →
    Does n script.variant_list something (state p) (state q) →
    Took (state p) (state q) list_room
unfolding scripts
took_variant_list p q d = took list_room p q d refl (moved p q d refl)

pub moved_enum_ : {n : ℕ} {v : Outcome} → (p q : Parser) →
    Does n script.enum_ v (state p) (state q) →
    (state q).left < (state p).left
unfolding scripts
moved_enum_ p q d = moved p q d refl

pub level_fields_behind_where : level script.fields_behind_where ≡ true
unfolding scripts
level_fields_behind_where = refl

pub level_tuple_fields : level script.tuple_fields ≡ true
unfolding scripts
level_tuple_fields = refl

pub moved_tuple_fields : {n : ℕ} {v : Outcome} → (p q : Parser) →
    Does n script.tuple_fields v (state p) (state q) →
    (state q).left < (state p).left
unfolding scripts
moved_tuple_fields p q d = moved p q d refl

pub level_struct_fields : level script.struct_fields ≡ true
unfolding scripts
level_struct_fields = refl

pub level_fields : (a : Bool) → level (script.fields a) ≡ true
unfolding scripts
level_fields true = refl
level_fields false = refl

pub level_struct_or_union : (a : Bool) → level (script.struct_or_union a) ≡ true
unfolding scripts
level_struct_or_union true = refl
level_struct_or_union false = refl

pub moved_strukt : {n : ℕ} {v : Outcome} → (p q : Parser) →
    Does n script.strukt v (state p) (state q) →
    (state q).left < (state p).left
unfolding scripts
moved_strukt p q d = moved p q d refl

pub moved_union : {n : ℕ} {v : Outcome} → (p q : Parser) →
    Does n script.union v (state p) (state q) →
    (state q).left < (state p).left
unfolding scripts
moved_union p q d = moved p q d refl

-- all of them
pub ruleset facts = (
  kept,
  level_missing_in_list,
  level_comma_in_braces,
  level_opt_value,
  level_mut_restriction,
  moved_mut_restriction,
  level_opt_mut_restriction,
  level_opt_unsafe,
  level_record_field,
  level_field_or_block,
  inside_field_or_block,
  level_record_fields,
  level_record_field_list,
  moved_record_field_list,
  took_record_field_list,
  level_tuple_field,
  took_on_tuple_field,
  grew_tuple_field,
  level_tuple_field_list,
  moved_tuple_field_list,
  level_variant_fields,
  level_variant,
  level_variant_or_block,
  inside_variant_or_block,
  level_variants,
  level_variant_list,
  moved_variant_list,
  took_variant_list,
  moved_enum_,
  level_fields_behind_where,
  level_tuple_fields,
  moved_tuple_fields,
  level_struct_fields,
  level_fields,
  level_struct_or_union,
  moved_strukt,
  moved_union,
)
