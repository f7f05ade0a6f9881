-- What is computed of the scripts of Records: the open nodes are as before, and a token is taken.
-- Written by crates/rap_grammar_facts/facts from the scripts: an edit here is lost.
use Rattle.std.proofs.Common.{◌≡◌, ◌<◌, ℕ, true, false, refl}
use Rattle.rap_base.specs.TokenKind.{EOF, R_CURLY}
use Rattle.rap_events.specs.Composite.{is_at}
use Rattle.rap_events.specs.State.{state}
use Rattle.rap_events.specs.declared.parser.Parser.{Parser}
use Rattle.rap_grammar_scripts.specs.Effects.{level}
use Rattle.rap_grammar_scripts.specs.Exec.{Does}
use Rattle.rap_grammar_scripts.specs.Script.{Outcome, something}
use Rattle.rap_grammar_frame.specs.Grew.{Took}
use Rattle.rap_grammar_frame.specs.Room.{list_room}
use Rattle.rap_grammar_frame.proofs.Done.{moved, took}
use Rattle.rap_grammar_facts.proofs.Alone.{kept}
use Rattle.rap_grammar_facts.proofs.Moved.{moved_inside}
use Rattle.rap_grammar_scripts.proofs.Scripts.{scripts}
use Rattle.rap_grammar_scripts.specs.Records as script

pub level_field_name : level script.field_name ≡ true
unfolding scripts
level_field_name = refl

pub level_base_of_record : level script.base_of_record ≡ true
unfolding scripts
level_base_of_record = refl

pub level_record_field : level script.record_field ≡ true
unfolding scripts
level_record_field = refl

pub inside_record_field : {n : ℕ} {v : Outcome} → (p q : Parser) →
    Does n script.record_field v (state p) (state q) →
    is_at EOF (state p).rest ≡ false → is_at R_CURLY (state p).rest ≡ false →
    (state q).left < (state p).left
unfolding scripts
inside_record_field p q d e f = moved_inside p q d e f refl

pub level_record_fields : level script.record_fields ≡ true
unfolding scripts
level_record_fields = refl

pub level_record_expr_field_list : level script.record_expr_field_list ≡ true
unfolding scripts
level_record_expr_field_list = refl

pub moved_record_expr_field_list : {n : ℕ} {v : Outcome} → (p q : Parser) →
    Does n script.record_expr_field_list v (state p) (state q) →
    (state q).left < (state p).left
unfolding scripts
moved_record_expr_field_list p q d = moved p q d refl

pub took_record_expr_field_list : {n : ℕ} → (p q : Parser) →
    Does n script.record_expr_field_list something (state p) (state q) →
    Took (state p) (state q) list_room
unfolding scripts
took_record_expr_field_list p q d = took list_room p q d refl (moved p q d refl)

-- all of them
pub ruleset facts = (
  kept,
  level_field_name,
  level_base_of_record,
  level_record_field,
  inside_record_field,
  level_record_fields,
  level_record_expr_field_list,
  moved_record_expr_field_list,
  took_record_expr_field_list,
)
