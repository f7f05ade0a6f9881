-- What is computed of the scripts of Attributes: the open nodes are as before, and a token is taken.
-- Written by crates/rap_grammar_facts/facts from the scripts: an edit here is lost.
use Rattle.std.proofs.Common.{◌≡◌, ◌<◌, ℕ, Bool, true, false, refl}
use Rattle.rap_events.specs.State.{state, next}
use Rattle.rap_events.specs.declared.parser.Parser.{Parser}
use Rattle.rap_grammar_scripts.specs.Effects.{level}
use Rattle.rap_grammar_scripts.specs.Exec.{Does}
use Rattle.rap_grammar_scripts.specs.First.{is_outer_attr_first}
use Rattle.rap_grammar_scripts.specs.Script.{Outcome, something}
use Rattle.rap_grammar_scripts.specs.Words.{next_so}
use Rattle.rap_grammar_frame.specs.Grew.{Grew, Took}
use Rattle.rap_grammar_frame.specs.Room.{element_room, list_room}
use Rattle.rap_grammar_frame.proofs.Done.{moved, took}
use Rattle.rap_grammar_frame.proofs.Ended.{moved_where}
use Rattle.rap_grammar_facts.specs.Alone.{DoesAlone}
use Rattle.rap_grammar_facts.proofs.Alone.{kept}
use Rattle.rap_grammar_facts.proofs.Grown.{grown}
use Rattle.rap_grammar_facts.proofs.Moved.{moved_each}
use Rattle.rap_grammar_scripts.proofs.Scripts.{scripts}
use Rattle.rap_grammar_scripts.specs.Attributes as script

pub level_cfg_value : level script.cfg_value ≡ true
unfolding scripts
level_cfg_value = refl

pub grew_cfg_value : {v : Outcome} → (p q : Parser) →
    DoesAlone script.cfg_value v (state p) (state q) →
    Grew (state p) (state q) 3
unfolding scripts
grew_cfg_value p q d = let x = d.at 0 in grown 3 p q x refl

pub level_cfg_predicate : level script.cfg_predicate ≡ true
unfolding scripts
level_cfg_predicate = refl

pub level_cfg_meta : level script.cfg_meta ≡ true
unfolding scripts
level_cfg_meta = refl

pub moved_cfg_meta : {n : ℕ} {v : Outcome} → (p q : Parser) →
    Does n script.cfg_meta v (state p) (state q) →
    (state q).left < (state p).left
unfolding scripts
moved_cfg_meta p q d = moved p q d refl

pub took_cfg_meta : {n : ℕ} → (p q : Parser) →
    Does n script.cfg_meta something (state p) (state q) →
    Took (state p) (state q) element_room
unfolding scripts
took_cfg_meta p q d = took element_room p q d refl (moved p q d refl)

pub level_cfg_attr_metas : level script.cfg_attr_metas ≡ true
unfolding scripts
level_cfg_attr_metas = refl

pub level_cfg_attr_meta : level script.cfg_attr_meta ≡ true
unfolding scripts
level_cfg_attr_meta = refl

pub moved_cfg_attr_meta : {n : ℕ} {v : Outcome} → (p q : Parser) →
    Does n script.cfg_attr_meta v (state p) (state q) →
    (state q).left < (state p).left
unfolding scripts
moved_cfg_attr_meta p q d = moved p q d refl

pub took_cfg_attr_meta : {n : ℕ} → (p q : Parser) →
    Does n script.cfg_attr_meta something (state p) (state q) →
    Took (state p) (state q) element_room
unfolding scripts
took_cfg_attr_meta p q d = took element_room p q d refl (moved p q d refl)

pub level_unsafe_meta : level script.unsafe_meta ≡ true
unfolding scripts
level_unsafe_meta = refl

pub moved_unsafe_meta : {n : ℕ} {v : Outcome} → (p q : Parser) →
    Does n script.unsafe_meta v (state p) (state q) →
    (state q).left < (state p).left
unfolding scripts
moved_unsafe_meta p q d = moved p q d refl

pub took_unsafe_meta : {n : ℕ} → (p q : Parser) →
    Does n script.unsafe_meta something (state p) (state q) →
    Took (state p) (state q) element_room
unfolding scripts
took_unsafe_meta p q d = took element_room p q d refl (moved p q d refl)

pub level_attr_value : level script.attr_value ≡ true
unfolding scripts
level_attr_value = refl

pub moved_attr_value : {n : ℕ} {v : Outcome} → (p q : Parser) →
    Does n script.attr_value v (state p) (state q) →
    (state q).left < (state p).left
unfolding scripts
moved_attr_value p q d = moved p q d refl

pub level_path_meta : level script.path_meta ≡ true
unfolding scripts
level_path_meta = refl

pub grew_path_meta : {n : ℕ} {v : Outcome} → (p q : Parser) →
    Does n script.path_meta v (state p) (state q) →
    Grew (state p) (state q) 16
unfolding scripts
grew_path_meta p q d = grown 16 p q d refl

pub level_meta : level script.meta ≡ true
unfolding scripts
level_meta = refl

pub level_attr_mark : (a : Bool) → level (script.attr_mark a) ≡ true
unfolding scripts
level_attr_mark true = refl
level_attr_mark false = refl

pub moved_attr_mark : {v : Outcome} (a : Bool) → (p q : Parser) →
    DoesAlone (script.attr_mark a) v (state p) (state q) →
    (state q).left < (state p).left
unfolding scripts
moved_attr_mark true p q d = let x = d.at 0 in moved p q x refl
moved_attr_mark false p q d = let x = d.at 0 in moved p q x refl

pub level_attr_brackets : level script.attr_brackets ≡ true
unfolding scripts
level_attr_brackets = refl

pub level_attr : (a : Bool) → level (script.attr a) ≡ true
unfolding scripts
level_attr true = refl
level_attr false = refl

pub took_attr : {n : ℕ} (a : Bool) → (p q : Parser) →
    Does n (script.attr a) something (state p) (state q) →
    Took (state p) (state q) list_room
unfolding scripts
took_attr true p q d = took list_room p q d refl (moved_each p q d refl)
took_attr false p q d = took list_room p q d refl (moved_each p q d refl)

pub level_outer_attrs : level script.outer_attrs ≡ true
unfolding scripts
level_outer_attrs = refl

pub grew_outer_attrs : {n : ℕ} {v : Outcome} → (p q : Parser) →
    Does n script.outer_attrs v (state p) (state q) →
    Grew (state p) (state q) 0
unfolding scripts
grew_outer_attrs p q d = grown 0 p q d refl

pub took_outer_attrs : {n : ℕ} → (p q : Parser) →
    Does n script.outer_attrs something (state p) (state q) →
    is_outer_attr_first (next (state p)) ≡ true → Took (state p) (state q) list_room
unfolding scripts
took_outer_attrs p q d e = took list_room p q d refl (moved_where (next_so is_outer_attr_first) p q d refl e)

pub level_inner_attrs : level script.inner_attrs ≡ true
unfolding scripts
level_inner_attrs = refl

pub grew_inner_attrs : {n : ℕ} {v : Outcome} → (p q : Parser) →
    Does n script.inner_attrs v (state p) (state q) →
    Grew (state p) (state q) 0
unfolding scripts
grew_inner_attrs p q d = grown 0 p q d refl

-- all of them
pub ruleset facts = (
  kept,
  level_cfg_value,
  grew_cfg_value,
  level_cfg_predicate,
  level_cfg_meta,
  moved_cfg_meta,
  took_cfg_meta,
  level_cfg_attr_metas,
  level_cfg_attr_meta,
  moved_cfg_attr_meta,
  took_cfg_attr_meta,
  level_unsafe_meta,
  moved_unsafe_meta,
  took_unsafe_meta,
  level_attr_value,
  moved_attr_value,
  level_path_meta,
  grew_path_meta,
  level_meta,
  level_attr_mark,
  moved_attr_mark,
  level_attr_brackets,
  level_attr,
  took_attr,
  level_outer_attrs,
  grew_outer_attrs,
  took_outer_attrs,
  level_inner_attrs,
  grew_inner_attrs,
)
