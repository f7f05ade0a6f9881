-- What is computed of the scripts of Modules: the open nodes are as before, and a token is taken.
-- Written by crates/rap_grammar_facts/facts from the scripts: an edit here is lost.
use Rattle.std.proofs.Common.{◌≡◌, ◌<◌, ◌≤◌, ℕ, Bool, true, false, refl}
use Rattle.rap_events.specs.State.{state}
use Rattle.rap_events.specs.declared.parser.Parser.{Parser}
use Rattle.rap_grammar_scripts.specs.Effects.{level}
use Rattle.rap_grammar_scripts.specs.Exec.{Does}
use Rattle.rap_grammar_scripts.specs.Script.{Outcome, something}
use Rattle.rap_grammar_frame.specs.Grew.{Grew, Took}
use Rattle.rap_grammar_frame.specs.Room.{list_room}
use Rattle.rap_grammar_frame.proofs.Done.{less_left, marker_kept, moved, took}
use Rattle.rap_grammar_frame.proofs.Ended.{below_kept}
use Rattle.rap_grammar_facts.specs.Alone.{DoesAlone}
use Rattle.rap_grammar_facts.proofs.Alone.{kept}
use Rattle.rap_grammar_facts.proofs.Grown.{grown}
use Rattle.rap_grammar_scripts.proofs.Scripts.{scripts}
use Rattle.rap_grammar_scripts.specs.Modules as script

pub moved_extern_crate : {v : Outcome} → (p q : Parser) →
    DoesAlone script.extern_crate v (state p) (state q) →
    (state q).left < (state p).left
unfolding scripts
moved_extern_crate p q d = let x = d.at 0 in moved p q x refl

pub level_items : (a : Bool) → level (script.items a) ≡ true
unfolding scripts
level_items true = refl
level_items false = refl

pub level_mod_contents : (a : Bool) → level (script.mod_contents a) ≡ true
unfolding scripts
level_mod_contents true = refl
level_mod_contents false = refl

pub grew_mod_contents : {n : ℕ} {v : Outcome} (a : Bool) → (p q : Parser) →
    Does n (script.mod_contents a) v (state p) (state q) →
    Grew (state p) (state q) 0
unfolding scripts
grew_mod_contents true p q d = grown 0 p q d refl
grew_mod_contents false p q d = grown 0 p q d refl

pub level_item_list : level script.item_list ≡ true
unfolding scripts
level_item_list = refl

pub moved_item_list : {n : ℕ} {v : Outcome} → (p q : Parser) →
    Does n script.item_list v (state p) (state q) →
    (state q).left < (state p).left
unfolding scripts
moved_item_list p q d = moved p q d refl

pub took_item_list : {n : ℕ} → (p q : Parser) →
    Does n script.item_list something (state p) (state q) →
    Took (state p) (state q) list_room
unfolding scripts
took_item_list p q d = took list_room p q d refl (moved p q d refl)

pub level_extern_item_list : level script.extern_item_list ≡ true
unfolding scripts
level_extern_item_list = refl

pub moved_extern_item_list : {n : ℕ} {v : Outcome} → (p q : Parser) →
    Does n script.extern_item_list v (state p) (state q) →
    (state q).left < (state p).left
unfolding scripts
moved_extern_item_list p q d = moved p q d refl

pub took_extern_item_list : {n : ℕ} → (p q : Parser) →
    Does n script.extern_item_list something (state p) (state q) →
    Took (state p) (state q) list_room
unfolding scripts
took_extern_item_list p q d = took list_room p q d refl (moved p q d refl)

pub level_mod_body : level script.mod_body ≡ true
unfolding scripts
level_mod_body = refl

pub moved_mod_item : {n : ℕ} {v : Outcome} → (p q : Parser) →
    Does n script.mod_item v (state p) (state q) →
    (state q).left < (state p).left
unfolding scripts
moved_mod_item p q d = moved p q d refl

pub level_alias_bounds : level script.alias_bounds ≡ true
unfolding scripts
level_alias_bounds = refl

pub marker_alias_bounds : {n : ℕ} → (p q : Parser) →
    Does n script.alias_bounds something (state p) (state q) →
    (state q).marker ≡ (state p).marker
unfolding scripts
marker_alias_bounds p q d = marker_kept p q d refl

pub below_alias_bounds : {n : ℕ} → (p q : Parser) →
    Does n script.alias_bounds something (state p) (state q) →
    (state q).below ≡ (state p).below
unfolding scripts
below_alias_bounds p q d = below_kept p q d refl

pub fewer_alias_bounds : {n : ℕ} → (p q : Parser) →
    Does n script.alias_bounds something (state p) (state q) →
    (state q).left ≤ (state p).left
unfolding scripts
fewer_alias_bounds p q d = less_left p q d

pub level_aliased_type : level script.aliased_type ≡ true
unfolding scripts
level_aliased_type = refl

pub marker_aliased_type : {n : ℕ} → (p q : Parser) →
    Does n script.aliased_type something (state p) (state q) →
    (state q).marker ≡ (state p).marker
unfolding scripts
marker_aliased_type p q d = marker_kept p q d refl

pub below_aliased_type : {n : ℕ} → (p q : Parser) →
    Does n script.aliased_type something (state p) (state q) →
    (state q).below ≡ (state p).below
unfolding scripts
below_aliased_type p q d = below_kept p q d refl

pub fewer_aliased_type : {n : ℕ} → (p q : Parser) →
    Does n script.aliased_type something (state p) (state q) →
    (state q).left ≤ (state p).left
unfolding scripts
fewer_aliased_type p q d = less_left p q d

pub moved_type_alias : {n : ℕ} {v : Outcome} → (p q : Parser) →
    Does n script.type_alias v (state p) (state q) →
    (state q).left < (state p).left
unfolding scripts
moved_type_alias p q d = moved p q d refl

-- all of them
pub ruleset facts = (
  kept,
  moved_extern_crate,
  level_items,
  level_mod_contents,
  grew_mod_contents,
  level_item_list,
  moved_item_list,
  took_item_list,
  level_extern_item_list,
  moved_extern_item_list,
  took_extern_item_list,
  level_mod_body,
  moved_mod_item,
  level_alias_bounds,
  marker_alias_bounds,
  below_alias_bounds,
  fewer_alias_bounds,
  level_aliased_type,
  marker_aliased_type,
  below_aliased_type,
  fewer_aliased_type,
  moved_type_alias,
)
