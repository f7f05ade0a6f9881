-- What is computed of the scripts of Names: the open nodes are as before, and a token is taken.
-- Written by crates/rap_grammar_facts/facts from the scripts: an edit here is lost.
use Rattle.std.proofs.Common.{◌≡◌, ◌<◌, true, refl}
use Rattle.rap_events.specs.State.{state}
use Rattle.rap_events.specs.declared.parser.Parser.{Parser}
use Rattle.rap_grammar_scripts.specs.Effects.{level}
use Rattle.rap_grammar_scripts.specs.Script.{Outcome}
use Rattle.rap_grammar_frame.proofs.Done.{moved}
use Rattle.rap_grammar_facts.specs.Alone.{DoesAlone}
use Rattle.rap_grammar_facts.proofs.Alone.{kept}
use Rattle.rap_grammar_scripts.proofs.Scripts.{scripts}
use Rattle.rap_grammar_scripts.specs.Names as script

pub level_name_ref_mod_path : level script.name_ref_mod_path ≡ true
unfolding scripts
level_name_ref_mod_path = refl

pub level_name_ref_mod_path_or_index : level script.name_ref_mod_path_or_index ≡ true
unfolding scripts
level_name_ref_mod_path_or_index = refl

pub level_lifetime : level script.lifetime ≡ true
unfolding scripts
level_lifetime = refl

pub moved_lifetime : {v : Outcome} → (p q : Parser) →
    DoesAlone script.lifetime v (state p) (state q) →
    (state q).left < (state p).left
unfolding scripts
moved_lifetime p q d = let x = d.at 0 in moved p q x refl

pub level_name : level script.name ≡ true
unfolding scripts
level_name = refl

pub level_name_ref_or_index : level script.name_ref_or_index ≡ true
unfolding scripts
level_name_ref_or_index = refl

pub moved_name_ref_or_index : {v : Outcome} → (p q : Parser) →
    DoesAlone script.name_ref_or_index v (state p) (state q) →
    (state q).left < (state p).left
unfolding scripts
moved_name_ref_or_index p q d = let x = d.at 0 in moved p q x refl

pub level_name_ref_or_upper_self : level script.name_ref_or_upper_self ≡ true
unfolding scripts
level_name_ref_or_upper_self = refl

pub level_abi : level script.abi ≡ true
unfolding scripts
level_abi = refl

pub moved_abi : {v : Outcome} → (p q : Parser) →
    DoesAlone script.abi v (state p) (state q) →
    (state q).left < (state p).left
unfolding scripts
moved_abi p q d = let x = d.at 0 in moved p q x refl

pub level_name_ref_or_self : level script.name_ref_or_self ≡ true
unfolding scripts
level_name_ref_or_self = refl

pub level_name_any_identifier : level script.name_any_identifier ≡ true
unfolding scripts
level_name_any_identifier = refl

pub moved_name_any_identifier : {v : Outcome} → (p q : Parser) →
    DoesAlone script.name_any_identifier v (state p) (state q) →
    (state q).left < (state p).left
unfolding scripts
moved_name_any_identifier p q d = let x = d.at 0 in moved p q x refl

pub level_opt_rename : level script.opt_rename ≡ true
unfolding scripts
level_opt_rename = refl

-- all of them
pub ruleset facts = (
  kept,
  level_name_ref_mod_path,
  level_name_ref_mod_path_or_index,
  level_lifetime,
  moved_lifetime,
  level_name,
  level_name_ref_or_index,
  moved_name_ref_or_index,
  level_name_ref_or_upper_self,
  level_abi,
  moved_abi,
  level_name_ref_or_self,
  level_name_any_identifier,
  moved_name_any_identifier,
  level_opt_rename,
)
