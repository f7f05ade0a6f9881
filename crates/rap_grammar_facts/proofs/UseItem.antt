-- What is computed of the scripts of UseItem: the open nodes are as before, and a token is taken.
-- Written by crates/rap_grammar_facts/facts from the scripts: an edit here is lost.
use Rattle.std.proofs.Common.{◌≡◌, ◌<◌, ℕ, true, refl}
use Rattle.rap_events.specs.State.{state}
use Rattle.rap_events.specs.declared.parser.Parser.{Parser}
use Rattle.rap_grammar_scripts.specs.Effects.{level}
use Rattle.rap_grammar_scripts.specs.Exec.{Does}
use Rattle.rap_grammar_scripts.specs.Script.{Outcome, something}
use Rattle.rap_grammar_scripts.specs.Test.{holds}
use Rattle.rap_grammar_frame.specs.Grew.{Took}
use Rattle.rap_grammar_frame.specs.Room.{list_room}
use Rattle.rap_grammar_frame.proofs.Done.{moved, took}
use Rattle.rap_grammar_frame.proofs.Ended.{moved_where}
use Rattle.rap_grammar_facts.proofs.Alone.{kept}
use Rattle.rap_grammar_scripts.proofs.Scripts.{scripts}
use Rattle.rap_grammar_scripts.specs.UseItem as script

pub level_nested_use_tree : level script.nested_use_tree ≡ true
unfolding scripts
level_nested_use_tree = refl

pub level_use_tree_list : level script.use_tree_list ≡ true
unfolding scripts
level_use_tree_list = refl

pub moved_use_tree_list : {n : ℕ} {v : Outcome} → (p q : Parser) →
    Does n script.use_tree_list v (state p) (state q) →
    (state q).left < (state p).left
unfolding scripts
moved_use_tree_list p q d = moved p q d refl

pub took_use_tree_list : {n : ℕ} → (p q : Parser) →
    Does n script.use_tree_list something (state p) (state q) →
    Took (state p) (state q) list_room
unfolding scripts
took_use_tree_list p q d = took list_room p q d refl (moved p q d refl)

pub level_group : level script.group ≡ true
unfolding scripts
level_group = refl

pub level_group_behind : level script.group_behind ≡ true
unfolding scripts
level_group_behind = refl

pub moved_group_behind : {n : ℕ} {v : Outcome} → (p q : Parser) →
    Does n script.group_behind v (state p) (state q) →
    (state q).left < (state p).left
unfolding scripts
moved_group_behind p q d = moved p q d refl

pub level_after_use_path : level script.after_use_path ≡ true
unfolding scripts
level_after_use_path = refl

pub level_use_tree : level script.use_tree ≡ true
unfolding scripts
level_use_tree = refl

pub took_use_tree : {n : ℕ} → (p q : Parser) →
    Does n script.use_tree something (state p) (state q) →
    holds script.is_use_tree_start (state p).rest ≡ true → Took (state p) (state q) list_room
unfolding scripts
took_use_tree p q d e = took list_room p q d refl (moved_where script.is_use_tree_start p q d refl e)

pub level_expect_use_tree : level script.expect_use_tree ≡ true
unfolding scripts
level_expect_use_tree = refl

pub moved_use_ : {n : ℕ} {v : Outcome} → (p q : Parser) →
    Does n script.use_ v (state p) (state q) →
    (state q).left < (state p).left
unfolding scripts
moved_use_ p q d = moved p q d refl

-- all of them
pub ruleset facts = (
  kept,
  level_nested_use_tree,
  level_use_tree_list,
  moved_use_tree_list,
  took_use_tree_list,
  level_group,
  level_group_behind,
  moved_group_behind,
  level_after_use_path,
  level_use_tree,
  took_use_tree,
  level_expect_use_tree,
  moved_use_,
)
