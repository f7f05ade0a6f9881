-- What is computed of the scripts of Paths: the open nodes are as before, and a token is taken.
-- Written by crates/rap_grammar_facts/facts from the scripts: an edit here is lost.
use Rattle.std.proofs.Common.{◌≡◌, ◌<◌, ◌≤◌, ℕ, Bool, true, false, Some, refl}
use Rattle.rap_events.specs.State.{state}
use Rattle.rap_events.specs.declared.parser.Parser.{Parser}
use Rattle.rap_grammar_scripts.specs.Effects.{level}
use Rattle.rap_grammar_scripts.specs.Exec.{Does}
use Rattle.rap_grammar_scripts.specs.First.{is_path_start}
use Rattle.rap_grammar_scripts.specs.Script.{Outcome, something}
use Rattle.rap_grammar_scripts.specs.Test.{holds}
use Rattle.rap_grammar_scripts.specs.declared.arguments.Mode.{Mode}
use Rattle.rap_grammar_scripts.specs.declared.arguments.Mode.TheVariants as mode
use Rattle.rap_grammar_frame.specs.Grew.{Grew, Took, Ended}
use Rattle.rap_grammar_frame.specs.Room.{path_room, element_room}
use Rattle.rap_grammar_frame.proofs.Done.{less_left, marker_kept, moved, took}
use Rattle.rap_grammar_frame.proofs.Ended.{below_kept, ended, moved_where}
use Rattle.rap_grammar_facts.specs.Alone.{DoesAlone}
use Rattle.rap_grammar_facts.proofs.Alone.{kept}
use Rattle.rap_grammar_facts.proofs.Grown.{grown, took_each}
use Rattle.rap_grammar_facts.proofs.Moved.{moved_each}
use Rattle.rap_grammar_scripts.proofs.Scripts.{scripts}
use Rattle.rap_grammar_scripts.specs.Paths as script

pub level_type_arg_element : level script.type_arg_element ≡ true
unfolding scripts
level_type_arg_element = refl

pub moved_parenthesized_args : {n : ℕ} {v : Outcome} → (p q : Parser) →
    Does n script.parenthesized_args v (state p) (state q) →
    (state q).left < (state p).left
unfolding scripts
moved_parenthesized_args p q d = moved p q d refl

pub moved_return_type_syntax : {v : Outcome} → (p q : Parser) →
    DoesAlone script.return_type_syntax v (state p) (state q) →
    (state q).left < (state p).left
unfolding scripts
moved_return_type_syntax p q d = let x = d.at 0 in moved p q x refl

pub ended_path_type_args : {n : ℕ} {m : ℕ} → (p q : Parser) →
    Does n script.path_type_args something (state p) (state q) →
    (state p).marker ≡ Some m → Ended (state p) (state q) element_room
unfolding scripts
ended_path_type_args p q d e = ended element_room p q d refl (moved_each p q d refl) e

pub level_opt_path_type_args : level script.opt_path_type_args ≡ true
unfolding scripts
level_opt_path_type_args = refl

pub level_opt_path_args : (a : Mode) → level (script.opt_path_args a) ≡ true
unfolding scripts
level_opt_path_args mode.Use = refl
level_opt_path_args mode.Attr = refl
level_opt_path_args mode.Type = refl
level_opt_path_args mode.Expr = refl
level_opt_path_args mode.Vis = refl

pub level_anchor_trait : level script.anchor_trait ≡ true
unfolding scripts
level_anchor_trait = refl

pub level_type_anchor : level script.type_anchor ≡ true
unfolding scripts
level_type_anchor = refl

pub moved_type_anchor : {n : ℕ} {v : Outcome} → (p q : Parser) →
    Does n script.type_anchor v (state p) (state q) →
    (state q).left < (state p).left
unfolding scripts
moved_type_anchor p q d = moved p q d refl

pub level_path_segment : (a : Mode) (b : Bool) → level (script.path_segment a b) ≡ true
unfolding scripts
level_path_segment mode.Use true = refl
level_path_segment mode.Use false = refl
level_path_segment mode.Attr true = refl
level_path_segment mode.Attr false = refl
level_path_segment mode.Type true = refl
level_path_segment mode.Type false = refl
level_path_segment mode.Expr true = refl
level_path_segment mode.Expr false = refl
level_path_segment mode.Vis true = refl
level_path_segment mode.Vis false = refl

pub level_path_for_qualifier : (a : Mode) → level (script.path_for_qualifier a) ≡ true
unfolding scripts
level_path_for_qualifier mode.Use = refl
level_path_for_qualifier mode.Attr = refl
level_path_for_qualifier mode.Type = refl
level_path_for_qualifier mode.Expr = refl
level_path_for_qualifier mode.Vis = refl

pub grew_path_for_qualifier : {n : ℕ} {v : Outcome} (a : Mode) → (p q : Parser) →
    Does n (script.path_for_qualifier a) v (state p) (state q) →
    Grew (state p) (state q) 0
unfolding scripts
grew_path_for_qualifier mode.Use p q d = grown 0 p q d refl
grew_path_for_qualifier mode.Attr p q d = grown 0 p q d refl
grew_path_for_qualifier mode.Type p q d = grown 0 p q d refl
grew_path_for_qualifier mode.Expr p q d = grown 0 p q d refl
grew_path_for_qualifier mode.Vis p q d = grown 0 p q d refl

pub level_path : (a : Mode) → level (script.path a) ≡ true
unfolding scripts
level_path mode.Use = refl
level_path mode.Attr = refl
level_path mode.Type = refl
level_path mode.Expr = refl
level_path mode.Vis = refl

pub grew_path : {n : ℕ} {v : Outcome} (a : Mode) → (p q : Parser) →
    Does n (script.path a) v (state p) (state q) →
    Grew (state p) (state q) 8
unfolding scripts
grew_path mode.Use p q d = grown 8 p q d refl
grew_path mode.Attr p q d = grown 8 p q d refl
grew_path mode.Type p q d = grown 8 p q d refl
grew_path mode.Expr p q d = grown 8 p q d refl
grew_path mode.Vis p q d = grown 8 p q d refl

pub took_path : {n : ℕ} {v : Outcome} (a : Mode) → (p q : Parser) →
    Does n (script.path a) v (state p) (state q) →
    holds is_path_start (state p).rest ≡ true → Took (state p) (state q) path_room
unfolding scripts
took_path mode.Use p q d e = took_each path_room p q d refl (moved_where is_path_start p q d refl e)
took_path mode.Attr p q d e = took_each path_room p q d refl (moved_where is_path_start p q d refl e)
took_path mode.Type p q d e = took_each path_room p q d refl (moved_where is_path_start p q d refl e)
took_path mode.Expr p q d e = took_each path_room p q d refl (moved_where is_path_start p q d refl e)
took_path mode.Vis p q d e = took_each path_room p q d refl (moved_where is_path_start p q d refl e)

pub level_use_path : level script.use_path ≡ true
unfolding scripts
level_use_path = refl

pub marker_use_path : {n : ℕ} → (p q : Parser) →
    Does n script.use_path something (state p) (state q) →
    (state q).marker ≡ (state p).marker
unfolding scripts
marker_use_path p q d = marker_kept p q d refl

pub below_use_path : {n : ℕ} → (p q : Parser) →
    Does n script.use_path something (state p) (state q) →
    (state q).below ≡ (state p).below
unfolding scripts
below_use_path p q d = below_kept p q d refl

pub fewer_use_path : {n : ℕ} → (p q : Parser) →
    Does n script.use_path something (state p) (state q) →
    (state q).left ≤ (state p).left
unfolding scripts
fewer_use_path p q d = less_left p q d

pub level_attr_path : level script.attr_path ≡ true
unfolding scripts
level_attr_path = refl

pub level_type_path : level script.type_path ≡ true
unfolding scripts
level_type_path = refl

pub took_type_path : {n : ℕ} → (p q : Parser) →
    Does n script.type_path something (state p) (state q) →
    holds is_path_start (state p).rest ≡ true → Took (state p) (state q) path_room
unfolding scripts
took_type_path p q d e = took path_room p q d refl (moved_where is_path_start p q d refl e)

pub level_expr_path : level script.expr_path ≡ true
unfolding scripts
level_expr_path = refl

pub took_expr_path : {n : ℕ} → (p q : Parser) →
    Does n script.expr_path something (state p) (state q) →
    holds is_path_start (state p).rest ≡ true → Took (state p) (state q) path_room
unfolding scripts
took_expr_path p q d e = took path_room p q d refl (moved_where is_path_start p q d refl e)

pub level_vis_path : level script.vis_path ≡ true
unfolding scripts
level_vis_path = refl

pub level_type_path_for_qualifier : level script.type_path_for_qualifier ≡ true
unfolding scripts
level_type_path_for_qualifier = refl

-- all of them
pub ruleset facts = (
  kept,
  level_type_arg_element,
  moved_parenthesized_args,
  moved_return_type_syntax,
  ended_path_type_args,
  level_opt_path_type_args,
  level_opt_path_args,
  level_anchor_trait,
  level_type_anchor,
  moved_type_anchor,
  level_path_segment,
  level_path_for_qualifier,
  grew_path_for_qualifier,
  level_path,
  grew_path,
  took_path,
  level_use_path,
  marker_use_path,
  below_use_path,
  fewer_use_path,
  level_attr_path,
  level_type_path,
  took_type_path,
  level_expr_path,
  took_expr_path,
  level_vis_path,
  level_type_path_for_qualifier,
)
