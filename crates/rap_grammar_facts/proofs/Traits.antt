-- What is computed of the scripts of Traits: the open nodes are as before, and a token is taken.
-- Written by crates/rap_grammar_facts/facts from the scripts: an edit here is lost.
use Rattle.std.proofs.Common.{◌≡◌, ◌<◌, ◌≤◌, ℕ, true, false, refl}
use Rattle.rap_base.specs.TokenKind.{EOF, R_CURLY}
use Rattle.rap_events.specs.Composite.{is_at}
use Rattle.rap_events.specs.State.{state}
use Rattle.rap_events.specs.declared.parser.Parser.{Parser}
use Rattle.rap_grammar_scripts.specs.Effects.{level}
use Rattle.rap_grammar_scripts.specs.Exec.{Does}
use Rattle.rap_grammar_scripts.specs.Script.{Outcome, something}
use Rattle.rap_grammar_frame.specs.Grew.{Took}
use Rattle.rap_grammar_frame.specs.Room.{list_room}
use Rattle.rap_grammar_frame.proofs.Done.{less_left, marker_kept, moved, took}
use Rattle.rap_grammar_frame.proofs.Ended.{below_kept}
use Rattle.rap_grammar_facts.specs.Alone.{DoesAlone}
use Rattle.rap_grammar_facts.proofs.Alone.{kept}
use Rattle.rap_grammar_facts.proofs.Moved.{moved_inside}
use Rattle.rap_grammar_scripts.proofs.Scripts.{scripts}
use Rattle.rap_grammar_scripts.specs.Traits as script

pub level_assoc_item : level script.assoc_item ≡ true
unfolding scripts
level_assoc_item = refl

pub inside_assoc_item : {n : ℕ} {v : Outcome} → (p q : Parser) →
    Does n script.assoc_item v (state p) (state q) →
    is_at EOF (state p).rest ≡ false → is_at R_CURLY (state p).rest ≡ false →
    (state q).left < (state p).left
unfolding scripts
inside_assoc_item p q d e f = moved_inside p q d e f refl

pub level_assoc_items : level script.assoc_items ≡ true
unfolding scripts
level_assoc_items = refl

pub marker_assoc_items : {n : ℕ} → (p q : Parser) →
    Does n script.assoc_items something (state p) (state q) →
    (state q).marker ≡ (state p).marker
unfolding scripts
marker_assoc_items p q d = marker_kept p q d refl

pub below_assoc_items : {n : ℕ} → (p q : Parser) →
    Does n script.assoc_items something (state p) (state q) →
    (state q).below ≡ (state p).below
unfolding scripts
below_assoc_items p q d = below_kept p q d refl

pub fewer_assoc_items : {n : ℕ} → (p q : Parser) →
    Does n script.assoc_items something (state p) (state q) →
    (state q).left ≤ (state p).left
unfolding scripts
fewer_assoc_items p q d = less_left p q d

pub level_assoc_item_list : level script.assoc_item_list ≡ true
unfolding scripts
level_assoc_item_list = refl

pub moved_assoc_item_list : {n : ℕ} {v : Outcome} → (p q : Parser) →
    Does n script.assoc_item_list v (state p) (state q) →
    (state q).left < (state p).left
unfolding scripts
moved_assoc_item_list p q d = moved p q d refl

pub took_assoc_item_list : {n : ℕ} → (p q : Parser) →
    Does n script.assoc_item_list something (state p) (state q) →
    Took (state p) (state q) list_room
unfolding scripts
took_assoc_item_list p q d = took list_room p q d refl (moved p q d refl)

pub level_expect_assoc_item_list : level script.expect_assoc_item_list ≡ true
unfolding scripts
level_expect_assoc_item_list = refl

pub marker_expect_assoc_item_list : {n : ℕ} → (p q : Parser) →
    Does n script.expect_assoc_item_list something (state p) (state q) →
    (state q).marker ≡ (state p).marker
unfolding scripts
marker_expect_assoc_item_list p q d = marker_kept p q d refl

pub below_expect_assoc_item_list : {n : ℕ} → (p q : Parser) →
    Does n script.expect_assoc_item_list something (state p) (state q) →
    (state q).below ≡ (state p).below
unfolding scripts
below_expect_assoc_item_list p q d = below_kept p q d refl

pub fewer_expect_assoc_item_list : {n : ℕ} → (p q : Parser) →
    Does n script.expect_assoc_item_list something (state p) (state q) →
    (state q).left ≤ (state p).left
unfolding scripts
fewer_expect_assoc_item_list p q d = less_left p q d

pub level_trait_alias : level script.trait_alias ≡ true
unfolding scripts
level_trait_alias = refl

pub level_opt_bounds : level script.opt_bounds ≡ true
unfolding scripts
level_opt_bounds = refl

pub level_trait_body : level script.trait_body ≡ true
unfolding scripts
level_trait_body = refl

pub moved_trait_ : {n : ℕ} {v : Outcome} → (p q : Parser) →
    Does n script.trait_ v (state p) (state q) →
    (state q).left < (state p).left
unfolding scripts
moved_trait_ p q d = moved p q d refl

pub level_impl_params : level script.impl_params ≡ true
unfolding scripts
level_impl_params = refl

pub marker_impl_params : {n : ℕ} → (p q : Parser) →
    Does n script.impl_params something (state p) (state q) →
    (state q).marker ≡ (state p).marker
unfolding scripts
marker_impl_params p q d = marker_kept p q d refl

pub below_impl_params : {n : ℕ} → (p q : Parser) →
    Does n script.impl_params something (state p) (state q) →
    (state q).below ≡ (state p).below
unfolding scripts
below_impl_params p q d = below_kept p q d refl

pub fewer_impl_params : {n : ℕ} → (p q : Parser) →
    Does n script.impl_params something (state p) (state q) →
    (state q).left ≤ (state p).left
unfolding scripts
fewer_impl_params p q d = less_left p q d

pub level_opt_negative : level script.opt_negative ≡ true
unfolding scripts
level_opt_negative = refl

pub marker_opt_negative : (p q : Parser) →
    DoesAlone script.opt_negative something (state p) (state q) →
    (state q).marker ≡ (state p).marker
unfolding scripts
marker_opt_negative p q d = let x = d.at 0 in marker_kept p q x refl

pub below_opt_negative : (p q : Parser) →
    DoesAlone script.opt_negative something (state p) (state q) →
    (state q).below ≡ (state p).below
unfolding scripts
below_opt_negative p q d = let x = d.at 0 in below_kept p q x refl

pub fewer_opt_negative : (p q : Parser) →
    DoesAlone script.opt_negative something (state p) (state q) →
    (state q).left ≤ (state p).left
unfolding scripts
fewer_opt_negative p q d = let x = d.at 0 in less_left p q x

pub level_impl_type : level script.impl_type ≡ true
unfolding scripts
level_impl_type = refl

pub level_impl_types : level script.impl_types ≡ true
unfolding scripts
level_impl_types = refl

pub marker_impl_types : {n : ℕ} → (p q : Parser) →
    Does n script.impl_types something (state p) (state q) →
    (state q).marker ≡ (state p).marker
unfolding scripts
marker_impl_types p q d = marker_kept p q d refl

pub below_impl_types : {n : ℕ} → (p q : Parser) →
    Does n script.impl_types something (state p) (state q) →
    (state q).below ≡ (state p).below
unfolding scripts
below_impl_types p q d = below_kept p q d refl

pub fewer_impl_types : {n : ℕ} → (p q : Parser) →
    Does n script.impl_types something (state p) (state q) →
    (state q).left ≤ (state p).left
unfolding scripts
fewer_impl_types p q d = less_left p q d

pub moved_impl_ : {n : ℕ} {v : Outcome} → (p q : Parser) →
    Does n script.impl_ v (state p) (state q) →
    (state q).left < (state p).left
unfolding scripts
moved_impl_ p q d = moved p q d refl

-- all of them
pub ruleset facts = (
  kept,
  level_assoc_item,
  inside_assoc_item,
  level_assoc_items,
  marker_assoc_items,
  below_assoc_items,
  fewer_assoc_items,
  level_assoc_item_list,
  moved_assoc_item_list,
  took_assoc_item_list,
  level_expect_assoc_item_list,
  marker_expect_assoc_item_list,
  below_expect_assoc_item_list,
  fewer_expect_assoc_item_list,
  level_trait_alias,
  level_opt_bounds,
  level_trait_body,
  moved_trait_,
  level_impl_params,
  marker_impl_params,
  below_impl_params,
  fewer_impl_params,
  level_opt_negative,
  marker_opt_negative,
  below_opt_negative,
  fewer_opt_negative,
  level_impl_type,
  level_impl_types,
  marker_impl_types,
  below_impl_types,
  fewer_impl_types,
  moved_impl_,
)
