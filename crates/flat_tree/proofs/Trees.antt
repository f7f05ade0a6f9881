-- The list that a builder has when all steps of a tree have come.
use Rattle.std.proofs.Common.{◌≡◌, ℕ, true, List, [], ap, sym, subst, ◌∙◌, length}
use Rattle.std.specs.Prelude.{All}
use Rattle.rap_lexed.specs.StrForest.{StrForest, str_flat, str_joined, str_one_tree}
use Rattle.rap_lexed.specs.StrSink.{Takes}
use Rattle.rap_ranged.proofs.Roots.{one_node, root_place}
use Rattle.rap_ranged.proofs.Texts.{places_of}
use Rattle.rap_ranged.specs.Places.{IsPlace, HavePlaces}
use Rattle.rap_ranged.specs.Ranged.{Ranged, ranged}
use Rattle.rap_ranged.specs.RangedForest.{RangedNode}
use Rattle.rap_ranged.specs.Seats.{AreSeated}
use Rattle.flat_tree.specs.Building.{Builds, building}
use Rattle.flat_tree.specs.Built.{IsFlat, IsOver}
use Rattle.flat_tree.specs.FlatTree.{elements, elements_of_tree, no_parent}
use Rattle.flat_tree.specs.Order.{ParentsComeFirst, PassesForward, PassesWithin}
use Rattle.flat_tree.specs.declared.builder.Builder.{Builder}
use Rattle.flat_tree.specs.declared.element.Element.{Element}
use Rattle.flat_tree.proofs.Nested.{parents_first, passes_forward, passes_within}
use Rattle.flat_tree.proofs.Placed.{placed}
use Rattle.flat_tree.proofs.Runs.{built, held, texts_along}

-- the list of its one tree, whatever its messages
pub record IsListOf (f : StrForest) (es : List Element) : Type 0 where
  pub root : RangedNode
  pub ranged : Ranged f root
  pub elements : es ≡ elements_of_tree root

pub flat_of : (f : StrForest) (s t : Builder) (es : List Element) → str_one_tree f ≡ true → building s ≡ held [] no_parent 0 → Takes Builds s (str_flat f) t → es ≡ (building t).elements → IsListOf f es
flat_of f s t es one e h is =
    let node = one_node f one in
    record { root = node.0; ranged = sym node.1; elements = is ∙ (built f no_parent s t e h ∙ ap (elements 0 no_parent) node.1) }

pub flat_seated : (f : StrForest) (es : List Element) → IsListOf f es → AreSeated 0 f → IsFlat f es
flat_seated f es l s = record { root = l.root; ranged = l.ranged; elements = l.elements; seated = s }

-- over the front of a text
pub over_front : (f : StrForest) (s t : Builder) (text front : List ℕ) (es : List Element) → str_one_tree f ≡ true → building s ≡ held [] no_parent 0 → Takes Builds s (str_flat f) t → es ≡ (building t).elements
    → str_joined f ≡ front → HavePlaces text (ranged 0 f) → IsOver text front f es
over_front f s t text front es one e h is whole places =
    let node = one_node f one in
    let place = root_place f node.0 one (sym node.1) in
    let P : List Element → Type 0 = λ l. All (λ (x : Element). IsPlace text x.start x.end) l in
    record {
      root = node.0;
      ranged = sym node.1;
      elements = is ∙ (built f no_parent s t e h ∙ ap (elements 0 no_parent) node.1);
      start = place.0;
      end = place.1 ∙ ap length whole;
      places = subst P (sym (is ∙ built f no_parent s t e h)) (placed _ text 0 no_parent places);
    }

-- over the whole text
pub over_of : (f : StrForest) (s t : Builder) (text : List ℕ) (es : List Element) → str_one_tree f ≡ true → building s ≡ held [] no_parent 0 → Takes Builds s (str_flat f) t → es ≡ (building t).elements
    → str_joined f ≡ text → IsOver text text f es
over_of f s t text es one e h is whole =
    over_front f s t text text es one e h is whole (places_of f text (texts_along (str_flat f) s t h) whole)

-- the order of its elements
pub record IsOrdered (es : List Element) : Type 0 where
  pub parents : ParentsComeFirst es
  pub forward : PassesForward es
  pub within : PassesWithin es

pub ordered : (f : StrForest) (es : List Element) → IsListOf f es → IsOrdered es
ordered f es flat = record {
  parents = parents_first flat.root es flat.elements;
  forward = passes_forward flat.root es flat.elements;
  within = passes_within flat.root es flat.elements;
}
