-- What is built of a tree over a text.
use Rattle.std.specs.Prelude.{◌≡◌, ℕ, List, length, All}
use Rattle.rap_lexed.specs.StrForest.{StrForest}
use Rattle.rap_ranged.specs.Places.{IsPlace}
use Rattle.rap_ranged.specs.Ranged.{Ranged}
use Rattle.rap_ranged.specs.RangedForest.{RangedNode}
use Rattle.rap_ranged.specs.Seats.{AreSeated}
use Rattle.flat_tree.specs.FlatTree.{elements_of_tree}
use Rattle.flat_tree.specs.declared.element.Element.{Element}

-- The elements are those of the forest's one tree, with the place of each node and leaf, and each message of the forest
-- stands where the leaves before it end.
pub record IsFlat (f : StrForest) (es : List Element) : Type 0 where
  pub root : RangedNode
  pub ranged : Ranged f root
  pub elements : es ≡ elements_of_tree root
  pub seated : AreSeated 0 f

-- The forest's one tree is over this front of the text, and each range is on character boundaries of the text.
pub record IsOver (text front : List ℕ) (f : StrForest) (es : List Element) : Type 0 where
  pub root : RangedNode
  pub ranged : Ranged f root
  pub elements : es ≡ elements_of_tree root
  pub start : root.start ≡ 0
  pub end : root.end ≡ length front
  pub places : All (λ (e : Element). IsPlace text e.start e.end) es
