-- What is so of the elements of the tree of a document.
use Rattle.std.proofs.Common.{ℕ, List}
use Rattle.std.proofs.Math.Logic.{∥∥₁_elim}
use Rattle.std.proofs.Props.{props}
use Rattle.rap_base.specs.declared.edition.Edition.{Edition}
use Rattle.flat_tree.specs.Order.{ParentsComeFirst}
use Rattle.flat_tree.specs.declared.element.Element.{Element}
use Rattle.flat_tree.proofs.Nested.{parents_first as first_of_tree}
use Rattle.rast_answers.specs.Listings.{AreElementsOf, HasElements}
use Rattle.rast_server.specs.TreeText.{HavePlaces}

-- each has a place in the text
pub have_places : (text : List ℕ) (edition : Edition) (es : List Element) → AreElementsOf text edition es → HavePlaces text es
unfolding HasElements
have_places text edition es h = ∥∥₁_elim h (hlevel props) (λ tree. tree.1.places)

-- the parent of each comes before it
pub parents_first : (text : List ℕ) (edition : Edition) (es : List Element) → AreElementsOf text edition es → ParentsComeFirst es
unfolding HasElements
parents_first text edition es h = ∥∥₁_elim h (hlevel props) (λ tree. first_of_tree tree.1.root es tree.1.elements)
