-- What is kept of the lists of a tree.
use Rattle.std.proofs.Common.{ℕ, List}
use Rattle.std.proofs.Math.Logic.{∥∥₁_map}
use Rattle.rap_base.specs.declared.edition.Edition.{Edition}
use Rattle.rap_ranged.specs.RangedMessages.{RangedMessage}
use Rattle.flat_tree.specs.declared.element.Element.{Element}
use Rattle.rast_answers.specs.Listings.{AreElementsOf, AreListsOf, HasElements}

-- the elements are those of the tree whose lists they are among
pub elements_of_lists : (text : List ℕ) (edition : Edition) (elements : List Element) (messages : List RangedMessage) → AreListsOf text edition elements messages → AreElementsOf text edition elements
unfolding HasElements
elements_of_lists text edition elements messages lists = ∥∥₁_map lists (λ tree. (messages, tree))
