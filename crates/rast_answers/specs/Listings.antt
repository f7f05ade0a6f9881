-- The lists of a tree, of which the elements are kept for later answers.
use Rattle.std.specs.Prelude.{ℕ, List}
use Rattle.rap_base.specs.declared.edition.Edition.{Edition}
use Rattle.ra_ap_parser.specs.declared.entry_point.TopEntryPoint.TheVariants.{SourceFile}
use Rattle.rap_ranged.specs.RangedMessages.{RangedMessage}
use Rattle.flat_tree.specs.TextTree.{IsFlatText}
use Rattle.flat_tree.specs.declared.element.Element.{Element}

-- the elements are those of the tree of a text, which is parsed as a source file of this edition and has some messages
unfoldable pub HasElements : List ℕ → Edition → List Element → Type 0
HasElements text edition elements = (messages : List RangedMessage) × IsFlatText text edition SourceFile elements messages

-- these are the elements of that tree
abbrev pub AreElementsOf : List ℕ → Edition → List Element → Type 0
AreElementsOf text edition elements = ∥ HasElements text edition elements ∥₁

-- these are the elements and the messages of that tree
abbrev pub AreListsOf : List ℕ → Edition → List Element → List RangedMessage → Type 0
AreListsOf text edition elements messages = ∥ IsFlatText text edition SourceFile elements messages ∥₁
