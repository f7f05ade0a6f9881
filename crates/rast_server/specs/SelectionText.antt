-- What may be selected around positions, as JSON.
use Rattle.std.specs.Prelude.{◌≡◌, ◌<◌, ℕ, zero, suc, List, [], ◌∷◌, ◌++◌, codes, length, min, string_bytes}
use Rattle.rap_lexed.specs.StrForest.{StrForest}
use Rattle.rap_ranged.specs.Ranged.{Ranged}
use Rattle.rap_ranged.specs.RangedForest.{RangedNode}
use Rattle.flat_tree.specs.FlatTree.{elements_of_tree}
use Rattle.flat_tree.specs.declared.element.Element.{Element}
use Rattle.rast_answers.specs.Selections.{IsSelection}
use Rattle.rast_answers.specs.declared.extent.Extent.{Extent}
use Rattle.rast_document.specs.Places.{IsAt, position}
use Rattle.rast_document.specs.declared.document.Document.{Document}
use Rattle.rast_document.specs.declared.position.Position.{Position}
use Rattle.rast_messages.specs.Places.{range_text}
use Rattle.rast_server.specs.declared.limit.TheConstants.{LIMIT}

-- these ranges may be selected around an offset of a text whose tree has these elements
abbrev pub MaySelect : List Element → ℕ → List Extent → Type 0
MaySelect es offset extents =
    (f : StrForest) (root : RangedNode) → Ranged f root → es ≡ elements_of_tree root → IsSelection root es offset extents

-- a range of bytes as a range of the document
abbrev pub extent_text : Document → Extent → List ℕ
extent_text d x = range_text
    (position d.encoding (string_bytes d.text) (min x.start (length (string_bytes d.text))))
    (position d.encoding (string_bytes d.text) (min x.end (length (string_bytes d.text))))

-- ranges, each in the one after it, its parent; this stands before the first one
abbrev pub nested_from : Document → List ℕ → List Extent → List ℕ
nested_from d before [] = []
nested_from d before (x ∷ xs) = before ++ (extent_text d x ++ (nested_from d (codes ",\"parent\":{\"range\":") xs ++ codes "}"))

-- so many brackets close
abbrev pub closing : ℕ → List ℕ
closing zero = []
closing (suc n) = codes "}" ++ closing n

-- a comma, unless there are none yet
abbrev pub comma_behind : List Position → List ℕ
comma_behind [] = []
comma_behind (p ∷ ps) = codes ","

-- what may be selected around a position, with what stands before it
pub record IsPart (d : Document) (es : List Element) (place : Position) (before part : List ℕ) : Type 0 where
  pub offset : ℕ
  pub extents : List Extent
  pub at : IsAt d.encoding (string_bytes d.text) place offset
  pub selects : MaySelect es offset extents
  pub part_is : part ≡ before ++ nested_from d (codes "{\"range\":") extents

-- that of positions, one after another
pub data AreSelected (d : Document) (es : List Element) : List Position → List ℕ → Type 0 where
  none : AreSelected d es [] []
  more : (places : List Position) (text : List ℕ) (place : Position) (part : List ℕ) → AreSelected d es places text → IsPart d es place (comma_behind places) part
      → AreSelected d es (places ++ place ∷ []) (text ++ part)

-- that is in brackets
pub record IsSelectionText (d : Document) (es : List Element) (places : List Position) (answer : List ℕ) : Type 0 where
  pub text : List ℕ
  pub selected : AreSelected d es places text
  pub answer_is : answer ≡ codes "[" ++ text ++ codes "]"

-- for the first of the positions alone that is longer than the limit
pub record IsLongerAt (d : Document) (es : List Element) (places : List Position) : Type 0 where
  pub first : List Position
  pub later : List Position
  pub answer : List ℕ
  pub places_are : places ≡ first ++ later
  pub is : IsSelectionText d es first answer
  pub longer : LIMIT < length answer
