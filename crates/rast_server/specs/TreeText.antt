-- The tree of a document as text.
use Rattle.std.specs.Prelude.{◌≡◌, ℕ, ◌+◌, ◌<◌, List, [], ◌∷◌, ◌++◌, All, chars, codes, if◌then◌else◌, length, slice_index, slice_range}
use Rattle.std.specs.Fmt.{decimal}
use Rattle.rap_base.specs.Names.{name_of}
use Rattle.rap_ranged.specs.Places.{IsPlace}
use Rattle.flat_tree.specs.Order.{climbing}
use Rattle.flat_tree.specs.declared.element.Element.{Element}
use Rattle.rast_common.specs.Indented.{indent}
use Rattle.rast_common.specs.Quote.{quoted}

-- a space and the text in quotes, of a leaf
abbrev pub leaf_text : List ℕ → Element → List ℕ
leaf_text text e = if e.leaf then codes " " ++ quoted (chars (slice_range text e.start e.end)) else []

-- what stands in the line of a node or leaf: its kind, its place, and a leaf's text
unfoldable pub element_text : List ℕ → Element → List ℕ
element_text text e = name_of e.kind ++ codes "@" ++ decimal e.start ++ codes ".." ++ decimal e.end ++ leaf_text text e ++ codes "\n"

-- how many nodes the element with an index is in
abbrev pub depth_at : List Element → ℕ → ℕ
depth_at es i = length (climbing es i i)

-- the lines of elements from an index on: before each two spaces for each node that it is in
abbrev pub lines_from : List ℕ → List Element → ℕ → List Element → List ℕ
lines_from text es i [] = []
lines_from text es i (e ∷ rest) = indent (depth_at es i) ++ (element_text text e ++ lines_from text es (i + 1) rest)

-- the lines of all
abbrev pub tree_text : List ℕ → List Element → List ℕ
tree_text text es = lines_from text es 0 es

-- these are the depths of the first elements, so many
pub record AreDepths (es : List Element) (n : ℕ) (depths : List ℕ) : Type 0 where
  pub count : length depths ≡ n
  pub each : (i : ℕ) → i < n → slice_index depths i ≡ depth_at es i

-- the ranges of all elements are places of the text
abbrev pub HavePlaces : List ℕ → List Element → Type 0
HavePlaces text es = All (λ (e : Element). IsPlace text e.start e.end) es
