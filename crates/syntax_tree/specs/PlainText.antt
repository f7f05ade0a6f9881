-- Text without white space and comments.
use Rattle.std.specs.Prelude.{ℕ, if◌then◌else◌, List, [], ◌∷◌, ◌++◌, slice_range}
use Rattle.rap_base.specs.TokenTests.{is_trivia}
use Rattle.syntax_tree.specs.Leaves.{RangedLeaf}

-- the text of a leaf, or no text if it is trivia
abbrev pub plain_leaf : List ℕ → RangedLeaf → List ℕ
plain_leaf text leaf = if is_trivia leaf.kind then [] else slice_range text leaf.start leaf.end

-- the texts of leaves joined, without trivia
abbrev pub plain_text : List ℕ → List RangedLeaf → List ℕ
plain_text text [] = []
plain_text text (leaf ∷ leaves) = plain_leaf text leaf ++ plain_text text leaves
