-- A tree with places, as the program prints it.
use Rattle.std.specs.Prelude.{ℕ, ◌+◌, List, [], ◌++◌, codes, chars, slice_range}
use Rattle.std.specs.Fmt.{decimal}
use Rattle.rap_base.specs.Names.{name_of}
use Rattle.rast_common.specs.Indented.{indent}
use Rattle.rast_common.specs.Quote.{quoted}
use Rattle.syntax_tree.specs.RangedForest.{RangedForest, ranged_none, ranged_node, ranged_leaf}

-- where something begins and ends
abbrev pub place : ℕ → ℕ → List ℕ
place start end = codes "@" ++ (decimal start ++ (codes ".." ++ decimal end))

-- the line of a node
abbrev pub node_line : ℕ → ℕ → ℕ → ℕ → List ℕ
node_line depth kind start end = indent depth ++ (name_of kind ++ (place start end ++ codes "\n"))

-- the line of a leaf, with its part of the text
abbrev pub leaf_line : List ℕ → ℕ → ℕ → ℕ → ℕ → List ℕ
leaf_line text depth kind start end =
    indent depth ++ (name_of kind ++ (place start end ++ (codes " " ++ (quoted (chars (slice_range text start end)) ++ codes "\n"))))

-- the lines of trees in a row
abbrev pub ranged_lines : List ℕ → ℕ → RangedForest → List ℕ
ranged_lines text depth ranged_none = []
ranged_lines text depth (ranged_node before kind start end children) =
    ranged_lines text depth before ++ (node_line depth kind start end ++ ranged_lines text (depth + 1) children)
ranged_lines text depth (ranged_leaf before kind start end) =
    ranged_lines text depth before ++ leaf_line text depth kind start end
