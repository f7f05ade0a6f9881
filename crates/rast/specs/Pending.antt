-- What is left to print of a tree: lists of children, the innermost last.
-- (Used in contracts between internal functions only; no public contract rests on it.)
use Rattle.std.specs.Prelude.{ℕ, ◌+◌, ◌*◌, List, [], ◌∷◌, ◌++◌}
use Rattle.std.specs.Borrow.{Bor}
use Rattle.rast_common.specs.Message.{message_line}
use Rattle.rast.specs.RangedLines.{ranged_lines}
use Rattle.syntax_tree.specs.Children.{with_child, children_of}
use Rattle.syntax_tree.specs.Places.{HavePlaces}
use Rattle.syntax_tree.specs.RangedForest.{ranged_none, forest_size}
use Rattle.syntax_tree.specs.RangedMessages.{RangedMessage}
use Rattle.syntax_tree.specs.declared.node.Child.{Child}

-- the lines that are left, those of the innermost list first
abbrev pub pending : List ℕ → ℕ → List (Bor (List Child)) → List ℕ
pending text depth [] = []
pending text depth (f ∷ fs) = pending text (depth + 1) fs ++ ranged_lines text depth (children_of f.now)

-- the lines of one child
abbrev pub child_lines : List ℕ → ℕ → Child → List ℕ
child_lines text depth c = ranged_lines text depth (with_child ranged_none c)

-- each child, with all that is in it, stands at a place
abbrev pub ArePlaced : List ℕ → List Child → Type 0
ArePlaced text [] = Unit {0}
ArePlaced text (c ∷ cs) = HavePlaces text (with_child ranged_none c) × ArePlaced text cs

abbrev pub AllPlaced : List ℕ → List (Bor (List Child)) → Type 0
AllPlaced text [] = Unit {0}
AllPlaced text (f ∷ fs) = ArePlaced text f.now × AllPlaced text fs

-- more than twice the nodes and leaves that are left
abbrev pub pending_size : List (Bor (List Child)) → ℕ
pending_size [] = 0
pending_size (f ∷ fs) = (1 + 2 * forest_size (children_of f.now)) + pending_size fs

-- the lines of messages that a tree has kept
abbrev pub message_lines : List RangedMessage → List ℕ
message_lines [] = []
message_lines (m ∷ ms) = message_line m.at m.text ++ message_lines ms
