use Rattle.std.proofs.Common.{◌+◌, ◌≤◌, vec_capacity, ℕ}
use Rattle.syntax_tree.specs.Children.{children_of}
use Rattle.syntax_tree.specs.Walking.{levels, room}
use Rattle.syntax_tree.proofs.Walks.{left}
use Rattle.syntax_tree.proofs.walk.with_room.Given as goal

abbrev pub invariant-lists : goal.invariant-lists
invariant-lists l = (m : ℕ) → vec_capacity l.stack ≤ m → room 0 l.stack.items ≤ m → 1 + levels (children_of l.children) ≤ m

abbrev pub decreases-lists : goal.decreases-lists
decreases-lists l = left l.stack.items
