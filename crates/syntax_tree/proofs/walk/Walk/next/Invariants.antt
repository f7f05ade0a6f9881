use Rattle.std.proofs.Common.{◌≡◌, ◌≤◌, length, vec_capacity}
use Rattle.syntax_tree.specs.Walking.{ahead, room}
use Rattle.syntax_tree.proofs.walk.Walk.next.Given as goal

abbrev pub invariant-lists : goal.invariant-lists
invariant-lists l = record {
  same : ahead l.self-inside.stack.items ≡ l.fn.self;
  fits : room 0 l.self-inside.stack.items ≤ vec_capacity l.self-inside.stack;
}

abbrev pub decreases-lists : goal.decreases-lists
decreases-lists l = length l.self-inside.stack.items
