use Rattle.std.proofs.Common.{◌≡◌, ◌++◌}
use Rattle.rast.specs.Pending.{pending, AllPlaced, pending_size}
use Rattle.rast.specs.RangedLines.{ranged_lines}
use Rattle.rast.proofs.ranges.push_children.Given as goal

abbrev pub invariant-lists : goal.invariant-lists
invariant-lists l = record {
  lines : l.lines ++ pending l.fn.text 1 l.lists.items ≡ l.fn.lines ++ ranged_lines l.fn.text 1 l.fn.root.children;
  placed : AllPlaced l.fn.text l.lists.items;
}

abbrev pub decreases-lists : goal.decreases-lists
decreases-lists l = pending_size l.lists.items
