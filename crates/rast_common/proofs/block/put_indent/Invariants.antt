use Rattle.std.proofs.Common.{◌-◌, ◌≤◌}
use Rattle.std.specs.Io.KnownBytes.{Appends, append_known}
use Rattle.rast_common.specs.Indented.{indent}
use Rattle.rast_common.proofs.block.put_indent.Given as goal

abbrev pub invariant-levels : goal.invariant-levels
invariant-levels g l = record {
  within : l.left ≤ l.fn.levels;
  added : Appends (append_known (g.W.Write.contents l.fn.out) l.fn.block) (append_known (g.W.Write.contents l.out) l.block) (indent (l.fn.levels - l.left));
}

abbrev pub decreases-levels : goal.decreases-levels
decreases-levels g l = l.left
