use Rattle.std.proofs.Common.{◌≡◌, ℕ, ◌+◌, ◌-◌, ◌<◌, ◌≤◌, Some, length}
use Rattle.std.specs.List.{slice_get}
use Rattle.flat_tree.specs.declared.element.Element.{Element}
use Rattle.flat_tree.proofs.leaf_at.begun_between.Given as goal

abbrev pub invariant-halves : goal.invariant-halves
invariant-halves l = record {
  ordered : l.low ≤ l.high;
  bound : l.high ≤ length l.elements;
  before : (e : Element) (i : ℕ) → i + 1 ≡ l.low → slice_get l.elements i ≡ Some e → e.start ≤ l.offset;
  later : (e : Element) → slice_get l.elements l.high ≡ Some e → l.offset < e.start;
}

abbrev pub decreases-halves : goal.decreases-halves
decreases-halves l = l.high - l.low
