use Rattle.std.proofs.Common.{◌≡◌, ℕ, ◌+◌, ◌-◌, ◌≤◌, Some, length}
use Rattle.std.specs.List.{slice_get}
use Rattle.flat_tree.specs.declared.element.Element.{Element}
use Rattle.flat_tree.proofs.leaf_at.begun_near.Given as goal

abbrev pub invariant-steps : goal.invariant-steps
invariant-steps l = record {
  bound : l.low ≤ length l.elements;
  some : 1 ≤ l.step;
  before : (e : Element) (i : ℕ) → i + 1 ≡ l.low → slice_get l.elements i ≡ Some e → e.start ≤ l.offset;
}

abbrev pub decreases-steps : goal.decreases-steps
decreases-steps l = length l.elements - l.low
