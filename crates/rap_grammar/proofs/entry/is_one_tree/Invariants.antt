use Rattle.std.proofs.Common.{◌≡◌, ◌+◌, ◌≤◌, length}
use Rattle.rap_events.specs.Forest.{flat}
use Rattle.rap_grammar.proofs.OneTree.{weight_of}
use Rattle.rap_grammar.proofs.entry.is_one_tree.Given as goal

abbrev pub invariant-steps : goal.invariant-steps
invariant-steps l = record {
  within : l.depth + length l.steps ≤ length (flat l.output);
  few : l.nodes ≤ 1;
  so_far : l.nodes + weight_of l.depth l.steps ≡ weight_of 0 (flat l.output);
}

abbrev pub decreases-steps : goal.decreases-steps
decreases-steps l = length l.steps
