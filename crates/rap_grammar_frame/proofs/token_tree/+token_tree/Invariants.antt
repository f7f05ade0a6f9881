use Rattle.std.proofs.Common.{◌≤◌, ℕ, ◌≡◌, false}
use Rattle.rap_events.specs.Fit.{Opens}
use Rattle.rap_events.specs.State.{state, next}
use Rattle.rap_grammar_frame.specs.Grew.{Grew}
use Rattle.rap_grammar_scripts.specs.TokenTree.{tokens_turn}
use Rattle.rap_grammar_frame.proofs.Steps.{Turns}
use Rattle.rap_grammar_frame.proofs.token_tree.+token_tree.Given as goal

abbrev pub invariant-tokens : goal.invariant-tokens
invariant-tokens l = record {
  grew : Grew (state l.initial.p) (state l.p) 0;
  opens : (state l.p).messages ≡ 0 → Opens (next (state l.fn.p)) (state l.p).forest;
  script : (depth : ℕ) → (state l.fn.p).left ≤ depth → Turns depth (tokens_turn l.ket) false false false false l.initial.p l.p;
}

abbrev pub decreases-tokens : goal.decreases-tokens
decreases-tokens l = (state l.p).left

abbrev pub decreases-token_tree : goal.decreases-token_tree
decreases-token_tree l = (state l.p.now).left
