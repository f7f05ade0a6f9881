use Rattle.std.proofs.Common.{refl, rules}
use Rattle.rap_grammar_scripts.specs.Functions.{unbalanced_brackets}
use Rattle.rap_grammar_scripts.proofs.Ends.{gives, passes, fails}
use Rattle.rap_grammar_frame.proofs.Steps.{by_skip, turn, last_turn}
use Rattle.rap_grammar_items_kinds.proofs.functions.unbalanced_brackets.Goals as goal

pub brackets-preserved : goal.brackets-preserved
brackets-preserved c = record {
  script = λ depth. turn (c.brackets.invariant.script depth)
      (passes (search rules) (by_skip c.in_ok-err_and_bump.ensures.state gives)) (search rules);
}

pub returns : goal.returns
unfolding unbalanced_brackets
returns c = record {
  script = record { at = λ depth. last_turn (c.brackets.invariant.script depth) (fails (search rules) gives) refl };
}
