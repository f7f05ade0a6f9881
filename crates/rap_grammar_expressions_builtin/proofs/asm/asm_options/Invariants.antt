use Rattle.rap_events.specs.State.{state}
use Rattle.rap_grammar_scripts.specs.Asm.{options_turn}
use Rattle.rap_grammar_facts.proofs.Turning.{TurnsAlone}
use Rattle.rap_grammar_expressions_builtin.proofs.asm.asm_options.Given as goal

abbrev pub invariant-options : goal.invariant-options
invariant-options l = record { script : TurnsAlone options_turn l.initial.p l.p }

abbrev pub decreases-options : goal.decreases-options
decreases-options l = (state l.p).left
