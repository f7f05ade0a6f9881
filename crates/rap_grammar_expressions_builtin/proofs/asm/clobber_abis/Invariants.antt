use Rattle.rap_events.specs.State.{state}
use Rattle.rap_grammar_scripts.specs.Asm.{clobber_turn}
use Rattle.rap_grammar_facts.proofs.Turning.{TurnsAlone}
use Rattle.rap_grammar_expressions_builtin.proofs.asm.clobber_abis.Given as goal

abbrev pub invariant-abis : goal.invariant-abis
invariant-abis l = record { script : TurnsAlone clobber_turn l.initial.p l.p }

abbrev pub decreases-abis : goal.decreases-abis
decreases-abis l = (state l.p).left
