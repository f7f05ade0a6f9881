use Rattle.rap_events.specs.State.{state}
use Rattle.rap_grammar_scripts.specs.Builtin.{fields_turn}
use Rattle.rap_grammar_facts.proofs.Turning.{TurnsAlone}
use Rattle.rap_grammar_expressions_builtin.proofs.builtin.offset_of_fields.Given as goal

abbrev pub invariant-fields : goal.invariant-fields
invariant-fields l = record { script : TurnsAlone fields_turn l.initial.p l.p }

abbrev pub decreases-fields : goal.decreases-fields
decreases-fields l = (state l.p).left
