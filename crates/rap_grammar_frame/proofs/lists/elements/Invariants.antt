use Rattle.std.proofs.Common.{false}
use Rattle.rap_events.specs.State.{state}
use Rattle.rap_grammar_scripts.specs.Lists.{element_turn}
use Rattle.rap_grammar_frame.specs.Grew.{Grew}
use Rattle.rap_grammar_frame.proofs.Steps.{Turns}
use Rattle.rap_grammar_frame.proofs.lists.elements.Given as goal

abbrev pub invariant-elements : goal.invariant-elements
invariant-elements g l = record {
  grew : Grew (state l.initial.p) (state l.p) 0;
  script : Turns (g.G.Grammar.left l.g)
      (element_turn (g.E.Element.element l.element) l.ket l.delim l.unexpected_delim_message
      (g.E.Element.first l.element)) false false false false l.initial.p l.p;
}

abbrev pub decreases-elements : goal.decreases-elements
decreases-elements g l = (state l.p).left
