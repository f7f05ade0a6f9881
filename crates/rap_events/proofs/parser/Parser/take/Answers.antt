use Rattle.rap_events.proofs.parser.Parser.take.Goals as goal

pub take_word-requires-clause-word : goal.take_word-requires-clause-word
take_word-requires-clause-word c = rw (c.from-width.ensures, c.of.ensures) c.of_event-word.ensures

pub take_word-requires-clause-within : goal.take_word-requires-clause-within
take_word-requires-clause-within c = rw c.from-width.ensures c.requires.within

pub take_word-requires-clause-stands : goal.take_word-requires-clause-stands
take_word-requires-clause-stands c = rw (c.from-width.ensures, c.of.ensures) c.requires.stands

pub returns-clause-state : goal.returns-clause-state
returns-clause-state c = rw (c.from-width.ensures, c.of.ensures) at c.in_ok-take_word.ensures.state

pub returns-clause-recorded : goal.returns-clause-recorded
returns-clause-recorded c = rw (c.from-width.ensures, c.of.ensures) at c.in_ok-take_word.ensures.recorded
