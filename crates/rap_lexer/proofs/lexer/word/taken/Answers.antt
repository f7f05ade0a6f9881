use Rattle.std.proofs.Common.{◌∙◌}
use Rattle.rap_lexer.proofs.Prefixes.{within, prefix_is, border}
use Rattle.rap_lexer.proofs.lexer.word.taken.Goals as goal

pub overflow_sub-text : goal.overflow_sub-text
overflow_sub-text c = within _ _ c.requires.0 _ c.utf8.text c.requires.1 c.as_str-rest.ensures.text

pub range-requires-clause-end_boundary : goal.range-requires-clause-end_boundary
range-requires-clause-end_boundary c = border _ _ c.requires.0 _ c.utf8.text c.requires.1 c.as_str-rest.ensures.text c.as_str-rest.utf8

pub returns : goal.returns
returns c = λ initial join. c.range.ensures.value ∙ prefix_is _ _ initial _ c.utf8.text join c.as_str-rest.ensures.text
