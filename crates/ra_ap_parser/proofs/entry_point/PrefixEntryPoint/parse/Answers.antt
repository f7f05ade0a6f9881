use Rattle.ra_ap_parser.proofs.EntryShapes.{prefix_shapes}
use Rattle.ra_ap_parser.proofs.EntryTrees.{dots_stay, prefix_core, one_prefix_output}
use Rattle.ra_ap_parser.proofs.entry_point.PrefixEntryPoint.parse.Goals as goal

pub returns-in-Ok-clause-only : goal.returns-in-Ok-clause-only
returns-in-Ok-clause-only c = λ other i. one_prefix_output c.args.self.now _ i c.in-Ok.ensures.script

pub returns-in-Ok-clause-shapes : goal.returns-in-Ok-clause-shapes
returns-in-Ok-clause-shapes c = prefix_shapes c.args.self.now _ _ c.has_too_many_tokens.ensures.tokens c.in-Ok.ensures.script

pub returns-in-Ok-clause-core : goal.returns-in-Ok-clause-core
returns-in-Ok-clause-core c = λ front rest tree e d. prefix_core c.args.self.now _ c.has_too_many_tokens.ensures.tokens c.in-Ok.ensures.script front rest tree e d

pub returns-in-Ok-clause-dots : goal.returns-in-Ok-clause-dots
returns-in-Ok-clause-dots c = dots_stay c.args.self.now _ _ c.in-Ok.ensures.script
