use Rattle.ra_ap_parser.proofs.EntryShapes.{entry_shapes}
use Rattle.ra_ap_parser.proofs.EntryTrees.{core_tree, front_kept, one_entry_output, prefix_wrapped}
use Rattle.ra_ap_parser.proofs.entry_point.TopEntryPoint.parse.Goals as goal

pub returns-in-Ok-clause-only : goal.returns-in-Ok-clause-only
returns-in-Ok-clause-only c = λ other i. one_entry_output c.args.self.now _ i c.in-Ok.ensures.script

pub returns-in-Ok-clause-shapes : goal.returns-in-Ok-clause-shapes
returns-in-Ok-clause-shapes c = entry_shapes c.args.self.now _ _ c.has_too_many_tokens.ensures.tokens c.in-Ok.ensures.script

pub returns-in-Ok-clause-core : goal.returns-in-Ok-clause-core
returns-in-Ok-clause-core c = λ tree d. core_tree c.args.self.now _ c.in-Ok.ensures.script d

pub returns-in-Ok-clause-front : goal.returns-in-Ok-clause-front
returns-in-Ok-clause-front c = front_kept c.args.self.now _ _ c.in-Ok.ensures.script

pub returns-in-Ok-clause-wraps : goal.returns-in-Ok-clause-wraps
returns-in-Ok-clause-wraps c = prefix_wrapped c.args.self.now _ _ c.in-Ok.ensures.script
