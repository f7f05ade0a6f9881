use Rattle.std.proofs.Common.{sym}
use Rattle.rap_grammar.proofs.Parts.{one_prefix}
use Rattle.ra_ap_parser.proofs.EntryShapes.{part_shapes}
use Rattle.ra_ap_parser.proofs.EntryTrees.{part_core, part_again, part_dots}
use Rattle.ra_ap_parser.proofs.reparser.Reparser.parse.Goals as goal

pub returns-in-Ok-clause-only : goal.returns-in-Ok-clause-only
returns-in-Ok-clause-only c = rw (sym c.self.view_is) (λ other i. one_prefix i c.in-Ok.ensures.script)

pub returns-in-Ok-clause-core : goal.returns-in-Ok-clause-core
returns-in-Ok-clause-core c =
    rw (sym c.self.view_is) (λ front rest tree e d. part_core _ _ c.in-Ok.ensures.script front rest tree e d)

pub returns-in-Ok-clause-shapes : goal.returns-in-Ok-clause-shapes
returns-in-Ok-clause-shapes c = part_shapes c.self.inside.part _ _ c.has_too_many_tokens.ensures.tokens c.in-Ok.ensures.script

pub returns-in-Ok-clause-again : goal.returns-in-Ok-clause-again
returns-in-Ok-clause-again c = rw (sym c.self.view_is) (part_again _ _ c.self.invariant c.in-Ok.ensures.script)

pub returns-in-Ok-clause-dots : goal.returns-in-Ok-clause-dots
returns-in-Ok-clause-dots c =
    let asked = rw (sym c.self.view_is) at c.requires in
    part_dots c.self.inside.part c.args.input.now _ asked.brace (λ n. c.in-Ok.ensures.one c.self.invariant n) c.in-Ok.ensures.script
