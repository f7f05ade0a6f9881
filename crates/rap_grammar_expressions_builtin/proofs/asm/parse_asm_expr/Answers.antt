use Rattle.std.proofs.Common.{◌∙◌}
use Rattle.rap_grammar_scripts.specs.Asm.{parse_asm_expr}
use Rattle.rap_grammar_scripts.proofs.Ends.{gives}
use Rattle.rap_grammar_frame.proofs.Steps.{by_rule, by_expect, by_complete}
use Rattle.rap_grammar_facts.proofs.Asm.{grew_asm_template, grew_asm_pieces}
use Rattle.rap_grammar_expressions_builtin.proofs.asm.parse_asm_expr.Goals as goal

pub complete-requires-clause-newest : goal.complete-requires-clause-newest
complete-requires-clause-newest g c =
    let t = grew_asm_template _ _ c.in_ok-asm_template.ensures.script in
    let u = grew_asm_pieces _ _ c.in_ok-asm_pieces.ensures.script in
    c.in_ok-expect-2.ensures.state.marker ∙ u.marker ∙ t.marker ∙ c.in_ok-expect.ensures.state.marker ∙
    c.requires.newest

pub returns-clause-script : goal.returns-clause-script
unfolding parse_asm_expr
returns-clause-script g c = by_expect c.in_ok-expect.ensures.state
    (by_rule c.in_ok-asm_template.ensures.script
    (by_rule c.in_ok-asm_pieces.ensures.script
    (by_expect c.in_ok-expect-2.ensures.state
    (by_complete c.in_ok-cm.ensures.state.0 gives))))
