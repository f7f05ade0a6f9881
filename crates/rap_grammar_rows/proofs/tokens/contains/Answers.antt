use Rattle.std.proofs.Common.{ℕ, List, sym, ap, ◌∙◌}
use Rattle.rap_grammar_rows.proofs.Pieces.{among_at}
use Rattle.rap_grammar_table.specs.Known.{among}
use Rattle.rap_grammar_rows.proofs.tokens.contains.Goals as goal

pub returns-then-member-value : goal.returns-then-member-value
returns-then-member-value c h =
    ap (λ (xs : List ℕ). among xs c.args.value) (sym c.set-members.ensures) ∙
    among_at c.set-members.result.now c.loop-member.member-index c.args.value c.loop-member-test.true
    c.if-member-value.true
