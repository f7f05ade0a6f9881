use Rattle.std.proofs.Common.{ℕ, refl, sym, subst}
use Rattle.rap_grammar_rows.proofs.FactLeads.{said}
use Rattle.rap_grammar_rows.proofs.Joins.{turns_fact}
use Rattle.rap_grammar_rows.specs.Claims.{From, row_point}
use Rattle.rap_grammar_rows.specs.declared.fact.Goal.TheVariants as kind
use Rattle.rap_grammar_rows.proofs.check.one_turn.Goals as goal

pub returns : goal.returns
returns c =
    let f : From c.args.input.now c.args.turn.end c.in-Row.field-1 (row_point c.in-Row.place c.args.turn.start) =
    said c.args.input.now c.args.turn (kind.Row c.in-Row.place c.in-Row.field-1) c.args.turn.start c.requires.turn c.in-Row.is refl in
    let g : From c.args.input.now c.args.turn.end c.in-Row.field-1 (row_point c.in-Turns.row c.args.turn.start) =
    subst (λ (p : ℕ). From c.args.input.now c.args.turn.end c.in-Row.field-1 (row_point p c.args.turn.start)) c.if-place-row.false f in
    turns_fact c.args.input.now c.in-Turns.row c.in-Turns.last c.args.turn.start c.args.turn.end c.args.more.end c.in-Row.field-1 g
    (said c.args.input.now c.args.more (kind.Turns c.in-Turns.row c.in-Turns.last) c.args.turn.end c.requires.more c.in-Turns.is (sym c.if-turn-more.false))
