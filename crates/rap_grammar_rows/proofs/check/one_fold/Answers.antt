use Rattle.std.proofs.Common.{◌≡◌, ℕ, true, refl, sym, ◌∙◌, subst, rules}
use Rattle.rap_grammar_rows.proofs.FactLeads.{said}
use Rattle.rap_grammar_rows.proofs.Joins.{fold_fact}
use Rattle.rap_grammar_rows.specs.Claims.{From, IsFold, turn_point}
use Rattle.rap_grammar_rows.specs.Code.{sets, turns}
use Rattle.rap_grammar_rows.specs.Decode.{set_in, turn_in}
use Rattle.rap_grammar_rows.specs.declared.fact.Goal.TheVariants as kind
use Rattle.rap_grammar_rows.specs.declared.shape.Shape.TheVariants.{OneNode}
use Rattle.rap_grammar_table.specs.Known.{among}
use Rattle.rap_grammar_rows.proofs.check.one_fold.Goals as goal

pub returns : goal.returns
returns c =
    let i : among (set_in c.in_ok-set.set sets) c.args.number ≡ true = search rules in
    let h : among (set_in (turn_in c.in_ok-there.there.number turns).0 sets) c.args.number ≡ true =
    subst (λ (n : ℕ). among (set_in n sets) c.args.number ≡ true) c.in_ok-set.ensures.0 i in
    let f : From c.args.input.now c.args.turn.end OneNode (turn_point c.in_ok-there.there.row c.args.turn.start) =
    subst (λ (r : ℕ). From c.args.input.now c.args.turn.end OneNode (turn_point r c.args.turn.start)) (sym c.if-there-row.false)
    (said c.args.input.now c.args.turn (kind.Turn c.in-Turn.row) c.args.turn.start c.requires.turn c.in-Turn.is refl) in
    let m : c.in-Fold.then ≡ (turn_in c.in_ok-there.there.number turns).1 = sym c.if-next-then.false ∙ c.in_ok-set.ensures.1 in
    let g : IsFold c.args.input.now c.in-Fold.place (turn_in c.in_ok-there.there.number turns).1 c.args.turn.end c.args.more.end =
    subst (λ (n : ℕ). IsFold c.args.input.now c.in-Fold.place n c.args.turn.end c.args.more.end) m
    (said c.args.input.now c.args.more (kind.Fold c.in-Fold.place c.in-Fold.then) c.args.turn.end c.requires.more c.in-Fold.is (sym c.if-turn-more.false)) in
    fold_fact c.args.input.now (set_in (turn_in c.in_ok-there.there.number turns).0 sets) c.in-Fold.place c.in_ok-there.there.row
    c.args.number (turn_in c.in_ok-there.there.number turns).1 c.args.turn.start c.args.turn.end c.args.more.end
    c.in_ok-there.ensures h f g
