use Rattle.std.proofs.Common.{ℕ, sym, ◌∙◌, ap, List, false}
use Rattle.std.proofs.lemmas.List.{drop_all}
use Rattle.rap_grammar_table.specs.Known.{among}
use Rattle.rap_fields.proofs.Searches.{among_here, among_later}
use Rattle.rap_fields.proofs.rule.Step.has.Goals as goal

pub returns-then-one-number : goal.returns-then-one-number
returns-then-one-number c h =
    (sym (among_here c.args.self.now.kinds.now c.loop-one.one-index c.args.kind c.loop-one-test.true
    (c.if-one-number.true ∙ c.from-number.ensures.0))
    ∙ c.loop-one.invariant) h

pub loop-one-preserved : goal.loop-one-preserved
loop-one-preserved c =
    sym (among_later c.args.self.now.kinds.now c.loop-one.one-index c.args.kind c.loop-one-test.true
    (λ e. c.if-one-number.false (e ∙ sym c.from-number.ensures.0)))
    ∙ c.loop-one.invariant

pub returns : goal.returns
returns c =
    sym (ap (λ (ks : List ℕ). among ks c.args.kind)
    (drop_all c.loop-one.one-index c.args.self.now.kinds.now c.loop-one-test.false))
    ∙ c.loop-one.invariant
