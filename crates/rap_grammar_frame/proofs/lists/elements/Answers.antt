use Rattle.std.proofs.Common.{rules, refl, sym, ◌∙◌, ◌≡◌, ◌||◌, true, ℕ, Bool}
use Rattle.rap_events.specs.Composite.{is_at}
use Rattle.rap_events.specs.State.{state, next}
use Rattle.rap_grammar_scripts.proofs.Ends.{gives, passes}
use Rattle.rap_grammar_frame.proofs.Steps.{then_by, else_by, by_start, by_report, by_bump, by_complete, by_rule, by_expect, turn, by_kind, either, answers_yes}
use Rattle.rap_grammar_frame.proofs.lists.elements.Goals.{else-not-at-2-via-then-not-at-2+else-not-is_first, else-not-at-2-via-else-not-at-2}
use Rattle.rap_grammar_frame.proofs.lists.elements.Goals as goal

pub elements-preserved-then-at : goal.elements-preserved-then-at
elements-preserved-then-at g c = record {
  grew = search rules;
  script = turn c.elements.invariant.script
      (else_by c.at.ensures c.elements-test.true
      (else_by c.at-in-elements.ensures c.if-not-at.true
      (then_by c.at-in-elements-2.ensures c.if-at.true
      (by_start c.in_ok-m.ensures.state
      (by_report c.in_ok-error.ensures.state
      (by_bump (search rules) c.in_ok-bump.ensures.state
      (by_complete c.in_ok-complete.ensures.state.0 gives))))))) (search rules);
}

pub elements-preserved : goal.elements-preserved
elements-preserved g c = record {
  grew = search rules;
  script =
      let s = state c.parse.new.p in
      let f : ℕ → Bool = λ k. g.E.Element.first c.args.element.now k in
      let e : is_at c.args.delim s.rest || f (next s) ≡ true = elim c.else-not-at-2.branch [
        | else-not-at-2-via-then-not-at-2+else-not-is_first w ↦ either
            (λ _. sym (by_kind f w.is_first.ensures w.current.ensures.kind) ∙ w.if-not-is_first.false)
        | else-not-at-2-via-else-not-at-2 w ↦ rw (sym c.at-in-elements-3.ensures ∙ w.if-not-at-2.false) refl
      ] in
      turn c.elements.invariant.script
      (else_by c.at.ensures c.elements-test.true
      (else_by c.at-in-elements.ensures c.if-not-at.true
      (else_by c.at-in-elements-2.ensures c.if-at.false
      (by_rule (answers_yes c.if-not-branch.false c.in_ok-parse.ensures.script)
      (passes e (by_expect c.in_ok-expect.ensures.state gives)))))) (search rules);
}
