use Rattle.std.proofs.Common.{rules, le_refl, arith, sym, ap, ◌∙◌, refl, [], ◌∷◌}
use Rattle.rap_base.specs.TokenKind.{R_PAREN, R_BRACK}
use Rattle.rap_events.specs.Fit.{partner}
use Rattle.rap_events.specs.State.{state}
use Rattle.rap_grammar_scripts.specs.First.{one_of, is_bracket}
use Rattle.rap_grammar_scripts.specs.TokenTree.{tokens_to}
use Rattle.rap_grammar_scripts.specs.Knot.{script_of}
use Rattle.rap_grammar_scripts.specs.declared.rule.Rule.TheVariants as knot
use Rattle.rap_grammar_scripts.proofs.Ends.{answers, gives, passes, fails, follows}
use Rattle.rap_grammar_scripts.proofs.Balance.{nests_as_brackets}
use Rattle.rap_grammar_scripts.proofs.Exec.{does_follow}
use Rattle.rap_grammar_frame.proofs.Steps.{then_by, else_by, by_kind, by_part, by_start, by_any, by_report, by_skip, by_expect, by_complete, turn, last_turn, clash}
use Rattle.rap_grammar_frame.proofs.TokenTrees.{begun, more_tree, more_token, closed, by_bracket, tokens_end}
use Rattle.rap_grammar_frame.proofs.token_tree.+token_tree.Goals.{then-tokens-test+else-not-at, else-tokens-test}
use Rattle.rap_grammar_frame.proofs.token_tree.+token_tree.Goals as goal

pub tokens-init : goal.tokens-init
tokens-init t c = record {
  grew = search rules;
  opens = λ z. begun c.in_ok-m.ensures.state c.in_ok-bump_any.ensures.state c.requires.bracket;
  script = search rules;
}

pub tokens-preserved-then-is_bracket : goal.tokens-preserved-then-is_bracket
unfolding script_of
tokens-preserved-then-is_bracket t c = record {
  grew = search rules;
  opens = λ z. more_tree c.in_ok-token_tree.ensures.one
      (c.tokens.invariant.opens (omega (arith, c.in_ok-token_tree.ensures.took.messages)));
  script = λ depth h. turn (c.tokens.invariant.script depth h)
      (else_by c.at.ensures c.tokens-test.true
      (else_by c.at-in-tokens.ensures c.if-not-at.true
      (then_by (by_kind is_bracket c.is_bracket.ensures c.current-kind.ensures.kind) c.if-is_bracket.true
      (by_part knot.TokenTree (answers {n = (state c.tokens.p).left} knot.TokenTree
      (omega (
        arith,
        h,
        c.tokens.invariant.grew.left,
        c.in_ok-bump_any.ensures.state.left,
        c.in_ok-m.ensures.state.recorded.left,
      ))
      (c.in_ok-token_tree.ensures.script (state c.tokens.p).left (le_refl _))) gives)))) (search rules);
}

pub tokens-preserved-then-is_unmatched : goal.tokens-preserved-then-is_unmatched
tokens-preserved-then-is_unmatched t c = record {
  grew = search rules;
  opens = λ z. absurd (omega (arith, c.in_ok-err_and_bump.ensures.state.messages));
  script = λ depth h. turn (c.tokens.invariant.script depth h)
      (else_by c.at.ensures c.tokens-test.true
      (else_by c.at-in-tokens.ensures c.if-not-at.true
      (else_by (by_kind is_bracket c.is_bracket.ensures c.current-kind.ensures.kind) c.if-is_bracket.false
      (fails (search rules)
      (then_by (by_kind (one_of (R_PAREN ∷ R_BRACK ∷ [])) c.is_unmatched.ensures c.current-kind.ensures.kind)
      c.if-is_unmatched.true
      (by_skip c.in_ok-err_and_bump.ensures.state gives)))))) (search rules);
}

pub tokens-preserved : goal.tokens-preserved
tokens-preserved t c =
    let b = by_kind is_bracket c.is_bracket.ensures c.current-kind.ensures.kind in
    let u = by_kind (one_of (R_PAREN ∷ R_BRACK ∷ [])) c.is_unmatched.ensures c.current-kind.ensures.kind in
    record {
      grew = search rules;
      opens = λ z. more_token c.in_ok-bump_any-2.ensures.state (sym b ∙ c.if-is_bracket.false) (search rules)
          (sym u ∙ c.if-is_unmatched.false)
          (c.tokens.invariant.opens (omega (arith, c.in_ok-bump_any-2.ensures.state.messages)));
      script = λ depth h. turn (c.tokens.invariant.script depth h)
          (else_by c.at.ensures c.tokens-test.true
          (else_by c.at-in-tokens.ensures c.if-not-at.true
          (else_by b c.if-is_bracket.false
          (fails (search rules)
          (else_by u c.if-is_unmatched.false
          (by_any (search rules) c.in_ok-bump_any-2.ensures.state gives)))))) (search rules);
    }

pub complete_fit-requires-2-clause-fit : goal.complete_fit-requires-2-clause-fit
complete_fit-requires-2-clause-fit t c =
    let ket = c.closing_bracket-ket.ensures ∙ ap partner c.current.ensures.kind in
    closed c.in_ok-expect.ensures.state ket c.tokens.invariant.opens

pub returns-then-eq-clause-script : goal.returns-then-eq-clause-script
unfolding tokens_to
returns-then-eq-clause-script t c depth h =
    by_bracket (c.closing_bracket-ket.ensures ∙ ap partner c.current.ensures.kind)
    (by_start c.in_ok-m.ensures.state
    (by_any (search rules) c.in_ok-bump_any.ensures.state
    (follows (last_turn (c.tokens.invariant.script depth h)
    (else_by c.at.ensures c.tokens-test.true
    (else_by c.at-in-tokens.ensures c.if-not-at.true
    (else_by (by_kind is_bracket c.is_bracket.ensures c.current-kind.ensures.kind) c.if-is_bracket.false
    (passes (search rules) (by_report c.in_ok-error.ensures.state gives))))) refl)
    (by_complete c.in_ok-complete_fit.ensures.state.0 gives))))

pub returns-clause-script : goal.returns-clause-script
returns-clause-script t c depth h =
    by_bracket (c.closing_bracket-ket.ensures ∙ ap partner c.current.ensures.kind)
    (by_start c.in_ok-m.ensures.state
    (by_any (search rules) c.in_ok-bump_any.ensures.state
    (follows (tokens_end c.closing_bracket-ket.result (c.tokens.invariant.script depth h) (λ e. elim c.tokens-test.branch [
      | then-tokens-test+else-not-at w ↦ sym w.at-in-tokens.ensures ∙ w.if-not-at.false
      | else-tokens-test w ↦ absurd (clash (sym c.at.ensures ∙ w.tokens-test.false) e)
    ]))
    (by_expect c.in_ok-expect.ensures.state (by_complete c.in_ok-complete_fit-2.ensures.state.0 gives)))))

pub returns-then-eq-clause-balanced : goal.returns-then-eq-clause-balanced
returns-then-eq-clause-balanced t c = nests_as_brackets (does_follow (returns-then-eq-clause-script t c _ (le_refl _)))

pub returns-clause-balanced : goal.returns-clause-balanced
returns-clause-balanced t c = nests_as_brackets (does_follow (returns-clause-script t c _ (le_refl _)))
