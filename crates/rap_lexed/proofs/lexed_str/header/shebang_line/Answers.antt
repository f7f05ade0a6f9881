use Rattle.std.proofs.Common.{◌∷◌, ap, sym, ◌∙◌, refl}
use Rattle.std.proofs.lemmas.Bool.{false≢true}
use Rattle.rap_lexed.proofs.Headers.{shebang_ends}
use Rattle.rap_lexed.proofs.lexed_str.header.shebang_line.Goals as goal

pub returns-clause-line : goal.returns-clause-line
returns-clause-line c =
    let h = c.in_ok-after.ensures.cases in
    record {
      after = c.in_ok-after.after.now;
      begins = h.1.1 ∙ ap (λ l. 35 ∷ 33 ∷ l) (sym h.2);
      kind = c.leading_kind.result;
      leads = c.leading_kind.ensures;
      no_bracket = λ e. false≢true (sym c.if-eq.false ∙ (c.eq.ensures ∙ rw e refl));
      next = c.line_len.ensures.0;
      line = c.line_len.ensures.1;
    }

pub returns-clause-ends : goal.returns-clause-ends
returns-clause-ends c =
    let h = c.in_ok-after.ensures.cases in
    shebang_ends c.args.text.now c.in_ok-after.after.now _ _ (h.1.1 ∙ ap (λ l. 35 ∷ 33 ∷ l) (sym h.2)) c.line_len.ensures.1
