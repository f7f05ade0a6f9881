use Rattle.std.proofs.Common.{◌≡◌, ℕ, None, List, [], ◌+◌, drop, chars, IsCharBoundary, ap, subst, sym, ◌∙◌}
use Rattle.std.proofs.lemmas.List.{drop-drop, drop_all}
use Rattle.std.proofs.lemmas.Str.{IsCharBoundary-start, IsCharBoundary-from_rest, chars-nil}
use Rattle.rap_base.specs.declared.edition.Edition.{Edition}
use Rattle.rap_lexer.specs.First.{First}
use Rattle.rap_lexer.specs.declared.lexer.lexeme.Lexeme.{Lexeme}
use Rattle.rap_lexed.specs.Header.{Leads}
use Rattle.rap_lexed.specs.Header.Leads.{nothing, token, past}
use Rattle.rap_lexed.proofs.lexed_str.header.leading_kind.Goals as goal

-- the token that begins at the offset
first_at : (edition : Edition) (text seen : List ℕ) (offset n : ℕ) (t : Lexeme) → seen ≡ drop offset text → First edition (chars seen) t (chars (drop n seen)) → First edition (chars (drop offset text)) t (chars (drop (offset + n) text))
first_at edition text seen offset n t e first = subst (λ (l : List ℕ). First edition (chars (drop offset text)) t (chars l)) (drop-drop n offset text) (rw e at first)

pub tokens-init : goal.tokens-init
tokens-init c = record { border = IsCharBoundary-start c.args.text.now c.utf8.text; same = λ kind h. h }

pub returns-then-not-is_passed : goal.returns-then-not-is_passed
returns-then-not-is_passed c =
    let first = first_at c.args.edition c.args.text.now _ c.tokens.offset _ c.first_token-len.result.0 c.range_from.ensures.value c.first_token-len.ensures.token in
    c.tokens.invariant.same _ (token _ _ _ first (sym c.is_passed.ensures ∙ c.if-not-is_passed.true))

pub tokens-preserved : goal.tokens-preserved
tokens-preserved c =
    let text = c.args.text.now in
    let n = c.first_token-len.result.1 in
    let first = first_at c.args.edition text _ c.tokens.offset n c.first_token-len.result.0 c.range_from.ensures.value c.first_token-len.ensures.token in
    let border : IsCharBoundary (drop c.tokens.offset text) n = subst (λ (l : List ℕ). IsCharBoundary l n) c.range_from.ensures.value c.first_token-len.ensures.border in
    record {
      border = IsCharBoundary-from_rest text c.tokens.offset n c.tokens.invariant.border.0 border;
      same = λ kind h. c.tokens.invariant.same kind (past _ _ _ kind first (sym c.is_passed.ensures ∙ c.if-not-is_passed.false) h);
    }

pub returns : goal.returns
returns c =
    let none : chars (drop c.tokens.offset c.args.text.now) ≡ [] = ap chars (drop_all c.tokens.offset c.args.text.now c.tokens-test.false) ∙ chars-nil in
    c.tokens.invariant.same None (subst (λ (l : List ℕ). Leads c.args.edition l None) (sym none) nothing)
