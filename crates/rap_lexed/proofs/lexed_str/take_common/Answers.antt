use Rattle.std.proofs.Common.{◌≡◌, ◌≢◌, ℕ, ◌+◌, ◌<◌, List, [], ◌∷◌, drop, length, slice_range, length-append, chars, IsCharBoundary, subst, arith}
use Rattle.std.proofs.lemmas.List.{drop-drop}
use Rattle.std.proofs.lemmas.Str.{IsCharBoundary-from_rest}
use Rattle.rap_base.specs.TokenKind.{STRING}
use Rattle.rap_base.specs.TokenTests.{IsTokenKind}
use Rattle.rap_base.specs.declared.edition.Edition.{Edition}
use Rattle.rap_lexer.specs.Common.{is_contextual}
use Rattle.rap_lexer.specs.First.{First}
use Rattle.rap_lexer.specs.Lexeme.{plain}
use Rattle.rap_lexed.specs.CommonTokens.{IsCommonAt}
use Rattle.rap_lexed.specs.CommonTokens.TakesCommon.{none, more}
use Rattle.rap_lexed.proofs.CommonTokens.{range-drop}
use Rattle.rap_lexed.proofs.lexed_str.take_common.Goals as goal

-- the token that begins what is left
common-at : (edition : Edition) (text seen : List ℕ) (at kind n : ℕ) → IsCharBoundary text at → seen ≡ drop at text → First edition (chars seen) (plain kind) (chars (drop n seen)) → IsTokenKind kind → kind ≢ STRING → 0 < n → IsCharBoundary seen n → IsCommonAt edition text kind at (at + n)
common-at edition text seen at kind n before e first token other some border = record {
  first = subst (λ (l : List ℕ). First edition (chars (drop at text)) (plain kind) (chars l)) (drop-drop n at text) (rw e at first);
  token = token;
  no_string = other;
  some = omega (arith, some);
  border = IsCharBoundary-from_rest text at n before.0 (subst (λ (l : List ℕ). IsCharBoundary l n) e border);
}

pub common-init : goal.common-init
common-init c = record { border = c.requires.border; taken = none; few = c.requires.few; further = omega arith; grows = omega arith }

pub common-preserved : goal.common-preserved
common-preserved c =
    let t = c.in-Some.ensures in
    let token = c.in-Some.token in
    let seen = c.range_from.ensures.value in
    let said : token.is_contextual ≡ is_contextual token.kind (slice_range c.args.text.now c.common.end (c.common.end + token.len)) = rw (seen, range-drop c.args.text.now c.common.end token.len) at t.contextual in
    let number : c.len.result ≡ length c.common.kind.items = omega (arith, c.len.ensures) in
    let common = common-at c.args.edition c.args.text.now c.range_from.result.now c.common.end _ _ c.common.invariant.border c.range_from.ensures.value t.token t.kind t.no_string t.positive t.border in
    record {
      border = common.border;
      taken = rw (c.in_ok-push.ensures.items, c.in_ok-push-2.ensures.items, c.in_ok-note.ensures, number, said) (more c.common.kind.items c.common.start.items c.common.contextual.items c.common.end _ _ c.common.invariant.taken common);
      few = omega (arith, c.in_ok-push.ensures.items, length-append c.common.kind.items (token.kind ∷ []), t.positive, c.common.invariant.few);
      further = omega (arith, c.common.invariant.further);
      grows = omega (arith, c.in_ok-push.ensures.lower_bound, c.common.invariant.grows);
    }
