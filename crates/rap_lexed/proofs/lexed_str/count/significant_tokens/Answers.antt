use Rattle.std.proofs.Common.{◌≡◌, ℕ, ◌+◌, List, [], ◌∷◌, ◌++◌, Option, Some, None, not, cond, length, drop, chars, nat_lt, option_to_list, slice_index, slice_range, IsCharBoundary, refl, subst, sym, ◌∙◌, arith}
use Rattle.std.specs.List.{count_by}
use Rattle.std.proofs.lemmas.Bool.{cond-true, cond-false}
use Rattle.std.proofs.lemmas.List.{drop-drop}
use Rattle.std.proofs.lemmas.List.Sums.{sum_by-append, sum_by-cons}
use Rattle.std.proofs.lemmas.Str.{IsCharBoundary-from_rest}
use Rattle.rap_base.specs.TokenTests.{is_trivia}
use Rattle.rap_lexer.specs.First.{First}
use Rattle.rap_lexed.specs.Header.{pieces, header_kinds}
use Rattle.rap_lexed.specs.LexedStr.{Token, IsFirst, cut}
use Rattle.rap_lexed.specs.Trivia.{significant, is_significant}
use Rattle.rap_lexed.proofs.Reports.{some_messages}
use Rattle.rap_lexed.proofs.Upto.{header_begun, more, lexing}
use Rattle.rap_lexed.proofs.lexed_str.count.significant_tokens.Goals as goal
use Rattle.rap_lexed.proofs.lexed_str.count.significant_tokens.Goals.{then-not-is_trivia, else-not-is_trivia}

-- how many of the kinds are no trivia
abbrev counted : List ℕ → ℕ
counted kinds = count_by (λ kind. not (is_trivia kind)) kinds

counted-header : (shebang frontmatter : Option ℕ) → counted (header_kinds shebang frontmatter) ≡ length (header_kinds shebang frontmatter)
counted-header None None = refl
counted-header (Some a) None = refl
counted-header None (Some b) = refl
counted-header (Some a) (Some b) = refl

counted-push : (kinds : List ℕ) (kind : ℕ) → counted (kinds ++ kind ∷ []) ≡ counted kinds + cond {A = ℕ} (not (is_trivia kind)) 1 0
counted-push kinds kind =
    let f : ℕ → ℕ = λ k. cond {A = ℕ} (not (is_trivia k)) 1 0 in
    omega (arith, sum_by-append f kinds (kind ∷ []), sum_by-cons f kind [])

significant-cut : (text kinds starts : List ℕ) → significant (cut text kinds starts) ≡ counted kinds
significant-cut text [] starts = refl
significant-cut text (k ∷ kinds) starts =
    let first : Token = record { kind = k; text = slice_range text (slice_index starts 0) (slice_index starts 1) } in
    omega (arith, significant-cut text kinds (drop 1 starts), sum_by-cons (λ t. cond {A = ℕ} (is_significant t) 1 0) first (cut text kinds (drop 1 starts)), sum_by-cons (λ kind. cond {A = ℕ} (not (is_trivia kind)) 1 0) k kinds)

pub tokens-init : goal.tokens-init
tokens-init c =
    let f = c.find_header-header.result in
    record {
      header = pieces c.args.text.now f.shebang f.frontmatter;
      kinds = header_kinds f.shebang f.frontmatter;
      starts = 0 ∷ (option_to_list f.shebang ++ option_to_list f.frontmatter);
      errors = [];
      since = 5;
      is_header = c.find_header-header.ensures.header;
      upto = header_begun c.args.edition c.args.text.now f.shebang f.frontmatter _ _ _ _ c.utf8.text c.find_header-header.ensures.ends refl refl refl c.end-offset.ensures;
      counted = c.count-count.ensures ∙ sym (counted-header f.shebang f.frontmatter);
    }

pub tokens-preserved : goal.tokens-preserved
tokens-preserved c =
    let text = c.args.text.now in
    let offset = c.tokens.offset in
    let token = c.first_token-token.result.0 in
    let n = c.first_token-token.result.1 in
    let e = c.range_from.ensures.value in
    let i = c.tokens.invariant in
    let first : First c.args.edition (chars (drop offset text)) token (chars (drop (offset + n) text)) = subst (λ (l : List ℕ). First c.args.edition (chars (drop offset text)) token (chars l)) (drop-drop n offset text) (rw e at c.first_token-token.ensures.token) in
    let border : IsCharBoundary (drop offset text) n = subst (λ (l : List ℕ). IsCharBoundary l n) e c.first_token-token.ensures.border in
    let reported = some_messages (nat_lt i.since 5) (slice_range text offset (offset + n)) token.remark in
    let is_first : IsFirst c.args.edition (nat_lt i.since 5) (drop offset text) (record { kind = token.kind; text = slice_range text offset (offset + n) }) (drop (offset + n) text) reported.0 = (token.remark, first, reported.1) in
    record {
      header = i.header;
      kinds = _;
      starts = _;
      errors = _;
      since = _;
      is_header = i.is_header;
      upto = more c.args.edition text _ _ _ i.errors i.since offset token.kind (offset + n) i.upto (omega (arith, c.first_token-token.ensures.positive)) (IsCharBoundary-from_rest text offset n i.upto.within border) reported.0 is_first;
      counted = elim c.if-not-is_trivia.branch [
        | then-not-is_trivia w ↦ omega (arith, w.count-is, i.counted, counted-push i.kinds token.kind, cond-true {A = ℕ} (not (is_trivia token.kind)) 1 0 cc)
        | else-not-is_trivia w ↦ omega (arith, w.count-is, i.counted, counted-push i.kinds token.kind, cond-false {A = ℕ} (not (is_trivia token.kind)) 1 0 cc)
      ];
    }

pub returns : goal.returns
returns c =
    let i = c.tokens.invariant in
    (_, lexing c.args.edition _ _ _ _ _ i.since c.tokens.offset i.upto (omega arith) c.utf8.text c.tokens-test.false i.is_header, i.counted ∙ sym (significant-cut c.args.text.now i.kinds i.starts))
