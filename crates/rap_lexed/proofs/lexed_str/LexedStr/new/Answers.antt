use Rattle.std.proofs.Common.{◌≡◌, ℕ, List, [], ◌∷◌, ◌++◌, ◌+◌, ◌-◌, ◌<◌, ◌≤◌, length, All, nat_lt, drop, chars, slice_range, IsCharBoundary, length-append, subst, ap, sym, ◌∙◌, arith}
use Rattle.std.proofs.lemmas.List.{drop-drop}
use Rattle.std.proofs.lemmas.List.Elements.{All-push}
use Rattle.rap_lexer.specs.Common.{is_contextual}
use Rattle.rap_lexer.specs.First.{First}
use Rattle.rap_base.specs.TokenTests.{IsTokenKind}
use Rattle.rap_base.specs.declared.edition.Edition.{Edition}
use Rattle.rap_lexed.specs.About.{about}
use Rattle.std.specs.Prelude.{min, option_to_list}
use Rattle.rap_lexed.specs.Contextual.{is_contextual_token, AreNoted}
use Rattle.rap_lexed.specs.Header.{pieces, header_kinds, IsHeader}
use Rattle.rap_lexed.specs.LexedStr.{Token, Message, IsFirst, token_at, cut}
use Rattle.rap_lexed.specs.Reported.{ReportsOf}
use Rattle.std.proofs.lemmas.Str.{IsCharBoundary-from_rest}
use Rattle.rap_lexed.proofs.CommonTokens.{further, range-drop}
use Rattle.rap_lexed.proofs.Contextual.{header-noted, noted-more, noted-same}
use Rattle.rap_lexed.proofs.Cuts.{piece, token_at-cut}
use Rattle.rap_lexed.proofs.OneLexing.{only_lexing}
use Rattle.rap_lexed.proofs.OpenStrings.{counts, since_few}
use Rattle.rap_lexed.proofs.Upto.{Upto, header_begun, header_tokens, more, new_piece, same_piece, starts, lexing}
use Rattle.rap_lexed.proofs.lexed_str.LexedStr.new.Goals as goal
use Rattle.rap_lexed.proofs.lexed_str.LexedStr.new.Goals.{else-tokens-test, then-tokens-test+in_ok-offset+then-offset-text}

pub tokens-init : goal.tokens-init
tokens-init c =
    let f = c.find_header-header.result in
    let kinds : c.push_header.new.kinds.items ≡ header_kinds f.shebang f.frontmatter = c.in_ok-push_header.ensures.kinds ∙ ap (λ l. l ++ header_kinds f.shebang f.frontmatter) c.in_ok-kind.ensures.items in
    let zero : c.push.new.self.items ≡ 0 ∷ [] = c.in_ok-push.ensures.items ∙ ap (λ l. l ++ 0 ∷ []) c.in_ok-start.ensures.items in
    let starts : c.push_header.new.starts.items ≡ 0 ∷ (option_to_list f.shebang ++ option_to_list f.frontmatter) = c.in_ok-push_header.ensures.starts ∙ ap (λ l. l ++ (option_to_list f.shebang ++ option_to_list f.frontmatter)) zero in
    record {
      header = pieces c.args.text.now f.shebang f.frontmatter;
      is_header = c.find_header-header.ensures.header;
      upto = header_begun c.args.edition c.args.text.now f.shebang f.frontmatter _ _ _ _ c.utf8.text c.find_header-header.ensures.ends kinds starts c.new-error.ensures.items c.end-offset.ensures;
      kinds = rw kinds (header_tokens f.shebang f.frontmatter);
      numbers = header-noted c.args.text.now c.push_header.new.kinds.items c.push_header.new.starts.items _ f.shebang f.frontmatter kinds c.new-contextual.ensures.items;
    }

pub since_open_with-since_open-requires : goal.since_open_with-since_open-requires
since_open_with-since_open-requires c =
    let i = c.tokens.invariant in
    let f = further _ _ i.header _ _ _ _ _ _ i.upto i.kinds i.numbers c.in_ok-offset.ensures.taken in
    omega (arith, c.len.ensures, c.if-text-gt-MAX_TEXT.false, i.upto.since_is, since_few (piece c.args.text.now c.tokens.kind.items c.tokens.start.items) (length c.tokens.kind.items), f.upto.few, f.upto.within)

pub overflow_cast-number : goal.overflow_cast-number
overflow_cast-number c =
    let i = c.tokens.invariant in
    let f = further _ _ i.header _ _ _ _ _ _ i.upto i.kinds i.numbers c.in_ok-offset.ensures.taken in
    omega (arith, c.len-number.ensures, c.if-text-gt-MAX_TEXT.false, f.upto.few, f.upto.within)

pub note-requires : goal.note-requires
note-requires c =
    let i = c.tokens.invariant in
    let f = further _ _ i.header _ _ _ _ _ _ i.upto i.kinds i.numbers c.in_ok-offset.ensures.taken in
    omega (arith, c.len-in-tokens.ensures, c.if-text-gt-MAX_TEXT.false, f.upto.few, f.upto.within)

pub report-requires : goal.report-requires
report-requires c =
    let text = c.args.text.now in
    let offset = c.in_ok-offset.offset in
    let n = c.next_token-len.result.1 in
    let next : c.range-next.result.now ≡ slice_range text offset (offset + n) = c.range-next.ensures.value in
    let part : slice_range c.range_from.result.now 0 n ≡ slice_range text offset (offset + n) = ap (λ l. slice_range l 0 n) c.range_from.ensures.value ∙ range-drop text offset n in
    let quiet = c.next_token-len.ensures.quiet in
    rw next (rw part at quiet)

pub tokens-preserved : goal.tokens-preserved
tokens-preserved c =
    let text = c.args.text.now in
    let i = c.tokens.invariant in
    let f = further _ _ i.header _ _ _ _ _ _ i.upto i.kinds i.numbers c.in_ok-offset.ensures.taken in
    let offset = c.in_ok-offset.offset in
    let since = c.since_open_with-since_open.result in
    let kinds = c.take_common.new.kind.items in
    let with_common : min (c.tokens.since_open + (length kinds - length c.tokens.kind.items)) 5 ≡ since = omega (arith, c.since_open_with-since_open.ensures, c.len.ensures, c.len-before.ensures) in
    let token = c.next_token-len.result.0 in
    let n = c.next_token-len.result.1 in
    let e = c.range_from.ensures.value in
    let first : First c.args.edition (chars (drop offset text)) token (chars (drop (offset + n) text)) = subst (λ (l : List ℕ). First c.args.edition (chars (drop offset text)) token (chars l)) (drop-drop n offset text) (rw e at c.next_token-len.ensures.token) in
    let border : IsCharBoundary (drop offset text) n = subst (λ (l : List ℕ). IsCharBoundary l n) e c.next_token-len.ensures.border in
    let reported = c.in_ok-report.ensures in
    let next : c.range-next.result.now ≡ slice_range text offset (offset + n) = c.range-next.ensures.value in
    let reports : ReportsOf (nat_lt since 5) (slice_range text offset (offset + n)) token.remark reported.0 = rw next at reported.1 in
    let is_first : IsFirst c.args.edition (nat_lt since 5) (drop offset text) (record { kind = token.kind; text = slice_range text offset (offset + n) }) (drop (offset + n) text) reported.0 = (token.remark, first, reports) in
    let number : c.len-number.result ≡ length kinds = omega (arith, c.len-number.ensures) in
    let errors : c.report.new.errors.items ≡ c.tokens.error.items ++ about (length kinds) reported.0 = reported.2 ∙ ap (λ i. c.tokens.error.items ++ about i reported.0) number in
    let counted = counts since token.kind (slice_range text offset (offset + n)) _ (rw next at c.since_open_after-since_open.ensures.opens) (rw next at c.since_open_after-since_open.ensures.other) in
    let all = more c.args.edition text _ _ _ c.tokens.error.items since offset token.kind (offset + n) (rw with_common at f.upto) (omega (arith, c.next_token-len.ensures.positive)) (IsCharBoundary-from_rest text offset n f.upto.within border) reported.0 is_first in
    record {
      header = i.header;
      is_header = i.is_header;
      upto = rw (c.in_ok-push-2.ensures.items, c.in_ok-push-3.ensures.items, errors, counted) all;
      kinds = rw c.in_ok-push-2.ensures.items (All-push IsTokenKind kinds token.kind f.tokens c.next_token-len.ensures.kind);
      numbers =
          let starts = c.take_common.new.start.items in
          let end : ℕ = offset + n in
          let positive : offset < end = omega (arith, c.next_token-len.ensures.positive) in
          let there : IsCharBoundary text end = IsCharBoundary-from_rest text offset n f.upto.within border in
          let old = same_piece c.args.edition text i.header kinds starts c.tokens.error.items since offset token.kind end (rw with_common at f.upto) positive there in
          let latest = new_piece c.args.edition text i.header kinds starts c.tokens.error.items since offset token.kind end (rw with_common at f.upto) positive there in
          let longer : length (kinds ++ token.kind ∷ []) ≡ length kinds + 1 = length-append kinds (token.kind ∷ []) in
          let place : c.len-in-tokens.result ≡ length kinds = omega (arith, c.len-in-tokens.ensures) in
          let said : c.is_contextual.result ≡ is_contextual token.kind (slice_range text offset end) = c.is_contextual.ensures ∙ ap (is_contextual token.kind) next in
          let more = noted-more (piece text kinds starts) (piece text (kinds ++ token.kind ∷ []) (starts ++ end ∷ [])) (length kinds) (λ j h. sym (old j h)) c.take_common.new.contextual.items _ (ap is_contextual_token latest ∙ sym said) f.noted in
          rw (c.in_ok-push-2.ensures.items, c.in_ok-push-3.ensures.items, c.in_ok-note.ensures, longer, place) more;
    }

-- the loop has come to the end of the text
record Whole (edition : Edition) (text kinds starts numbers : List ℕ) (errors : List Message) : Type 0 where
  pub since : ℕ
  pub offset : ℕ
  pub header : List Token
  pub is_header : IsHeader edition text header
  pub upto : Upto edition text header kinds starts errors since offset
  pub tokens : All IsTokenKind kinds
  pub done : length text ≤ offset
  pub noted : AreNoted (piece text kinds starts) 0 (length kinds) numbers

whole : (c : goal.After-text-1) → Whole c.args.edition c.args.text.now c.tokens-test.kind.items c.tokens-test.start.items c.tokens-test.contextual.items c.tokens.error.items
whole c =
    let i = c.tokens.invariant in
    elim c.tokens-test.branch [
      | else-tokens-test w ↦ rw (w.kind-is, w.start-is, w.contextual-is) (record {
        since = c.tokens.since_open;
        offset = c.tokens.offset;
        header = i.header;
        is_header = i.is_header;
        upto = i.upto;
        tokens = i.kinds;
        done = w.tokens-test.false;
        noted = i.numbers;
      })
      | then-tokens-test+in_ok-offset+then-offset-text w ↦
          let f = further _ _ i.header _ _ _ _ _ _ i.upto i.kinds i.numbers w.in_ok-offset.ensures.taken in
          rw (w.kind-is, w.start-is, w.contextual-is) (record {
            since = _;
            offset = w.in_ok-offset.offset;
            header = i.header;
            is_header = i.is_header;
            upto = f.upto;
            tokens = f.tokens;
            done = omega (arith, w.if-offset-text.true);
            noted = f.noted;
          })
    ]

pub invariant_of-result : goal.invariant_of-result
invariant_of-result c =
    let w = whole c in
    let text = c.args.text.now in
    let ks = c.tokens-test.kind.items in
    let ss = c.tokens-test.start.items in
    (starts c.args.edition _ _ _ _ _ w.since w.offset w.upto (omega arith) c.utf8.text w.done, w.tokens, w.upto.ordered, noted-same (piece text ks ss) (token_at (cut text ks ss)) (length ks) (λ i h. sym (token_at-cut text ks ss i h)) 0 _ w.noted)

pub returns-clause-lexing : goal.returns-clause-lexing
returns-clause-lexing c =
    let w = whole c in
    lexing c.args.edition _ _ _ _ _ w.since w.offset w.upto (omega arith) c.utf8.text w.done w.is_header

pub returns-clause-only : goal.returns-clause-only
returns-clause-only c = only_lexing c.args.text.now c.args.edition _ c.utf8.text (returns-clause-lexing c)
