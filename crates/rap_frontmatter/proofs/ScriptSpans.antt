-- the spans of a refusal lie where the text may be cut
use Rattle.std.proofs.Common.{◌≡◌, ℕ, List, [], ◌∷◌, ◌++◌, ◌+◌, ◌<◌, ◌≤◌, length, take, drop, All, Result, Ok, Err, IfErr, unwrap_or, IsUtf8, IsCharBoundary, refl, ap, sym, ◌∙◌, subst, arith}
use Rattle.std.specs.declared.ops.Range.{Range}
use Rattle.std.proofs.lemmas.List.{append_assoc, length-append, drop-drop, drop_at, take_at}
use Rattle.std.proofs.lemmas.List.Elements.{All-nil, All-push}
use Rattle.std.proofs.lemmas.Str.{IsUtf8-drop, IsCharBoundary-end, IsCharBoundary-from_rest}
use Rattle.rap_frontmatter.specs.Refusal.{Refusal, IsRefused, LiesAtBorders, end_of, open_span, reported}
use Rattle.rap_frontmatter.specs.Refusal.IsRefused.{opens_too_short, lacks_line, closes_too_short, lacks_close, closes_too_long, follows_close, opens_twice}
use Rattle.rap_frontmatter.specs.Script.{Script, Opening, Closing, Ending, Fence, HasFence, HasWord, IsCut, dashes, moved, span, open_at, open_end, close_at, close_end, content_at}
use Rattle.rap_frontmatter.specs.ScriptFault.{IsFault, IsShownAtBorders}
use Rattle.rap_frontmatter.specs.ScriptPlaces.{HasClosing, HasOpening}
use Rattle.rap_frontmatter.specs.declared.frontmatter.error.ScriptFault.{ScriptFault}
use Rattle.rap_frontmatter.specs.declared.frontmatter.error.ScriptFault.TheVariants.{Refused, NoMemory}
use Rattle.rap_frontmatter.proofs.ScriptAccepted.{word_cut, line_end_ascii}
use Rattle.rap_frontmatter.proofs.ScriptBorders.{line_ends_at}
use Rattle.rap_frontmatter.proofs.ScriptParts.{DashesAt, opening_dashes, closing_dashes, rest_at, cut_at_dashes, cut_past_dashes}

end_cut : (text : List ℕ) → IsCut text (end_of text)
end_cut text = (omega arith, IsCharBoundary-end text, IsCharBoundary-end text)

one_cut : (text : List ℕ) (r : Range ℕ) → IsCut text r → All (IsCut text) (r ∷ [])
one_cut text r c = All-push (IsCut text) [] r (All-nil (IsCut text)) c

two_cut : (text : List ℕ) (r s : Range ℕ) → IsCut text r → IsCut text s → All (IsCut text) (r ∷ s ∷ [])
two_cut text r s c d = All-push (IsCut text) (r ∷ []) s (one_cut text r c) d

-- dashes may be cut off
dashes_cut : (text : List ℕ) (start n : ℕ) (rest : List ℕ) → IsUtf8 text → 0 < n → DashesAt text start n rest → IsCut text (span start n)
dashes_cut text start n rest u some d = (omega arith, cut_at_dashes text start n rest d some, cut_past_dashes text start n rest d some u)

-- `rest` is what follows a place where the text may be cut
record Follows (text : List ℕ) (at : ℕ) (rest : List ℕ) : Type 0 where
  here : IsCharBoundary text at
  is : drop at text ≡ rest

module _ (text : List ℕ) (at : ℕ) (rest : List ℕ) (u : IsUtf8 text) (f : Follows text at rest) where
  rest_utf8 : IsUtf8 rest
  rest_utf8 = subst IsUtf8 f.is (IsUtf8-drop text at u f.here)

  up : (j k : ℕ) → IsCharBoundary rest j → k ≡ at + j → IsCharBoundary text k
  up j k b e =
      let inside : IsCharBoundary (drop at text) j = subst (λ (l : List ℕ). IsCharBoundary l j) (sym f.is) b in
      subst (λ (i : ℕ). IsCharBoundary text i) (sym e) (IsCharBoundary-from_rest text at j f.here.0 inside)

  -- a span of the rest, where it stands in the text
  cut_up : (r s : Range ℕ) → IsCut rest r → s.start ≡ at + r.start → s.end ≡ at + r.end → IsCut text s
  cut_up r s c e f = (omega (arith, c.0), up r.start s.start c.1 e, up r.end s.end c.2 f)

  further : (j k : ℕ) (more : List ℕ) → Follows rest j more → k ≡ at + j → Follows text k more
  further j k more g e = record {
    here = up j k g.here e;
    is = ap (λ i. drop i text) e ∙ (sym (drop-drop j at text) ∙ (ap (λ l. drop j l) f.is ∙ g.is));
  }

-- what follows dashes
past_dashes : (text : List ℕ) (start n : ℕ) (rest : List ℕ) → IsUtf8 text → 0 < n → DashesAt text start n rest → Follows text (start + n) rest
past_dashes text start n rest u some d = record { here = cut_past_dashes text start n rest d some u; is = sym (rest_at text start n rest d) }

module _ (text : List ℕ) (u : IsUtf8 text) (o : Opening text) (some : 0 < o.fence.n) where
  opens : DashesAt text (open_at o) o.fence.n o.fence.after
  opens =
      let h : HasOpening text o.shebang (open_at o) o.fence.n = record { opening = o; shebang_is = refl; start_is = refl; size = refl } in
      opening_dashes text o.shebang (open_at o) o.fence.n h

  open_cut : IsCut text (open_span o)
  open_cut = dashes_cut text (open_at o) o.fence.n o.fence.after u some opens

  after : Follows text (open_end o) o.fence.after
  after = past_dashes text (open_at o) o.fence.n o.fence.after u some opens

  after_utf8 : IsUtf8 o.fence.after
  after_utf8 = rest_utf8 text (open_end o) o.fence.after u after

  -- dashes that begin a line of what follows
  fence_cut : (m place : ℕ) → 0 < m → HasFence m o.fence.after place → IsCut text (span (open_end o + place) m)
  fence_cut m place more h =
      let d : DashesAt o.fence.after place m h.rest = record {
        prefix = h.prefix ++ 10 ∷ [];
        whole = h.split ∙ sym (append_assoc h.prefix (10 ∷ []) (dashes m ++ h.rest));
        size = omega (arith, h.size, length-append h.prefix (10 ∷ []));
      }
      in
      cut_up text (open_end o) o.fence.after u after (span place m) (span (open_end o + place) m) (dashes_cut o.fence.after place m h.rest after_utf8 more d) refl (omega arith)

  module _ (c : Closing o.fence.n o.fence.after) where
    abbrev close : ℕ
    close = length c.line + length c.end + length c.matter

    closes : DashesAt o.fence.after close o.fence.n c.rest
    closes =
        let h : HasClosing o.fence.n o.fence.after (length c.line) (length c.line + length c.end) close = record { closing = c; line_is = refl; matter_is = refl; close_is = refl } in
        closing_dashes o.fence.n o.fence.after _ _ close h

    close_cut : IsCut text (span (close_at o c) o.fence.n)
    close_cut = cut_up text (open_end o) o.fence.after u after (span close o.fence.n) (span (close_at o c) o.fence.n) (dashes_cut o.fence.after close o.fence.n c.rest after_utf8 some closes) (omega arith) (omega arith)

    rest : Follows text (close_end o c) c.rest
    rest = further text (open_end o) o.fence.after u after (close + o.fence.n) (close_end o c) c.rest (past_dashes o.fence.after close o.fence.n c.rest after_utf8 some closes) (omega arith)

    closed_utf8 : IsUtf8 c.rest
    closed_utf8 = rest_utf8 text (close_end o c) c.rest u rest

    more_cut : (extra : ℕ) (tail : List ℕ) → 0 < extra → c.rest ≡ dashes extra ++ tail → IsCut text (span (close_end o c) extra)
    more_cut extra tail more e =
        let d : DashesAt c.rest 0 extra tail = record { prefix = []; whole = e; size = refl } in
        cut_up text (close_end o c) c.rest u rest (span 0 extra) (span (close_end o c) extra) (dashes_cut c.rest 0 extra tail closed_utf8 more d) (omega arith) (omega arith)

    module _ (e : Ending c.rest) where
      last_word : (word : Range ℕ) → HasWord e.tail word → IsCut text (moved (close_end o c) word)
      last_word word w =
          let line : take (length e.tail) c.rest ≡ e.tail = ap (λ l. take (length e.tail) l) e.line.whole ∙ take_at e.tail (e.end ++ e.content) (length e.tail) refl in
          let fits : length e.tail ≤ length c.rest = omega (arith, ap length e.line.whole ∙ length-append e.tail (e.end ++ e.content)) in
          let cut = word_cut c.rest (length e.tail) word closed_utf8 fits (subst (λ (l : List ℕ). HasWord l word) (sym line) w) (line_end_ascii c.rest e.tail e.end e.content e.line.whole e.line.ends) in
          cut_up text (close_end o c) c.rest u rest word (moved (close_end o c) word) cut refl refl

      content : Follows text (content_at o c e) e.content
      content =
          let whole : c.rest ≡ (e.tail ++ e.end) ++ e.content = e.line.whole ∙ sym (append_assoc e.tail e.end e.content) in
          let f : Follows c.rest (length e.tail + length e.end) e.content = record {
            here = line_ends_at c.rest e.tail e.end e.content closed_utf8 e.line.whole e.line.ends;
            is = ap (λ l. drop (length e.tail + length e.end) l) whole ∙ drop_at (e.tail ++ e.end) e.content _ (length-append e.tail e.end);
          }
          in
          further text (close_end o c) c.rest u rest (length e.tail + length e.end) (content_at o c e) e.content f (omega arith)

      second_cut : (f : Fence e.content) → 0 < f.n → IsCut text (span (content_at o c e + unwrap_or f.blank 0) f.n)
      second_cut f more =
          let d : DashesAt e.content (unwrap_or f.blank 0) f.n f.after = record { prefix = f.splits.prefix; whole = f.splits.whole; size = sym f.splits.size } in
          let cut = dashes_cut e.content (unwrap_or f.blank 0) f.n f.after (rest_utf8 text (content_at o c e) e.content u content) more d in
          cut_up text (content_at o c e) e.content u content (span (unwrap_or f.blank 0) f.n) (span (content_at o c e + unwrap_or f.blank 0) f.n) cut refl (omega arith)

-- a refusal that shows the opening dashes beside it
by_spans : (text : List ℕ) (e : Refusal) → IsUtf8 text → (o : Opening text) → 0 < o.fence.n → (message : List ℕ) (primary : Range ℕ) → e ≡ reported o message primary → IsCut text primary → LiesAtBorders text e
by_spans text e u o some message primary is c =
    subst (λ (r : Refusal). LiesAtBorders text r) (sym is) (record { primary = c; visible = one_cut text (open_span o) (open_cut text u o some) })

-- each refusal
pub at_borders : (text : List ℕ) (e : Refusal) → IsUtf8 text → IsRefused text e → LiesAtBorders text e
at_borders text e u (opens_too_short h) =
    let o = h.opening in
    let some : 0 < o.fence.n = h.some in
    by_spans text e u o some _ _ h.is (end_cut text)
at_borders text e u (lacks_line h) =
    let o = h.opening in
    let some : 0 < o.fence.n = omega (arith, h.enough) in
    by_spans text e u o some _ _ h.is (end_cut text)
at_borders text e u (closes_too_short h) =
    let o = h.opening in
    let some : 0 < o.fence.n = omega (arith, h.enough) in
    by_spans text e u o some _ _ h.is (fence_cut text u o some h.most h.place h.some h.longest.fence.fence)
at_borders text e u (lacks_close h) =
    let o = h.opening in
    let some : 0 < o.fence.n = omega (arith, h.enough) in
    by_spans text e u o some _ _ h.is (end_cut text)
at_borders text e u (closes_too_long h) =
    let o = h.opening in
    let some : 0 < o.fence.n = omega (arith, h.enough) in
    by_spans text e u o some _ _ h.is (more_cut text u o some h.closing h.extra h.rest h.some h.split)
at_borders text e u (follows_close h) =
    let o = h.opening in
    let some : 0 < o.fence.n = omega (arith, h.enough) in
    by_spans text e u o some _ _ h.is (last_word text u o some h.closing h.ending h.word h.has_word)
at_borders text e u (opens_twice h) =
    let o = h.opening in
    let some : 0 < o.fence.n = omega (arith, h.enough) in
    subst (λ (r : Refusal). LiesAtBorders text r) (sym h.is) (record {
      primary = second_cut text u o some h.closing h.ending h.second h.some;
      visible = two_cut text _ _ (open_cut text u o some) (close_cut text u o some h.closing);
    })

pub shown_at_borders : (text : List ℕ) (r : Result Script ScriptFault) → IsUtf8 text → IfErr r (IsFault text) → IfErr r (IsShownAtBorders text)
shown_at_borders text (Ok s) u h = tt
shown_at_borders text (Err (Refused e)) u h = at_borders text e u h
shown_at_borders text (Err NoMemory) u h = tt
