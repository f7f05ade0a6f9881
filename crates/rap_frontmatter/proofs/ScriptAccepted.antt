-- how an accepted text follows from the places that the walk found, and that its spans lie at borders
use Rattle.std.proofs.Common.{◌≡◌, ℕ, true, List, [], ◌∷◌, ◌++◌, ◌+◌, ◌-◌, ◌<◌, ◌≤◌, ◌⊎◌, inl, inr, length, take, drop, get_or, Option, Some, None, IfSome, unwrap_or, IsUtf8, IsCharBoundary, refl, ap, sym, ◌∙◌, subst, arith}
use Rattle.std.specs.Option.{option_map}
use Rattle.std.specs.List.{AllPass}
use Rattle.std.specs.declared.ops.Range.{Range}
use Rattle.std.proofs.lemmas.List.{length-append, length-take-le, length-drop, take_at, get_or-take, get_or_at, get_or_append_left, get_or-append-add}
use Rattle.std.proofs.lemmas.Str.{IsUtf8-drop, IsCharBoundary-start, IsCharBoundary-end, IsCharBoundary-before_ascii, IsCharBoundary-after_ascii, IsCharBoundary-from_rest}
use Rattle.std.proofs.lemmas.Bool.Decides.{nat_tests}
use Rattle.rap_frontmatter.specs.Script.{Script, IsLineEnd, HasWord, FindsWord, dashes, IsScript, AtBorders, IsCut, is_horizontal, span, up_to, moved, matter_at, close_at}
use Rattle.rap_frontmatter.specs.Script.IsLineEnd.{with_return, feed, text_end}
use Rattle.rap_frontmatter.specs.ScriptPlaces.{HasOpening, HasClosing, HasEnding, HasNoDashes}
use Rattle.rap_frontmatter.proofs.ScriptLines.{lt_or_le}
use Rattle.rap_frontmatter.proofs.ScriptBorders.{shebang_border, line_ends_at}
use Rattle.rap_frontmatter.proofs.ScriptParts.{DashesAt, opening_dashes, closing_dashes, dashes_fit, cut_at_dashes, cut_past_dashes}
use Rattle.rap_frontmatter.proofs.ScriptRefused.{span_same, shown, end_is, after_is, closing, ending, content_at_is, below_is}

script_same : (text : List ℕ) (a a' : Option ℕ) (b b' : Range ℕ) (i i' : Option (Range ℕ)) (m m' k k' r r' : Range ℕ) → a ≡ a' → b ≡ b' → i ≡ i' → m ≡ m' → k ≡ k' → r ≡ r' →
    (let s : Script = record { text = text; shebang = option_map up_to a; opening = Some b; info = i; frontmatter = Some m; close = Some k; content = r } in s)
    ≡ record { text = text; shebang = option_map up_to a'; opening = Some b'; info = i'; frontmatter = Some m'; close = Some k'; content = r' }
script_same text a a' b b' i i' m m' k k' r r' ea eb ei em ek er = rw (ea, eb, ei, em, ek, er)

range_same : (a a' b b' : ℕ) → a ≡ a' → b ≡ b' → (let r : Range ℕ = record { start = a; end = b } in r) ≡ record { start = a'; end = b' }
range_same a a' b b' e f = rw (e, f)

-- ---- without a frontmatter

abbrev pub plain : List ℕ → Option ℕ → Script
plain text shebang =
    record { text = text; shebang = option_map up_to shebang; opening = None; info = None; frontmatter = None; close = None; content = record { start = unwrap_or shebang 0; end = length text } }

pub plain_same : (text : List ℕ) (shebang : Option ℕ) (a : Option (Range ℕ)) (b : ℕ) → a ≡ option_map up_to shebang → b ≡ unwrap_or shebang 0 →
    (let s : Script = record { text = text; shebang = a; opening = None; info = None; frontmatter = None; close = None; content = record { start = b; end = length text } } in s) ≡ plain text shebang
plain_same text shebang a b e f = rw (e, f)

shebang_span : (text : List ℕ) (end : Option ℕ) → IsUtf8 text → IsCharBoundary text (unwrap_or end 0) → IfSome (option_map up_to end) (IsCut text)
shebang_span text None u b = tt
shebang_span text (Some n) u b = (omega arith, IsCharBoundary-start text u, b)

module _ (text : List ℕ) (shebang : Option ℕ) (start n : ℕ) (h : HasOpening text shebang start n) where
  pub accepts_plain : n ≡ 0 → IsScript text (plain text shebang)
  accepts_plain none = inl (record { opening = h.opening; none = sym h.size ∙ none; is = ap (λ b. plain text b) h.shebang_is })

  shebang_cut : IsUtf8 text → IsCharBoundary text (unwrap_or shebang 0)
  shebang_cut u = subst (λ (b : Option ℕ). IsCharBoundary text (unwrap_or b 0)) (sym h.shebang_is) (shebang_border text h.opening.shebang u h.opening.ends)

  pub plain_borders : IsUtf8 text → AtBorders (plain text shebang)
  plain_borders u =
      record {
        shebang = shebang_span text shebang u (shebang_cut u);
        opening = tt;
        info = tt;
        frontmatter = tt;
        close = tt;
        content = ((shebang_cut u).0, shebang_cut u, IsCharBoundary-end text);
      }

-- ---- with a frontmatter

-- the bytes below `end` are read in the prefix of the text that ends there
read_prefix : (text prefix : List ℕ) (end i : ℕ) → take end text ≡ prefix → i < end → get_or text i 0 ≡ get_or prefix i 0
read_prefix text prefix end i e l = sym (get_or-take end text i 0 l) ∙ ap (λ l. get_or l i 0) e

blank_ascii : (xs : List ℕ) (k : ℕ) → AllPass is_horizontal xs → k < length xs → get_or xs k 0 < 128
blank_ascii xs k all l = let p : is_horizontal (get_or xs k 0) ≡ true = all k 0 l in grind (arith, nat_tests)

-- the word of a line may be cut off, where the line may be
module _ (text : List ℕ) (end : ℕ) (at : Range ℕ) (u : IsUtf8 text) (fits : end ≤ length text) (w : HasWord (take end text) at) (small : end < length text → get_or text end 0 < 128) where
  sizes : length w.left + length w.word + length w.right ≡ end
  sizes =
      let a = ap length w.whole ∙ length-append w.left (w.word ++ w.right) in
      omega (arith, a, length-append w.word w.right, length-take-le end text fits)

  starts_at : (0 < length w.left) ⊎ (length w.left ≤ 0) → IsCharBoundary text (length w.left)
  starts_at (inr none) = subst (λ (k : ℕ). IsCharBoundary text k) (omega arith) (IsCharBoundary-start text u)
  starts_at (inl some) =
      let k = length w.left - 1 in
      let read : get_or text k 0 ≡ get_or w.left k 0 = read_prefix text (w.left ++ (w.word ++ w.right)) end k w.whole (omega (arith, sizes)) ∙ get_or_append_left w.left (w.word ++ w.right) 0 k (omega arith) in
      let ascii : get_or w.left k 0 < 128 = blank_ascii w.left k w.left_blank (omega arith) in
      subst (λ (j : ℕ). IsCharBoundary text j) (omega arith) (IsCharBoundary-after_ascii text k u (omega (arith, sizes)) (omega (arith, read, ascii)))

  right_read : 0 < length w.right → get_or text (length w.left + length w.word) 0 ≡ get_or w.right 0 0
  right_read some =
      let place : length w.left + length w.word ≡ length w.left + (length w.word + 0) = omega arith in
      read_prefix text (w.left ++ (w.word ++ w.right)) end (length w.left + length w.word) w.whole (omega (arith, sizes))
      ∙ (ap (λ k. get_or (w.left ++ (w.word ++ w.right)) k 0) place
      ∙ (get_or-append-add w.left (w.word ++ w.right) (length w.word + 0) 0
      ∙ get_or-append-add w.word w.right 0 0))

  line_end : (end < length text) ⊎ (length text ≤ end) → IsCharBoundary text end
  line_end (inl more) = IsCharBoundary-before_ascii text end more (small more)
  line_end (inr all) = subst (λ (k : ℕ). IsCharBoundary text k) (omega arith) (IsCharBoundary-end text)

  ends_at : (0 < length w.right) ⊎ (length w.right ≤ 0) → IsCharBoundary text (length w.left + length w.word)
  ends_at (inl some) =
      let ascii : get_or w.right 0 0 < 128 = blank_ascii w.right 0 w.right_blank some in
      IsCharBoundary-before_ascii text (length w.left + length w.word) (omega (arith, sizes)) (omega (arith, right_read some, ascii))
  ends_at (inr none) =
      subst (λ (k : ℕ). IsCharBoundary text k) (omega (arith, sizes)) (line_end (lt_or_le end (length text)))

  starts : IsCharBoundary text (length w.left)
  starts = starts_at (lt_or_le 0 (length w.left))

  ends : IsCharBoundary text (length w.left + length w.word)
  ends = ends_at (lt_or_le 0 (length w.right))

  pub word_cut : IsCut text at
  word_cut = subst (λ (r : Range ℕ). IsCut text r) (sym w.is) (omega arith, starts, ends)

-- a line ends before an ASCII byte, or with the text
pub line_end_ascii : (text line end rest : List ℕ) → text ≡ line ++ (end ++ rest) → IsLineEnd line end rest → length line < length text → get_or text (length line) 0 < 128
line_end_ascii text line _ _ e (with_return _ rest) l = omega (arith, ap (λ l. get_or l (length line) 0) e, get_or_at line 13 (10 ∷ rest) 0 (length line) refl)
line_end_ascii text line _ _ e (feed _ rest bare) l = omega (arith, ap (λ l. get_or l (length line) 0) e, get_or_at line 10 rest 0 (length line) refl)
line_end_ascii text line _ _ e (text_end _) l = absurd (omega (arith, ap length e, length-append line []))

-- ---- the parts after the opening dashes

module _ (n : ℕ) (text : List ℕ) (line matter close : ℕ) (u : IsUtf8 text) (some : 0 < n) (k : HasClosing n text line matter close) where
  pub line_fits : line ≤ length text
  line_fits =
      let c = k.closing in
      omega (arith, ap length c.info_line.whole ∙ length-append c.line (c.end ++ (c.matter ++ (dashes n ++ c.rest))), k.line_is)

  small : line < length text → get_or text line 0 < 128
  small l =
      let c = k.closing in
      let at = ap (λ j. get_or text j 0) k.line_is in
      omega (arith, at, line_end_ascii text c.line c.end (c.matter ++ (dashes n ++ c.rest)) c.info_line.whole c.info_line.ends (omega (arith, k.line_is)))

  pub word_in_line : (at : Range ℕ) → HasWord (take line text) at → IsCut text at
  word_in_line at w = word_cut text line at u line_fits w small

  pub matter_cut : IsCharBoundary text matter
  matter_cut =
      let c = k.closing in
      subst (λ (j : ℕ). IsCharBoundary text j) (omega (arith, k.line_is, k.matter_is)) (line_ends_at text c.line c.end (c.matter ++ (dashes n ++ c.rest)) u c.info_line.whole c.info_line.ends)

  pub close_cut : IsCharBoundary text close
  close_cut = cut_at_dashes text close n k.closing.rest (closing_dashes n text line matter close k) some

  pub rest_cut : IsCharBoundary text (close + n)
  rest_cut = cut_past_dashes text close n k.closing.rest (closing_dashes n text line matter close k) some u

-- ---- the whole

-- a place in what follows one is a place in the text
up : (text : List ℕ) (at j : ℕ) → at ≤ length text → IsCharBoundary (drop at text) j → IsCharBoundary text (at + j)
up text at j l b = IsCharBoundary-from_rest text at j l b

cut_in_rest : (text : List ℕ) (at : ℕ) (r : Range ℕ) → at ≤ length text → IsCut (drop at text) r → IsCut text (moved at r)
cut_in_rest text at r l c = (omega (arith, c.0), up text at r.start l c.1, up text at r.end l c.2)

info_span : (text line : List ℕ) (at : ℕ) (info : Option (Range ℕ)) → FindsWord line info → ((r : Range ℕ) → HasWord line r → IsCut text (moved at r)) → IfSome (option_map (moved at) info) (IsCut text)
info_span text line at None f c = tt
info_span text line at (Some r) f c = c r f

abbrev pub fenced : List ℕ → Option ℕ → ℕ → ℕ → Option (Range ℕ) → ℕ → ℕ → ℕ → Script
fenced text shebang start n info matter close content =
    record {
      text = text;
      shebang = option_map up_to shebang;
      opening = Some (span start n);
      info = option_map (moved (start + n)) info;
      frontmatter = Some (record { start = start + n + matter; end = start + n + close });
      close = Some (span (start + n + close) n);
      content = record { start = start + n + close + n + content; end = length text };
    }

-- the line as the walk cuts it out of the bytes
pub line_cut : (text bytes : List ℕ) (end line at : ℕ) → bytes ≡ text → end ≡ at → take (end + line - end) (drop end bytes) ≡ take line (drop at text)
line_cut text bytes end line at e f =
    let size : end + line - end ≡ line = omega arith in
    ap (λ k. take k (drop end bytes)) size ∙ (ap (λ l. take line (drop end l)) e ∙ ap (λ k. take line (drop k text)) f)

pub fenced_same : (text : List ℕ) (shebang : Option ℕ) (start n end matter close content : ℕ) (info a i : Option (Range ℕ)) (b : Range ℕ) → a ≡ option_map up_to shebang → b ≡ span start n → i ≡ option_map (moved end) info → end ≡ start + n →
    (let s : Script = record { text = text; shebang = a; opening = Some b; info = i; frontmatter = Some (record { start = end + matter; end = end + close }); close = Some (record { start = end + close; end = end + close + n }); content = record { start = end + close + n + content; end = length text } } in s)
    ≡ fenced text shebang start n info matter close content
fenced_same text shebang start n end matter close content info a i b ea eb ei e = rw (ea, eb, ei, e)

module _ (text : List ℕ) (shebang : Option ℕ) (start n : ℕ) (h : HasOpening text shebang start n) (line matter close : ℕ) (enough : 3 ≤ n) (k : HasClosing n (drop (start + n) text) line matter close) where
  some : 0 < n
  some = omega arith

  d : DashesAt text start n h.opening.fence.after
  d = opening_dashes text shebang start n h

  inside : start + n ≤ length text
  inside = dashes_fit text start n h.opening.fence.after d

  after_utf8 : IsUtf8 text → IsUtf8 (drop (start + n) text)
  after_utf8 u = IsUtf8-drop text (start + n) u (cut_past_dashes text start n h.opening.fence.after d some u)

  pub line_bound : IsUtf8 text → start + n + line ≤ length text
  line_bound u = omega (arith, line_fits n (drop (start + n) text) line matter close (after_utf8 u) some k, length-drop (start + n) text, inside)

  pub rest_border : IsUtf8 text → IsCharBoundary text (start + n + close + n)
  rest_border u =
      subst (λ (j : ℕ). IsCharBoundary text j) (omega arith) (up text (start + n) (close + n) inside (rest_cut n (drop (start + n) text) line matter close (after_utf8 u) some k))

  module _ (content : ℕ) (e : HasEnding (drop (start + n + close + n) text) content) where
    pub content_border : IsUtf8 text → IsCharBoundary text (start + n + close + n + content)
    content_border u =
        let r = rest_border u in
        let g = e.ending in
        let ends = line_ends_at (drop (start + n + close + n) text) g.tail g.end g.content (IsUtf8-drop text (start + n + close + n) u r) g.line.whole g.line.ends in
        up text (start + n + close + n) content r.0 (subst (λ (j : ℕ). IsCharBoundary (drop (start + n + close + n) text) j) (sym e.content_is) ends)

    module _ (info : Option (Range ℕ)) (finds : FindsWord (take line (drop (start + n) text)) info) where
      abbrev places : HasClosing h.opening.fence.n h.opening.fence.after line matter close
      places = closing text shebang start n h line matter close enough k

      abbrev last : HasEnding places.closing.rest content
      last = ending text shebang start n h line matter close enough k content e

      finds_info : FindsWord places.closing.line info
      finds_info =
          let c = places.closing in
          let same : take line (drop (start + n) text) ≡ c.line = ap (λ l. take line l) (after_is text shebang start n h) ∙ (ap (λ l. take line l) c.info_line.whole ∙ take_at c.line _ line (sym places.line_is)) in
          subst (λ (l : List ℕ). FindsWord l info) same finds

      pub accepts_fenced : HasNoDashes (drop (start + n + close + n + content) text) → IsScript text (fenced text shebang start n info matter close content)
      accepts_fenced none =
          let c = places.closing in
          let second = subst (λ (l : List ℕ). HasNoDashes l) (below_is text shebang start n h line matter close enough k content e) none in
          let end = end_is text shebang start n h in
          let matter_is : start + n + matter ≡ matter_at h.opening c = omega (arith, end, places.line_is, places.matter_is) in
          let close_is : start + n + close ≡ close_at h.opening c = omega (arith, matter_is, places.close_is) in
          let matter_end : start + n + close ≡ matter_at h.opening c + length c.matter = close_is in
          inr (record {
            opening = h.opening;
            enough = omega (arith, h.size);
            closing = c;
            info = info;
            finds_info = finds_info;
            ending = last.ending;
            blank = last.blank;
            second = second.fence;
            no_second = second.none;
            is = script_same text _ _ _ _ _ _ _ _ _ _ _ _ h.shebang_is (shown text shebang start n h) (ap (λ j. option_map (moved j) info) end) (range_same _ _ _ _ matter_is matter_end) (span_same _ _ _ _ close_is h.size) (range_same _ _ _ _ (content_at_is text shebang start n h line matter close enough k content e) refl);
          })

      pub fenced_borders : IsUtf8 text → AtBorders (fenced text shebang start n info matter close content)
      fenced_borders u =
          record {
            shebang = shebang_span text shebang u (shebang_cut text shebang start n h u);
            opening = (omega arith, cut_at_dashes text start n _ d some, cut_past_dashes text start n _ d some u);
            info = info_span text (take line (drop (start + n) text)) (start + n) info finds (λ at w. cut_in_rest text (start + n) at inside (word_in_line n (drop (start + n) text) line matter close (after_utf8 u) some k at w));
            frontmatter = (omega (arith, k.close_is), up text (start + n) matter inside (matter_cut n (drop (start + n) text) line matter close (after_utf8 u) some k), up text (start + n) close inside (close_cut n (drop (start + n) text) line matter close (after_utf8 u) some k));
            close = (omega arith, up text (start + n) close inside (close_cut n (drop (start + n) text) line matter close (after_utf8 u) some k), rest_border u);
            content = ((content_border u).0, content_border u, IsCharBoundary-end text);
          }
