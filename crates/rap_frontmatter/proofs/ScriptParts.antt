-- dashes that stand in a text, and what comes before and after them
use Rattle.std.proofs.Common.{◌≡◌, ℕ, List, ◌++◌, ◌+◌, ◌-◌, ◌<◌, ◌≤◌, length, take, drop, get_or, Option, IsUtf8, IsCharBoundary, slice_range, ap, sym, ◌∙◌, subst, arith}
use Rattle.std.specs.List.{AllPass}
use Rattle.std.proofs.lemmas.List.{append_assoc, length-append, length-replicate, get_or-append-add, get_or_append_left, get_or-replicate, drop_at, take_at}
use Rattle.std.proofs.lemmas.Str.{IsCharBoundary-before_ascii, IsCharBoundary-after_ascii}
use Rattle.rap_frontmatter.specs.Script.{dashes, HasLine, is_horizontal}
use Rattle.rap_frontmatter.specs.ScriptPlaces.{HasOpening, HasClosing, HasEnding}

-- `n` dashes stand at `start`, and the rest follows
pub record DashesAt (text : List ℕ) (start n : ℕ) (rest : List ℕ) : Type 0 where
  pub prefix : List ℕ
  pub whole : text ≡ prefix ++ (dashes n ++ rest)
  pub size : start ≡ length prefix

module _ (text : List ℕ) (start n : ℕ) (rest : List ℕ) (d : DashesAt text start n rest) where
  pub rest_at : rest ≡ drop (start + n) text
  rest_at =
      let whole : text ≡ (d.prefix ++ dashes n) ++ rest = d.whole ∙ sym (append_assoc d.prefix (dashes n) rest) in
      let size : length (d.prefix ++ dashes n) ≡ start + n = omega (arith, length-append d.prefix (dashes n), length-replicate {A = ℕ} n 45, d.size) in
      sym (ap (λ l. drop (start + n) l) whole ∙ drop_at (d.prefix ++ dashes n) rest (start + n) size)

  pub dashes_fit : start + n ≤ length text
  dashes_fit =
      let a = ap length d.whole ∙ length-append d.prefix (dashes n ++ rest) in
      let b = length-append (dashes n) rest in
      omega (arith, a, b, length-replicate {A = ℕ} n 45, d.size)

  pub dash_read : (i : ℕ) → i < n → get_or text (start + i) 0 ≡ 45
  dash_read i l =
      let past : get_or (d.prefix ++ (dashes n ++ rest)) (length d.prefix + i) 0 ≡ get_or (dashes n ++ rest) i 0 = get_or-append-add d.prefix (dashes n ++ rest) i 0 in
      let dash : get_or (dashes n ++ rest) i 0 ≡ 45 = get_or_append_left (dashes n) rest 0 i (omega (arith, length-replicate {A = ℕ} n 45)) ∙ get_or-replicate n i 45 0 l in
      ap (λ l. get_or l (start + i) 0) d.whole ∙ (ap (λ k. get_or (d.prefix ++ (dashes n ++ rest)) (k + i) 0) d.size ∙ (past ∙ dash))

  pub cut_at_dashes : 0 < n → IsCharBoundary text start
  cut_at_dashes some =
      let read : get_or text start 0 ≡ 45 = ap (λ k. get_or text k 0) (omega arith) ∙ dash_read 0 some in
      IsCharBoundary-before_ascii text start (omega (arith, dashes_fit)) (omega (arith, read))

  pub cut_past_dashes : 0 < n → IsUtf8 text → IsCharBoundary text (start + n)
  cut_past_dashes some u =
      let read = dash_read (n - 1) (omega arith) in
      subst (λ (k : ℕ). IsCharBoundary text k) (omega arith) (IsCharBoundary-after_ascii text (start + (n - 1)) u (omega (arith, dashes_fit)) (omega (arith, read)))

  pub dashes_slice : slice_range text start (start + n) ≡ dashes n
  dashes_slice =
      let below : drop start text ≡ dashes n ++ rest = ap (λ l. drop start l) d.whole ∙ drop_at d.prefix (dashes n ++ rest) start (sym d.size) in
      let size : start + n - start ≡ n = omega arith in
      ap (λ k. take k (drop start text)) size ∙ (ap (λ l. take n l) below ∙ take_at (dashes n) rest n (length-replicate {A = ℕ} n 45))

-- ---- the opening

pub opening_dashes : (text : List ℕ) (shebang : Option ℕ) (start n : ℕ) (h : HasOpening text shebang start n) → DashesAt text start n h.opening.fence.after
opening_dashes text shebang start n h =
    let o = h.opening in
    let a = o.splits.prefix in
    let b = o.fence.splits.prefix in
    let whole : text ≡ (a ++ b) ++ (dashes o.fence.n ++ o.fence.after) = o.splits.whole ∙ (ap (λ l. a ++ l) o.fence.splits.whole ∙ sym (append_assoc a b (dashes o.fence.n ++ o.fence.after))) in
    record {
      prefix = a ++ b;
      whole = whole ∙ ap (λ m. (a ++ b) ++ (dashes m ++ o.fence.after)) (sym h.size);
      size = omega (arith, length-append a b, h.start_is, o.splits.size, o.fence.splits.size);
    }

-- ---- the close

pub closing_dashes : (n : ℕ) (text : List ℕ) (line matter close : ℕ) (h : HasClosing n text line matter close) → DashesAt text close n h.closing.rest
closing_dashes n text line matter close h =
    let c = h.closing in
    let tail = dashes n ++ c.rest in
    let whole : text ≡ (c.line ++ (c.end ++ c.matter)) ++ tail = c.info_line.whole ∙ (ap (λ l. c.line ++ l) (sym (append_assoc c.end c.matter tail)) ∙ sym (append_assoc c.line (c.end ++ c.matter) tail)) in
    record {
      prefix = c.line ++ (c.end ++ c.matter);
      whole = whole;
      size = omega (arith, length-append c.line (c.end ++ c.matter), length-append c.end c.matter, h.line_is, h.matter_is, h.close_is);
    }

-- ---- lines

pub line_text : (text : List ℕ) (len next : ℕ) (h : HasLine text len next) → take len text ≡ h.line
line_text text len next h = ap (λ l. take len l) h.first.whole ∙ take_at h.line (h.end ++ h.rest) len (sym h.size)

pub content_is : (text : List ℕ) (content : ℕ) (h : HasEnding text content) → h.ending.content ≡ drop content text
content_is text content h =
    let e = h.ending in
    let whole : text ≡ (e.tail ++ e.end) ++ e.content = e.line.whole ∙ sym (append_assoc e.tail e.end e.content) in
    sym (ap (λ l. drop content l) whole ∙ drop_at (e.tail ++ e.end) e.content content (length-append e.tail e.end ∙ sym h.content_is))

-- a last line of spaces and tabs ends the closing
pub blank_ending : (text : List ℕ) (len next : ℕ) → HasLine text len next → AllPass is_horizontal (take len text) → HasEnding text next
blank_ending text len next h blank =
    record {
      ending = record { tail = h.line; end = h.end; content = h.rest; line = h.first };
      blank = subst (λ (l : List ℕ). AllPass is_horizontal l) (line_text text len next h) blank;
      content_is = h.after;
    }
