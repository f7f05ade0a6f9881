-- how each refusal follows from the places that the walk found
use Rattle.std.proofs.Common.{◌≡◌, ℕ, List, [], ◌∷◌, ◌+◌, ◌-◌, ◌<◌, ◌≤◌, take, drop, Option, Result, Ok, Err, IsErrAnd, IfErr, unwrap_or, refl, ap, sym, ◌∙◌, subst, arith}
use Rattle.std.specs.declared.ops.Range.{Range}
use Rattle.std.proofs.lemmas.List.{drop-drop}
use Rattle.rap_frontmatter.specs.Script.{dashes, NoDash, NoLineFeed, HasLine, HasFence, IsLongestFence, HasWord, span, moved, open_end, close_at, close_end, content_at}
use Rattle.rap_frontmatter.specs.ScriptPlaces.{HasDashes, HasOpening, HasClosing, HasEnding}
use Rattle.rap_frontmatter.specs.Refusal.{Refusal, IsRefused, too_short, unclosed, fewer, more, after_close, only_one, end_of, open_span}
use Rattle.rap_frontmatter.specs.Refusal.IsRefused.{opens_too_short, lacks_line, closes_too_short, lacks_close, closes_too_long, follows_close, opens_twice}
use Rattle.rap_frontmatter.specs.ScriptFault.{IsFault}
use Rattle.rap_frontmatter.specs.declared.frontmatter.error.ScriptFault.{ScriptFault}
use Rattle.rap_frontmatter.specs.declared.frontmatter.error.ScriptFault.TheVariants.{NoMemory}
use Rattle.rap_frontmatter.proofs.ScriptLines.{StartsWithDashes}
use Rattle.rap_frontmatter.proofs.ScriptParts.{opening_dashes, closing_dashes, rest_at, content_is, line_text}

-- a refusal with one visible span
abbrev pub one_shown : List ℕ → Range ℕ → Range ℕ → Refusal
one_shown message primary visible = record { message = message; primary = primary; visible = visible ∷ [] }

pub reported_same : (m m' : List ℕ) (p p' v v' : Range ℕ) → m ≡ m' → p ≡ p' → v ≡ v' → one_shown m p v ≡ one_shown m' p' v'
reported_same m m' p p' v v' e f g = rw (e, f, g)

pub twice_same : (p p' v v' w w' : Range ℕ) → p ≡ p' → v ≡ v' → w ≡ w' → (let r : Refusal = record { message = only_one; primary = p; visible = v ∷ w ∷ [] } in r) ≡ record { message = only_one; primary = p'; visible = v' ∷ w' ∷ [] }
twice_same p p' v v' w w' e f g = rw (e, f, g)

pub span_same : (at at' len len' : ℕ) → at ≡ at' → len ≡ len' → span at len ≡ span at' len'
span_same at at' len len' e f = rw (e, f)

-- a wanted memory is reported only where something is refused
pub no_memory : {T : Type 0} (r : Result T ScriptFault) (text : List ℕ) (e : Refusal) → IsErrAnd r (λ f. f ≡ NoMemory) → IsRefused text e → IfErr r (IsFault text)
no_memory (Ok x) text e h q = tt
no_memory (Err f) text e h q = subst (λ (g : ScriptFault). IsFault text g) (sym h) (e, q)

module _ (text : List ℕ) (shebang : Option ℕ) (start n : ℕ) (h : HasOpening text shebang start n) where
  pub shown : span start n ≡ open_span h.opening
  shown = span_same _ _ _ _ h.start_is h.size

  pub end_is : start + n ≡ open_end h.opening
  end_is = omega (arith, h.start_is, h.size)

  pub after_is : drop (start + n) text ≡ h.opening.fence.after
  after_is = sym (rest_at text start n h.opening.fence.after (opening_dashes text shebang start n h))

  pub refused_short : 0 < n → n < 3 → IsRefused text (one_shown (too_short n) (end_of text) (span start n))
  refused_short some few =
      opens_too_short (record {
        opening = h.opening;
        some = omega (arith, h.size);
        few = omega (arith, h.size);
        is = reported_same _ _ _ _ _ _ (ap too_short h.size) refl shown;
      })

  pub refused_line : 3 ≤ n → NoLineFeed (drop (start + n) text) → IsRefused text (one_shown (unclosed (dashes n)) (end_of text) (span start n))
  refused_line enough none =
      lacks_line (record {
        opening = h.opening;
        enough = omega (arith, h.size);
        one_line = subst (λ (l : List ℕ). NoLineFeed l) after_is none;
        is = reported_same _ _ _ _ _ _ (ap (λ m. unclosed (dashes m)) h.size) refl shown;
      })

  pub refused_close : 3 ≤ n → ((p : ℕ) → ¬ HasFence 1 (drop (start + n) text) p) → IsRefused text (one_shown (unclosed (dashes n)) (end_of text) (span start n))
  refused_close enough none =
      lacks_close (record {
        opening = h.opening;
        enough = omega (arith, h.size);
        none = subst (λ (l : List ℕ). (p : ℕ) → ¬ HasFence 1 l p) after_is none;
        is = reported_same _ _ _ _ _ _ (ap (λ m. unclosed (dashes m)) h.size) refl shown;
      })

  pub refused_fewer : (place len : ℕ) → 3 ≤ n → 0 < len → len < n → IsLongestFence len (drop (start + n) text) place → IsRefused text (one_shown (fewer (n - len)) (span (start + n + place) len) (span start n))
  refused_fewer place len enough some less longest =
      closes_too_short (record {
        opening = h.opening;
        enough = omega (arith, h.size);
        most = len;
        place = place;
        some = some;
        less = omega (arith, h.size);
        longest = subst (λ (l : List ℕ). IsLongestFence len l place) after_is longest;
        is = reported_same _ _ _ _ _ _ (ap (λ m. fewer (m - len)) h.size) (ap (λ k. span (k + place) len) end_is) shown;
      })

  module _ (line matter close : ℕ) (enough : 3 ≤ n) (k : HasClosing n (drop (start + n) text) line matter close) where
    -- the same, in the words of the opening
    pub closing : HasClosing h.opening.fence.n h.opening.fence.after line matter close
    closing = subst (λ (m : ℕ). HasClosing m h.opening.fence.after line matter close) h.size (subst (λ (l : List ℕ). HasClosing n l line matter close) after_is k)

    pub close_end_is : start + n + close + n ≡ close_end h.opening closing.closing
    close_end_is = omega (arith, h.start_is, h.size, closing.line_is, closing.matter_is, closing.close_is)

    pub rest_is : drop (start + n + close + n) text ≡ closing.closing.rest
    rest_is =
        let o = h.opening in
        let rest = rest_at o.fence.after close o.fence.n closing.closing.rest (closing_dashes o.fence.n o.fence.after line matter close closing) in
        let both : drop (close + n) (drop (start + n) text) ≡ drop (start + n + close + n) text = drop-drop (close + n) (start + n) text ∙ ap (λ j. drop j text) (omega arith) in
        sym both ∙ (ap (λ l. drop (close + n) l) after_is ∙ (ap (λ m. drop (close + m) o.fence.after) h.size ∙ sym rest))

    pub refused_more : (extra : ℕ) → 0 < extra → StartsWithDashes (drop (start + n + close + n) text) extra → IsRefused text (one_shown (more extra) (span (start + n + close + n) extra) (span start n))
    refused_more extra some d =
        closes_too_long (record {
          opening = h.opening;
          enough = omega (arith, h.size);
          closing = closing.closing;
          extra = extra;
          rest = drop extra (drop (start + n + close + n) text);
          some = some;
          split = sym rest_is ∙ d.split;
          no_more = d.no_more;
          is = reported_same _ _ _ _ _ _ refl (ap (λ j. span j extra) close_end_is) shown;
        })

    pub refused_word : (len next : ℕ) (word : Range ℕ) → NoDash (drop (start + n + close + n) text) → HasLine (drop (start + n + close + n) text) len next → HasWord (take len (drop (start + n + close + n) text)) word → IsRefused text (one_shown after_close (moved (start + n + close + n) word) (span start n))
    refused_word len next word none l w =
        let here = subst (λ (r : List ℕ). HasLine r len next) rest_is l in
        let tail : take len (drop (start + n + close + n) text) ≡ here.line = ap (λ r. take len r) rest_is ∙ line_text closing.closing.rest len next here in
        follows_close (record {
          opening = h.opening;
          enough = omega (arith, h.size);
          closing = closing.closing;
          no_more = subst (λ (r : List ℕ). NoDash r) rest_is none;
          ending = record { tail = here.line; end = here.end; content = here.rest; line = here.first };
          word = word;
          has_word = subst (λ (t : List ℕ). HasWord t word) tail w;
          is = reported_same _ _ _ _ _ _ refl (ap (λ j. moved j word) close_end_is) shown;
        })

    module _ (content : ℕ) (e : HasEnding (drop (start + n + close + n) text) content) where
      pub ending : HasEnding closing.closing.rest content
      ending = subst (λ (r : List ℕ). HasEnding r content) rest_is e

      pub content_at_is : start + n + close + n + content ≡ content_at h.opening closing.closing ending.ending
      content_at_is = omega (arith, close_end_is, ending.content_is)

      pub below_is : drop (start + n + close + n + content) text ≡ ending.ending.content
      below_is = sym (drop-drop content (start + n + close + n) text) ∙ (ap (λ r. drop content r) rest_is ∙ sym (content_is closing.closing.rest content ending))

      pub refused_twice : (at len : ℕ) → HasDashes (drop (start + n + close + n + content) text) at len → 0 < len → IsRefused text (record { message = only_one; primary = span (start + n + close + n + content + at) len; visible = span start n ∷ span (start + n + close) n ∷ [] })
      refused_twice at len d some =
          let second = subst (λ (r : List ℕ). HasDashes r at len) below_is d in
          let close_is : start + n + close ≡ close_at h.opening closing.closing = omega (arith, end_is, closing.line_is, closing.matter_is, closing.close_is) in
          let place : start + n + close + n + content + at ≡ content_at h.opening closing.closing ending.ending + unwrap_or second.fence.blank 0 = omega (arith, content_at_is, second.start_is) in
          opens_twice (record {
            opening = h.opening;
            enough = omega (arith, h.size);
            closing = closing.closing;
            ending = ending.ending;
            blank = ending.blank;
            second = second.fence;
            some = omega (arith, second.size);
            is = twice_same _ _ _ _ _ _ (span_same _ _ _ _ place second.size) shown (span_same _ _ _ _ close_is h.size);
          })
