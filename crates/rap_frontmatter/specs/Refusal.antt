-- The refusal of a text that is not a script source.
use Rattle.std.specs.Prelude.{◌≡◌, ◌==◌, Bool, ℕ, ◌+◌, ◌-◌, ◌<◌, ◌≤◌, List, [], ◌∷◌, ◌++◌, length, All, unwrap_or, codes}
use Rattle.std.specs.List.{AllPass}
use Rattle.std.specs.Fmt.{decimal}
use Rattle.std.proofs.lemmas.Cmp.{and_equiv, lists_equiv, nat_eq_equiv, on_equiv}
use Rattle.std.specs.Cmp.{IsEquivalence}
use Rattle.std.specs.Cmp.Lexicographic.{pointwise}
use Rattle.std.specs.Ordering.{eq_of_both, on}
use Rattle.std.specs.declared.ops.Range.{Range}
use Rattle.rap_frontmatter.specs.Script.{dashes, NoDash, NoLineFeed, Fence, Opening, Closing, Ending, HasFence, IsLongestFence, HasWord, IsCut, is_horizontal, span, moved, open_at, open_end, close_at, close_end, content_at}

-- a message, the span of the error, and the further spans shown with it, all in bytes
pub record Refusal : Type 0 where
  pub message : List ℕ
  pub primary : Range ℕ
  pub visible : List (Range ℕ)

-- ---- Messages

abbrev pub too_short : ℕ → List ℕ
too_short n = codes "found " ++ (decimal n ++ codes " `-` in rust frontmatter, expected at least 3")

abbrev pub unclosed : List ℕ → List ℕ
unclosed fence = codes "unclosed frontmatter; expected `" ++ (fence ++ codes "`")

abbrev pub fewer : ℕ → List ℕ
fewer n = codes "closing code fence has " ++ (decimal n ++ codes " less `-` than the opening fence")

abbrev pub more : ℕ → List ℕ
more n = codes "closing code fence has " ++ (decimal n ++ codes " more `-` than the opening fence")

abbrev pub after_close : List ℕ
after_close = codes "unexpected characters after frontmatter close"

abbrev pub only_one : List ℕ
only_one = codes "only one frontmatter is supported"

abbrev pub is_same_span : Range ℕ → Range ℕ → Bool
is_same_span = eq_of_both (on (λ r. r.start) ◌==◌) (on (λ r. r.end) ◌==◌)

-- the messages are equal, and the spans
abbrev pub is_same : Refusal → Refusal → Bool
is_same =
    eq_of_both (on (λ e. e.message) (pointwise ◌==◌))
    (eq_of_both (on (λ e. e.primary) is_same_span) (on (λ e. e.visible) (pointwise is_same_span)))

pub same_laws : IsEquivalence is_same
same_laws =
    let span : IsEquivalence is_same_span =
    and_equiv (on_equiv (λ (r : Range ℕ). r.start) nat_eq_equiv) (on_equiv (λ (r : Range ℕ). r.end) nat_eq_equiv) in
    and_equiv (on_equiv (λ (e : Refusal). e.message) (lists_equiv nat_eq_equiv))
    (and_equiv (on_equiv (λ (e : Refusal). e.primary) span)
    (on_equiv (λ (e : Refusal). e.visible) (lists_equiv span)))

-- its spans go forward, and the text may be cut at both their ends
pub record LiesAtBorders (text : List ℕ) (e : Refusal) : Type 0 where
  pub primary : IsCut text e.primary
  pub visible : All (IsCut text) e.visible

-- what stands at the text's end
abbrev pub end_of : List ℕ → Range ℕ
end_of text = record { start = length text; end = length text }

module _ {text : List ℕ} (o : Opening text) where
  abbrev pub open_span : Range ℕ
  open_span = span (open_at o) o.fence.n

  -- all but one show the opening dashes beside them
  abbrev pub reported : List ℕ → Range ℕ → Refusal
  reported message primary = record { message = message; primary = primary; visible = open_span ∷ [] }

-- ---- The seven refusals

-- one or two dashes open
pub record OpensTooShort (text : List ℕ) (e : Refusal) : Type 0 where
  pub opening : Opening text
  pub some : 0 < opening.fence.n
  pub few : opening.fence.n < 3
  pub is : e ≡ reported opening (too_short opening.fence.n) (end_of text)

-- no line feed follows the opening
pub record LacksLine (text : List ℕ) (e : Refusal) : Type 0 where
  pub opening : Opening text
  pub enough : 3 ≤ opening.fence.n
  pub one_line : NoLineFeed opening.fence.after
  pub is : e ≡ reported opening (unclosed (dashes opening.fence.n)) (end_of text)

-- No line that follows begins with as many dashes. `most` is the most with which one does, first at `place`.
pub record ClosesTooShort (text : List ℕ) (e : Refusal) : Type 0 where
  pub opening : Opening text
  pub enough : 3 ≤ opening.fence.n
  pub most : ℕ
  pub place : ℕ
  pub some : 0 < most
  pub less : most < opening.fence.n
  pub longest : IsLongestFence most opening.fence.after place
  pub is : e ≡ reported opening (fewer (opening.fence.n - most)) (span (open_end opening + place) most)

-- no line that follows begins with a dash
pub record LacksClose (text : List ℕ) (e : Refusal) : Type 0 where
  pub opening : Opening text
  pub enough : 3 ≤ opening.fence.n
  pub none : (place : ℕ) → ¬ HasFence 1 opening.fence.after place
  pub is : e ≡ reported opening (unclosed (dashes opening.fence.n)) (end_of text)

-- more dashes stand at the close than open
pub record ClosesTooLong (text : List ℕ) (e : Refusal) : Type 0 where
  pub opening : Opening text
  pub enough : 3 ≤ opening.fence.n
  pub closing : Closing opening.fence.n opening.fence.after
  pub extra : ℕ
  pub rest : List ℕ
  pub some : 0 < extra
  pub split : closing.rest ≡ dashes extra ++ rest
  pub no_more : NoDash rest
  pub is : e ≡ reported opening (more extra) (span (close_end opening closing) extra)

-- a word follows the close on its line
pub record FollowsClose (text : List ℕ) (e : Refusal) : Type 0 where
  pub opening : Opening text
  pub enough : 3 ≤ opening.fence.n
  pub closing : Closing opening.fence.n opening.fence.after
  pub no_more : NoDash closing.rest
  pub ending : Ending closing.rest
  pub word : Range ℕ
  pub has_word : HasWord ending.tail word
  pub is : e ≡ reported opening after_close (moved (close_end opening closing) word)

-- after the close and blank lines or none, dashes stand again
pub record OpensTwice (text : List ℕ) (e : Refusal) : Type 0 where
  pub opening : Opening text
  pub enough : 3 ≤ opening.fence.n
  pub closing : Closing opening.fence.n opening.fence.after
  pub ending : Ending closing.rest
  pub blank : AllPass is_horizontal ending.tail
  pub second : Fence ending.content
  pub some : 0 < second.n
  pub is : e ≡ record {
    message = only_one;
    primary = span (content_at opening closing ending + unwrap_or second.blank 0) second.n;
    visible = open_span opening ∷ span (close_at opening closing) opening.fence.n ∷ [];
  }

-- the text is refused, and this says why
pub data IsRefused (text : List ℕ) (e : Refusal) : Type 0 where
  opens_too_short : OpensTooShort text e → IsRefused text e
  lacks_line : LacksLine text e → IsRefused text e
  closes_too_short : ClosesTooShort text e → IsRefused text e
  lacks_close : LacksClose text e → IsRefused text e
  closes_too_long : ClosesTooLong text e → IsRefused text e
  follows_close : FollowsClose text e → IsRefused text e
  opens_twice : OpensTwice text e → IsRefused text e
