-- the info's line, the frontmatter and the close
use Rattle.std.proofs.Common.{◌≡◌, ◌≢◌, ℕ, List, [], ◌∷◌, ◌++◌, ◌+◌, ◌-◌, ◌<◌, ◌≤◌, inl, inr, length, take, drop, get_or, ap, sym, ◌∙◌, subst, arith}
use Rattle.std.proofs.lemmas.List.{append_assoc, append-nil, length-append, get_or_at, get_or_append_left, drop_at, drop-drop, length-drop, take-append-drop, length-take-le}
use Rattle.rap_frontmatter.specs.Script.{IsLineEnd, FirstLine, HasLine, NoLineFeed, IsFirstFence, dashes}
use Rattle.rap_frontmatter.specs.Script.IsLineEnd.{with_return, feed, text_end}
use Rattle.rap_frontmatter.specs.ScriptPlaces.{HasClosing}
use Rattle.rap_frontmatter.proofs.ScriptLines.{lt_or_le}
use Rattle.rap_frontmatter.proofs.ScriptFences.{fence_feed, fence_inside, fence_rest}

-- where nothing ends the first line, it is the whole text
whole_line : (text line end rest : List ℕ) → text ≡ line ++ (end ++ rest) → IsLineEnd line end rest → length end ≡ 0 → text ≡ line
whole_line text line _ _ e (with_return _ rest) z = absurd (omega (arith, z))
whole_line text line _ _ e (feed _ rest bare) z = absurd (omega (arith, z))
whole_line text line _ _ e (text_end _) z = e ∙ append-nil line

pub no_line : (text : List ℕ) (len next : ℕ) → HasLine text len next → len ≡ next → NoLineFeed text
no_line text len next h e =
    let same : text ≡ h.line = whole_line text h.line h.end h.rest h.first.whole h.first.ends (omega (arith, h.size, h.after)) in
    subst (λ (l : List ℕ). NoLineFeed l) (sym same) h.first.one

in_line : (line rest : List ℕ) (i : ℕ) → NoLineFeed line → i < length line → get_or (line ++ rest) i 0 ≢ 10
in_line line rest i none l e = none i 0 l (sym (get_or_append_left line rest 0 i l) ∙ e)

-- no line feed stands before the one that ends the first line
before_end : (text line end rest : List ℕ) (i : ℕ) → text ≡ line ++ (end ++ rest) → NoLineFeed line → IsLineEnd line end rest → i + 1 < length line + length end → get_or text i 0 ≢ 10
before_end text line _ _ i e none (with_return _ rest) l is =
    let read : get_or (line ++ 13 ∷ 10 ∷ rest) i 0 ≡ 10 = ap (λ l. get_or l i 0) (sym e) ∙ is in
    elim (lt_or_le i (length line)) [
      | inl h ↦ in_line line (13 ∷ 10 ∷ rest) i none h read
      | inr h ↦ omega (arith, read, get_or_at line 13 (10 ∷ rest) 0 i (omega arith))
    ]
before_end text line _ _ i e none (feed _ rest bare) l is =
    in_line line (10 ∷ rest) i none (omega arith) (ap (λ l. get_or l i 0) (sym e) ∙ is)
before_end text line _ _ i e none (text_end _) l is =
    in_line line [] i none (omega arith) (ap (λ l. get_or l i 0) (sym e) ∙ is)

module _ (n : ℕ) (text : List ℕ) (len next place : ℕ) (h : HasLine text len next) (f : IsFirstFence n text place) where
  past_line : next ≤ place
  past_line =
      let low = fence_inside n text place f.fence in
      elim (lt_or_le place next) as (λ _. next ≤ place) [
        | inr l ↦ l
        | inl l ↦ absurd (before_end text h.line h.end h.rest (place - 1) h.first.whole h.first.one h.first.ends (omega (arith, low.0, h.size, h.after)) (fence_feed n text place f.fence))
      ]

  matter : List ℕ
  matter = take (place - next) (drop next text)

  rest_is : h.rest ≡ matter ++ (dashes n ++ f.fence.rest)
  unfolding matter
  rest_is =
      let whole : text ≡ (h.line ++ h.end) ++ h.rest = h.first.whole ∙ sym (append_assoc h.line h.end h.rest) in
      let rest : drop next text ≡ h.rest = ap (λ l. drop next l) whole ∙ drop_at (h.line ++ h.end) h.rest next (length-append h.line h.end ∙ sym h.after) in
      let tail : drop (place - next) (drop next text) ≡ dashes n ++ f.fence.rest = drop-drop (place - next) next text ∙ (ap (λ k. drop k text) (omega (arith, past_line)) ∙ fence_rest n text place f.fence) in
      sym rest ∙ (sym (take-append-drop (place - next) (drop next text)) ∙ ap (λ l. take (place - next) (drop next text) ++ l) tail)

  matter_size : next + length matter ≡ place
  unfolding matter
  matter_size =
      let fits : place ≤ length text = omega (arith, fence_inside n text place f.fence) in
      let room : place - next ≤ length (drop next text) = omega (arith, length-drop next text) in
      omega (arith, length-take-le (place - next) (drop next text) room, past_line)

  pub found_close : HasClosing n text len next place
  found_close =
      let size : length h.line + length h.end + length matter ≡ place = omega (arith, matter_size, h.size, h.after) in
      record {
        closing = record {
          line = h.line;
          end = h.end;
          matter = matter;
          rest = f.fence.rest;
          info_line = subst (λ (l : List ℕ). FirstLine text h.line h.end l) rest_is h.first;
          fence = subst (λ (p : ℕ). IsFirstFence n text p) (sym size) f;
        };
        line_is = h.size;
        matter_is = omega (arith, h.size, h.after);
        close_is = sym matter_size;
      }
