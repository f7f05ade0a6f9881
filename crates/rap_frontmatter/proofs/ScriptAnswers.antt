-- a text is accepted or refused, and in one way
use Rattle.std.proofs.Common.{◌≡◌, ℕ, ◌+◌, ◌-◌, ◌<◌, ◌≤◌, ◌⊎◌, inl, inr, List, [], ◌∷◌, ◌++◌, length, Option, None, Some, Result, Ok, Err, IfOk, IfErr, unwrap_or, refl, ap, sym, ◌∙◌, subst, arith}
use Rattle.std.specs.List.{AllPass}
use Rattle.std.specs.Option.{option_map}
use Rattle.std.specs.declared.ops.Range.{Range}
use Rattle.rap_frontmatter.specs.Script.{Script, IsScript, IsPlain, IsFenced, dashes, NoDash, NoLineFeed, FirstLine, Fence, Opening, HasFence, IsFirstFence, IsLongestFence, HasWord, FindsWord, is_horizontal, span, up_to, moved}
use Rattle.rap_frontmatter.specs.Refusal.{Refusal, IsRefused, too_short, unclosed, fewer, more, after_close, only_one, end_of}
use Rattle.rap_frontmatter.specs.Refusal.IsRefused.{opens_too_short, lacks_line, closes_too_short, lacks_close, closes_too_long, follows_close, opens_twice}
use Rattle.rap_frontmatter.specs.OneAnswer.{IsOnlyScript, IsOnlyFault}
use Rattle.rap_frontmatter.specs.ScriptFault.{IsFault}
use Rattle.rap_frontmatter.specs.declared.frontmatter.error.ScriptFault.{ScriptFault}
use Rattle.rap_frontmatter.specs.declared.frontmatter.error.ScriptFault.TheVariants.{Refused, NoMemory}
use Rattle.rap_frontmatter.proofs.ScriptOnce.{feed_inside, line_once, shebang_once, below_once, fence_once, first_fence_once, longest_once, fewer_dashes, same_length, no_dashes, extra_once, word_once, word_or_blank, finds_once, blank_no_dash}

-- the spans of an accepted text, or why it is refused
abbrev Answer : Type 0
Answer = Script ⊎ Refusal

-- at most one answer
abbrev One : (Answer → Type 0) → Type 0
One P = (a b : Answer) → P a → P b → a ≡ b

-- the answers, where the shebang ends at `sh`, and `n` dashes stand at `at`
module _ (text : List ℕ) (sh : Option ℕ) (at n : ℕ) where
  abbrev reported : List ℕ → Range ℕ → Answer
  reported message primary = inr (record { message = message; primary = primary; visible = span at n ∷ [] })

  abbrev plain : Answer
  plain = inl (record {
    text = text;
    shebang = option_map up_to sh;
    opening = None;
    info = None;
    frontmatter = None;
    close = None;
    content = record { start = unwrap_or sh 0; end = length text };
  })

  abbrev fenced : Option (Range ℕ) → ℕ → ℕ → ℕ → Answer
  fenced info matter size content = inl (record {
    text = text;
    shebang = option_map up_to sh;
    opening = Some (span at n);
    info = option_map (moved (at + n)) info;
    frontmatter = Some (span matter size);
    close = Some (span (matter + size) n);
    content = record { start = content; end = length text };
  })

  abbrev twice : ℕ → ℕ → ℕ → Answer
  twice close dash m = inr (record { message = only_one; primary = span dash m; visible = span at n ∷ span close n ∷ [] })

  -- by the dashes of the content
  abbrev AtContent : List ℕ → ℕ → ℕ → List ℕ → ℕ → Answer → Type 0
  AtContent line matter size content place a =
      (second : Fence content)
      × (((second.n ≡ 0) × (info : Option (Range ℕ)) × FindsWord line info × (a ≡ fenced info matter size place))
      ⊎ ((0 < second.n) × (a ≡ twice (matter + size) (place + unwrap_or second.blank 0) second.n)))

  at_content : (line : List ℕ) (matter size : ℕ) (content : List ℕ) (place : ℕ) → One (AtContent line matter size content place)
  at_content line matter size content place a b (f, inl h) (g, inl k) = h.3 ∙ (ap (λ i. fenced i matter size place) (finds_once line h.1 k.1 h.2 k.2) ∙ sym k.3)
  at_content line matter size content place a b (f, inl h) (g, inr k) = let s = fence_once content content f g refl in absurd (omega (arith, s.n, h.0, k.0))
  at_content line matter size content place a b (f, inr h) (g, inl k) = let s = fence_once content content f g refl in absurd (omega (arith, s.n, h.0, k.0))
  at_content line matter size content place a b (f, inr h) (g, inr k) =
      let s = fence_once content content f g refl in
      h.1 ∙ (ap (λ o. twice (matter + size) (place + unwrap_or o 0) f.n) s.blank ∙ (ap (λ m. twice (matter + size) (place + unwrap_or g.blank 0) m) s.n ∙ sym k.1))

  -- by what follows the closing dashes
  abbrev AtClose : List ℕ → ℕ → ℕ → List ℕ → Answer → Type 0
  AtClose line matter size rest a =
      ((extra : ℕ) × (after : List ℕ) × (0 < extra) × (rest ≡ dashes extra ++ after) × NoDash after × (a ≡ reported (more extra) (span (matter + size + n) extra)))
      ⊎ (((tail : List ℕ) × (end : List ℕ) × (content : List ℕ) × NoDash rest × FirstLine rest tail end content × (word : Range ℕ) × HasWord tail word × (a ≡ reported after_close (moved (matter + size + n) word)))
      ⊎ ((tail : List ℕ) × (end : List ℕ) × (content : List ℕ) × FirstLine rest tail end content × AllPass is_horizontal tail × AtContent line matter size content (matter + size + n + length tail + length end) a))

  no_dash_after : (rest tail end content after : List ℕ) (extra : ℕ) → 0 < extra → rest ≡ dashes extra ++ after → FirstLine rest tail end content → AllPass is_horizontal tail → ⊥
  no_dash_after rest tail end content after extra some e l blank = no_dashes extra rest after some (λ more f. blank_no_dash rest tail end content more l blank f) e

  at_close : (line : List ℕ) (matter size : ℕ) (rest : List ℕ) → One (AtClose line matter size rest)
  at_close line matter size rest a b (inl h) (inl k) = h.5 ∙ (ap (λ m. reported (more m) (span (matter + size + n) m)) (extra_once h.0 k.0 rest h.1 k.1 h.4 k.4 h.3 k.3) ∙ sym k.5)
  at_close line matter size rest a b (inl h) (inr (inl k)) = absurd (no_dashes h.0 rest h.1 h.2 k.3 h.3)
  at_close line matter size rest a b (inl h) (inr (inr k)) = absurd (no_dash_after rest k.0 k.1 k.2 h.1 h.0 h.2 h.3 k.3 k.4)
  at_close line matter size rest a b (inr (inl h)) (inl k) = absurd (no_dashes k.0 rest k.1 k.2 h.3 k.3)
  at_close line matter size rest a b (inr (inl h)) (inr (inl k)) =
      let s = line_once rest h.0 k.0 h.1 k.1 h.2 k.2 h.4 k.4 in
      let w : HasWord h.0 k.5 = subst (λ (l : List ℕ). HasWord l k.5) (sym s.line_is) k.6 in
      h.7 ∙ (ap (λ r. reported after_close (moved (matter + size + n) r)) (word_once h.0 h.5 k.5 h.6 w) ∙ sym k.7)
  at_close line matter size rest a b (inr (inl h)) (inr (inr k)) =
      let s = line_once rest h.0 k.0 h.1 k.1 h.2 k.2 h.4 k.3 in
      absurd (word_or_blank h.0 h.5 h.6 (subst (λ (l : List ℕ). AllPass is_horizontal l) (sym s.line_is) k.4))
  at_close line matter size rest a b (inr (inr h)) (inl k) = absurd (no_dash_after rest h.0 h.1 h.2 k.1 k.0 k.2 k.3 h.3 h.4)
  at_close line matter size rest a b (inr (inr h)) (inr (inl k)) =
      let s = line_once rest h.0 k.0 h.1 k.1 h.2 k.2 h.3 k.4 in
      absurd (word_or_blank k.0 k.5 k.6 (subst (λ (l : List ℕ). AllPass is_horizontal l) s.line_is h.4))
  at_close line matter size rest a b (inr (inr h)) (inr (inr k)) =
      let s = line_once rest h.0 k.0 h.1 k.1 h.2 k.2 h.3 k.3 in
      let p : matter + size + n + length k.0 + length k.1 ≡ matter + size + n + length h.0 + length h.1 = omega (arith, ap length s.line_is, ap length s.end_is) in
      at_content line matter size h.2 (matter + size + n + length h.0 + length h.1) a b h.5
      (subst (λ (q : ℕ). AtContent line matter size h.2 q b) p (subst (λ (l : List ℕ). AtContent line matter size l (matter + size + n + length k.0 + length k.1) b) (sym s.rest_is) k.5))

  -- by what closes the fence
  abbrev AtFence : List ℕ → Answer → Type 0
  AtFence after a =
      (((p : ℕ) → ¬ HasFence 1 after p) × (a ≡ reported (unclosed (dashes n)) (end_of text)))
      ⊎ (((most : ℕ) × (place : ℕ) × (0 < most) × (most < n) × IsLongestFence most after place × (a ≡ reported (fewer (n - most)) (span (at + n + place) most)))
      ⊎ ((line : List ℕ) × (end : List ℕ) × (matter : List ℕ) × (rest : List ℕ) × FirstLine after line end (matter ++ (dashes n ++ rest)) × IsFirstFence n after (length line + length end + length matter) × AtClose line (at + n + length line + length end) (length matter) rest a))

  at_fence : 3 ≤ n → (after : List ℕ) → One (AtFence after)
  at_fence enough after a b (inl h) (inl k) = h.1 ∙ sym k.1
  at_fence enough after a b (inl h) (inr (inl k)) = absurd (h.0 k.1 (fewer_dashes k.0 1 after k.1 (omega (arith, k.2)) k.4.fence.fence))
  at_fence enough after a b (inl h) (inr (inr k)) = absurd (h.0 _ (fewer_dashes n 1 after _ (omega arith) k.5.fence))
  at_fence enough after a b (inr (inl h)) (inl k) = absurd (k.0 h.1 (fewer_dashes h.0 1 after h.1 (omega (arith, h.2)) h.4.fence.fence))
  at_fence enough after a b (inr (inl h)) (inr (inl k)) =
      let s = longest_once h.0 k.0 after h.1 k.1 h.4 k.4 in
      h.5 ∙ (ap (λ m. reported (fewer (n - m)) (span (at + n + h.1) m)) s.0 ∙ (ap (λ p. reported (fewer (n - k.0)) (span (at + n + p) k.0)) s.1 ∙ sym k.5))
  at_fence enough after a b (inr (inl h)) (inr (inr k)) = absurd (omega (arith, h.3, h.4.longest n _ k.5.fence))
  at_fence enough after a b (inr (inr h)) (inl k) = absurd (k.0 _ (fewer_dashes n 1 after _ (omega arith) h.5.fence))
  at_fence enough after a b (inr (inr h)) (inr (inl k)) = absurd (omega (arith, k.3, k.4.longest n _ h.5.fence))
  at_fence enough after a b (inr (inr h)) (inr (inr k)) =
      let s = line_once after h.0 k.0 h.1 k.1 _ _ h.4 k.4 in
      let place = first_fence_once n after _ _ h.5 k.5 in
      let size : length h.2 ≡ length k.2 = omega (arith, place, ap length s.line_is, ap length s.end_is) in
      let m = same_length h.2 k.2 _ _ size s.rest_is in
      let r = same_length (dashes n) (dashes n) h.3 k.3 refl m.1 in
      let p : at + n + length k.0 + length k.1 ≡ at + n + length h.0 + length h.1 = omega (arith, ap length s.line_is, ap length s.end_is) in
      let c : AtClose h.0 (at + n + length h.0 + length h.1) (length h.2) h.3 b = rw (s.line_is, s.end_is, m.0, r.1) k.6 in
      at_close h.0 (at + n + length h.0 + length h.1) (length h.2) h.3 a b h.6 c

  -- by how many dashes open
  abbrev AtOpening : List ℕ → Answer → Type 0
  AtOpening after a =
      ((n ≡ 0) × (a ≡ plain))
      ⊎ (((0 < n) × (n < 3) × (a ≡ reported (too_short n) (end_of text)))
      ⊎ ((3 ≤ n) × AtFence after a))

  at_opening : (after : List ℕ) → One (AtOpening after)
  at_opening after a b (inl h) (inl k) = h.1 ∙ sym k.1
  at_opening after a b (inl h) (inr (inl k)) = absurd (omega (arith, h.0, k.0))
  at_opening after a b (inl h) (inr (inr k)) = absurd (omega (arith, h.0, k.0))
  at_opening after a b (inr (inl h)) (inl k) = absurd (omega (arith, h.0, k.0))
  at_opening after a b (inr (inl h)) (inr (inl k)) = h.2 ∙ sym k.2
  at_opening after a b (inr (inl h)) (inr (inr k)) = absurd (omega (arith, h.1, k.0))
  at_opening after a b (inr (inr h)) (inl k) = absurd (omega (arith, h.0, k.0))
  at_opening after a b (inr (inr h)) (inr (inl k)) = absurd (omega (arith, h.0, k.1))
  at_opening after a b (inr (inr h)) (inr (inr k)) = at_fence h.0 after a b h.1 k.1

-- an answer to the text
record Answers (text : List ℕ) (a : Answer) : Type 0 where
  o : Opening text
  stage : AtOpening text o.shebang (unwrap_or o.shebang 0 + unwrap_or o.fence.blank 0) o.fence.n o.fence.after a

one_answer : (text : List ℕ) → One (Answers text)
one_answer text a b h k =
    let o = h.o in
    let p = k.o in
    let e = shebang_once text o.shebang p.shebang o.ends p.ends in
    let f = fence_once o.below p.below o.fence p.fence (below_once text o.shebang p.shebang o.below p.below o.ends p.ends o.splits p.splits) in
    let m : AtOpening text o.shebang (unwrap_or o.shebang 0 + unwrap_or o.fence.blank 0) o.fence.n o.fence.after b = rw (e, f.blank, f.n, f.after) k.stage in
    at_opening text o.shebang (unwrap_or o.shebang 0 + unwrap_or o.fence.blank 0) o.fence.n o.fence.after a b h.stage m

of_plain : (text : List ℕ) (s : Script) → IsPlain text s → Answers text (inl s)
of_plain text s h = record { o = h.opening; stage = inl (h.none, ap (λ x. inl x) h.is) }

of_fenced : (text : List ℕ) (s : Script) → IsFenced text s → Answers text (inl s)
of_fenced text s h =
    let c = h.closing in
    let e = h.ending in
    record { o = h.opening; stage = inr (inr (h.enough, inr (inr (c.line, c.end, c.matter, c.rest, c.info_line, c.fence, inr (inr (e.tail, e.end, e.content, e.line, h.blank, (h.second, inl (h.no_second, h.info, h.finds_info, ap (λ x. inl x) h.is)))))))) }

of_script : (text : List ℕ) (s : Script) → IsScript text s → Answers text (inl s)
of_script text s (inl h) = of_plain text s h
of_script text s (inr h) = of_fenced text s h

no_fence : (text : List ℕ) → NoLineFeed text → (p : ℕ) → ¬ HasFence 1 text p
no_fence text none p f = feed_inside f.prefix _ (subst (λ (l : List ℕ). NoLineFeed l) f.split none)

of_refusal : (text : List ℕ) (e : Refusal) → IsRefused text e → Answers text (inr e)
of_refusal text e (opens_too_short h) = record { o = h.opening; stage = inr (inl (h.some, h.few, ap (λ x. inr x) h.is)) }
of_refusal text e (lacks_line h) = record { o = h.opening; stage = inr (inr (h.enough, inl (no_fence h.opening.fence.after h.one_line, ap (λ x. inr x) h.is))) }
of_refusal text e (closes_too_short h) = record { o = h.opening; stage = inr (inr (h.enough, inr (inl (h.most, h.place, h.some, h.less, h.longest, ap (λ x. inr x) h.is)))) }
of_refusal text e (lacks_close h) = record { o = h.opening; stage = inr (inr (h.enough, inl (h.none, ap (λ x. inr x) h.is))) }
of_refusal text e (closes_too_long h) =
    let c = h.closing in
    record { o = h.opening; stage = inr (inr (h.enough, inr (inr (c.line, c.end, c.matter, c.rest, c.info_line, c.fence, inl (h.extra, h.rest, h.some, h.split, h.no_more, ap (λ x. inr x) h.is))))) }
of_refusal text e (follows_close h) =
    let c = h.closing in
    let t = h.ending in
    record { o = h.opening; stage = inr (inr (h.enough, inr (inr (c.line, c.end, c.matter, c.rest, c.info_line, c.fence, inr (inl (t.tail, t.end, t.content, h.no_more, t.line, h.word, h.has_word, ap (λ x. inr x) h.is)))))) }
of_refusal text e (opens_twice h) =
    let c = h.closing in
    let t = h.ending in
    record { o = h.opening; stage = inr (inr (h.enough, inr (inr (c.line, c.end, c.matter, c.rest, c.info_line, c.fence, inr (inr (t.tail, t.end, t.content, t.line, h.blank, (h.second, inr (h.some, ap (λ x. inr x) h.is)))))))) }

one_script : (text : List ℕ) (s other : Script) → IsScript text s → IsScript text other → other ≡ s
one_script text s other h k = let e : (let a : Answer = inl other in a) ≡ inl s = one_answer text (inl other) (inl s) (of_script text other k) (of_script text s h) in cc

one_refusal : (text : List ℕ) (e other : Refusal) → IsRefused text e → IsRefused text other → other ≡ e
one_refusal text e other h k = let f = one_answer text (inr other) (inr e) (of_refusal text other k) (of_refusal text e h) in cc

not_both : (text : List ℕ) (s : Script) (e : Refusal) → IsScript text s → IsRefused text e → ⊥
not_both text s e h k = let f = one_answer text (inl s) (inr e) (of_script text s h) (of_refusal text e k) in cc

pub only_script : (text : List ℕ) (r : Result Script ScriptFault) → IfOk r (IsScript text) → IfOk r (IsOnlyScript text)
only_script text (Ok s) h = (λ other k. one_script text s other h k, λ e k. not_both text s e h k)
only_script text (Err f) h = tt

pub only_fault : (text : List ℕ) (r : Result Script ScriptFault) → IfErr r (IsFault text) → IfErr r (IsOnlyFault text)
only_fault text (Ok s) h = tt
only_fault text (Err f) h = by_fault f h
  where
    by_fault : (f : ScriptFault) → IsFault text f → IsOnlyFault text f
    by_fault (Refused e) h = (λ s k. not_both text s e k h, λ other k. one_refusal text e other h k)
    by_fault NoMemory h = λ s k. not_both text s h.0 k h.1
