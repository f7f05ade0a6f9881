-- The body of a literal: each text has one.
use Rattle.std.proofs.Common.{◌≡◌, ◌≢◌, ◌⊎◌, ℕ, suc, ◌+◌, ◌-◌, ◌<◌, ◌≤◌, List, [], ◌∷◌, ◌++◌, All, length, take, drop, get_or, get_or-drop, length-drop, slice_range, refl, ap, sym, ◌∙◌, subst, inl, inr, arith, length-append}
use Rattle.std.proofs.lemmas.Bool.{cases_eq, cases_lt}
use Rattle.std.proofs.lemmas.List.{append_assoc, drop-drop, drop_more, get_or-take, get_or_at, length-take-le, take-append-drop}
use Rattle.std.proofs.lemmas.List.Elements.{All-cons, All-nil, All-from_get_or}
use Rattle.rap_lexer.specs.declared.escape.Mode.{Mode}
use Rattle.rap_lexed.specs.Reported.{quote_of, IsBetween, IsBody}

abbrev Lacks : ℕ → List ℕ → Type 0
Lacks q text = All (λ b. b ≢ q) text

-- what has the byte does not lack it
has : (q : ℕ) (a r : List ℕ) → Lacks q (a ++ q ∷ r) → ⊥
has q a r h = h (length a) 0 (omega (arith, length-append a (q ∷ r))) (get_or_at a q r 0 (length a) refl)

has_at : (q : ℕ) (text a r : List ℕ) → text ≡ a ++ q ∷ r → Lacks q text → ⊥
has_at q text a r e h = has q a r (subst (λ (l : List ℕ). Lacks q l) e h)

tail_lacks : (q x : ℕ) (xs : List ℕ) → Lacks q (x ∷ xs) → Lacks q xs
tail_lacks q x xs h = All-from_get_or (λ b. b ≢ q) xs 0 (λ i l. h (suc i) 0 (omega arith))

-- what follows the first such byte
first_once : (q : ℕ) (a b r s : List ℕ) → Lacks q a → Lacks q b → a ++ q ∷ r ≡ b ++ q ∷ s → r ≡ s
first_once q [] [] r s h k e = cc
first_once q [] (y ∷ b) r s h k e = let f : y ≡ q = cc in absurd (k 0 0 (omega arith) f)
first_once q (x ∷ a) [] r s h k e = let f : x ≡ q = cc in absurd (h 0 0 (omega arith) f)
first_once q (x ∷ a) (y ∷ b) r s h k e =
    let f : a ++ q ∷ r ≡ b ++ q ∷ s = cc in
    first_once q a b r s (tail_lacks q x a h) (tail_lacks q y b k) f

-- what stands before the last such byte
last_once : (q : ℕ) (b c r s : List ℕ) → Lacks q r → Lacks q s → b ++ q ∷ r ≡ c ++ q ∷ s → b ≡ c
last_once q [] [] r s h k e = refl
last_once q [] (y ∷ c) r s h k e = let f : r ≡ c ++ q ∷ s = cc in absurd (has_at q r c s f h)
last_once q (x ∷ b) [] r s h k e = let f : s ≡ b ++ q ∷ r = cc in absurd (has_at q s b r f k)
last_once q (x ∷ b) (y ∷ c) r s h k e =
    let f : b ++ q ∷ r ≡ c ++ q ∷ s = cc in
    let g : x ≡ y = cc in
    let l : b ≡ c = last_once q b c r s h k f in
    rw (g, l) refl

between_once : (q : ℕ) (text b c : List ℕ) → IsBetween q text b → IsBetween q text c → b ≡ c
between_once q text b c h k =
    let rest = first_once q h.before k.before (b ++ q ∷ h.after) (c ++ q ∷ k.after) h.first k.first (sym h.split ∙ k.split) in
    last_once q b c h.after k.after h.last k.last rest

pub body_once : (mode : Mode) (text b c : List ℕ) → IsBody mode text b → IsBody mode text c → b ≡ c
body_once mode text b c (inl h) (inl k) = between_once (quote_of mode) text b c h k
body_once mode text b c (inl h) (inr k) = absurd (k.1 b h)
body_once mode text b c (inr h) (inl k) = absurd (h.1 c k)
body_once mode text b c (inr h) (inr k) = h.0 ∙ sym k.0

-- ---- each text has a body

split_first : (q : ℕ) (text : List ℕ) → Lacks q text ⊎ ((before : List ℕ) × (rest : List ℕ) × (text ≡ before ++ q ∷ rest) × Lacks q before)
split_first q [] = inl (All-nil _)
split_first q (c ∷ cs) = elim (cases_eq c q) [
  | inl e ↦ inr ([], cs, ap (λ x. x ∷ cs) e, All-nil _)
  | inr d ↦ elim (split_first q cs) [
    | inl h ↦ inl (All-cons (λ b. b ≢ q) c cs d h)
    | inr h ↦ inr (c ∷ h.0, h.1, ap (λ l. c ∷ l) h.2, All-cons (λ b. b ≢ q) c h.0 d h.3)
  ]
]

split_last : (q : ℕ) (text : List ℕ) → Lacks q text ⊎ ((body : List ℕ) × (after : List ℕ) × (text ≡ body ++ q ∷ after) × Lacks q after)
split_last q [] = inl (All-nil _)
split_last q (c ∷ cs) = elim (split_last q cs) [
  | inr h ↦ inr (c ∷ h.0, h.1, ap (λ l. c ∷ l) h.2, h.3)
  | inl h ↦ elim (cases_eq c q) [
    | inl e ↦ inr ([], cs, ap (λ x. x ∷ cs) e, h)
    | inr d ↦ inl (All-cons (λ b. b ≢ q) c cs d h)
  ]
]

none_in : (q : ℕ) (text : List ℕ) → Lacks q text → (other : List ℕ) → ¬ IsBetween q text other
none_in q text h other b = has_at q text b.before (other ++ q ∷ b.after) b.split h

one_in : (q : ℕ) (text before rest : List ℕ) → text ≡ before ++ q ∷ rest → Lacks q before → Lacks q rest → (other : List ℕ) → ¬ IsBetween q text other
one_in q text before rest e h k other b =
    has_at q rest other b.after (first_once q before b.before rest (other ++ q ∷ b.after) h b.first (sym e ∙ b.split)) k

pub some_body : (mode : Mode) (text : List ℕ) → (body : List ℕ) × IsBody mode text body
some_body mode text = elim (split_first (quote_of mode) text) [
  | inl h ↦ ([], inr (refl, none_in (quote_of mode) text h))
  | inr h ↦ elim (split_last (quote_of mode) h.1) [
    | inl k ↦ ([], inr (refl, one_in (quote_of mode) text h.0 h.1 h.2 h.3 k))
    | inr k ↦ (k.0, inl (record { before = h.0; after = k.1; split = h.2 ∙ ap (λ l. h.0 ++ quote_of mode ∷ l) k.2; first = h.3; last = k.3 }))
  ]
]

-- ---- by the places of the first quote and of the last one

pub no_quote : (q : ℕ) (text : List ℕ) → ((i : ℕ) → i < length text → get_or text i 0 ≢ q) → (other : List ℕ) → ¬ IsBetween q text other
no_quote q text h = none_in q text (All-from_get_or (λ b. b ≢ q) text 0 h)

module _ (q : ℕ) (text : List ℕ) (i j : ℕ) (before : (k : ℕ) → k < i → get_or text k 0 ≢ q) (past : (k : ℕ) → j < k → k < length text → get_or text k 0 ≢ q) where
  -- the first is the last
  pub one_quote : j ≤ i → (other : List ℕ) → ¬ IsBetween q text other
  one_quote one other b =
      let m = length b.before in
      let n = m + 1 + length other in
      let at_first : get_or text m 0 ≡ q = ap (λ l. get_or l m 0) b.split ∙ get_or_at b.before q (other ++ q ∷ b.after) 0 m refl in
      let whole : text ≡ (b.before ++ q ∷ other) ++ q ∷ b.after = b.split ∙ sym (append_assoc b.before (q ∷ other) (q ∷ b.after)) in
      let size : length (b.before ++ q ∷ other) ≡ n = omega (arith, length-append b.before (q ∷ other)) in
      let at_last : get_or text n 0 ≡ q = ap (λ l. get_or l n 0) whole ∙ get_or_at (b.before ++ q ∷ other) q b.after 0 n size in
      let inside : n < length text = omega (arith, ap length whole, length-append (b.before ++ q ∷ other) (q ∷ b.after), size) in
      elim (cases_lt m i) as (λ _. ⊥) [
        | inl l ↦ before m l at_first
        | inr l ↦ past n (omega arith) inside at_last
      ]

  pub two_quotes : i < j → j < length text → get_or text i 0 ≡ q → get_or text j 0 ≡ q → IsBetween q text (slice_range text (i + 1) j)
  two_quotes l inside at_first at_last =
      let body = slice_range text (i + 1) j in
      let last : drop j text ≡ q ∷ drop (j + 1) text = drop_more text j 0 inside ∙ ap (λ b. b ∷ drop (j + 1) text) at_last in
      let first : drop i text ≡ q ∷ drop (i + 1) text = drop_more text i 0 (omega arith) ∙ ap (λ b. b ∷ drop (i + 1) text) at_first in
      let below : drop (j - (i + 1)) (drop (i + 1) text) ≡ q ∷ drop (j + 1) text = drop-drop (j - (i + 1)) (i + 1) text ∙ (ap (λ n. drop n text) (omega arith) ∙ last) in
      let middle : drop (i + 1) text ≡ body ++ q ∷ drop (j + 1) text = sym (take-append-drop (j - (i + 1)) (drop (i + 1) text)) ∙ ap (λ l. body ++ l) below in
      record {
        before = take i text;
        after = drop (j + 1) text;
        split = sym (take-append-drop i text) ∙ ap (λ l. take i text ++ l) (first ∙ ap (λ l. q ∷ l) middle);
        first = All-from_get_or (λ b. b ≢ q) (take i text) 0 (λ k m. let within : k < i = omega (arith, length-take-le i text (omega arith)) in subst (λ (b : ℕ). b ≢ q) (sym (get_or-take i text k 0 within)) (before k within));
        last = All-from_get_or (λ b. b ≢ q) (drop (j + 1) text) 0 (λ k m. subst (λ (b : ℕ). b ≢ q) (sym (get_or-drop (j + 1) text k 0)) (past (j + 1 + k) (omega arith) (omega (arith, length-drop (j + 1) text))));
      }
