-- A text is cut into one token, and between its first and its last quote, in one way.
use Rattle.std.proofs.Common.{◌≡◌, ◌≢◌, ℕ, suc, ◌+◌, ◌-◌, ◌<◌, ◌≤◌, List, [], ◌∷◌, ◌++◌, All, length, take, drop, get_or, get_or-drop, length-drop, slice_range, chars, IsUtf8, encode_utf8_all, refl, ap, sym, ◌∙◌, subst, inl, inr, arith, length-append, Bool, true, false, MatchBool, ◌⊎◌}
use Rattle.std.proofs.lemmas.Bool.{cases_eq, cases_lt}
use Rattle.std.proofs.lemmas.Str.{chars-nil, encodes-chars, IsUtf8-drop}
use Rattle.std.specs.Str.{IsCharBoundary}
use Rattle.std.proofs.lemmas.List.{append_assoc, drop_all, drop-drop, drop_more, get_or-take, get_or_at, length-take-le, take-append-drop}
use Rattle.std.proofs.lemmas.List.Elements.{All-cons, All-nil, All-from_get_or}
use Rattle.rap_base.specs.declared.edition.Edition.TheVariants.{Edition2024}
use Rattle.rap_lexer.proofs.OneToken.{one_token}
use Rattle.rap_lexer.specs.First.{First}
use Rattle.rap_lexer.specs.declared.escape.Mode.{Mode}
use Rattle.rap_lexer.specs.declared.lexer.lexeme.Lexeme.{Lexeme}
use Rattle.rap_lexer.specs.declared.lexer.lexeme.Remark.TheVariants.{Nothing, Escapes}
use Rattle.rap_literals.specs.Cut.{IsToken, IsBetween, AreParts, IsForm, IsPlain, IsQuoted, quote_of}
use Rattle.rap_literals.specs.declared.cut.Form.{Form}
use Rattle.rap_literals.specs.declared.cut.Form.TheVariants.{Escaped, Raw}

abbrev Lacks : ℕ → List ℕ → Type 0
Lacks q text = All (λ b. b ≢ q) text

-- ---- one body

has : (q : ℕ) (text a r : List ℕ) → text ≡ a ++ q ∷ r → Lacks q text → ⊥
has q text a r e h = h (length a) 0 (omega (arith, ap length e, length-append a (q ∷ r))) (ap (λ l. get_or l (length a) 0) e ∙ get_or_at a q r 0 (length a) refl)

tail_lacks : (q x : ℕ) (xs : List ℕ) → Lacks q (x ∷ xs) → Lacks q xs
tail_lacks q x xs h = All-from_get_or (λ b. b ≢ q) xs 0 (λ i l. h (suc i) 0 (omega arith))

-- what follows the first quote
first_once : (q : ℕ) (a b r s : List ℕ) → Lacks q a → Lacks q b → a ++ q ∷ r ≡ b ++ q ∷ s → r ≡ s
first_once q [] [] r s h k e = cc
first_once q [] (y ∷ b) r s h k e = let f : y ≡ q = cc in absurd (k 0 0 (omega arith) f)
first_once q (x ∷ a) [] r s h k e = let f : x ≡ q = cc in absurd (h 0 0 (omega arith) f)
first_once q (x ∷ a) (y ∷ b) r s h k e =
    let f : a ++ q ∷ r ≡ b ++ q ∷ s = cc in
    first_once q a b r s (tail_lacks q x a h) (tail_lacks q y b k) f

-- what stands before the last quote, and what follows it
last_once : (q : ℕ) (b c r s : List ℕ) → Lacks q r → Lacks q s → b ++ q ∷ r ≡ c ++ q ∷ s → (b ≡ c) × (r ≡ s)
last_once q [] [] r s h k e = let f : r ≡ s = cc in (refl, f)
last_once q [] (y ∷ c) r s h k e = let f : r ≡ c ++ q ∷ s = cc in absurd (has q r c s f h)
last_once q (x ∷ b) [] r s h k e = let f : s ≡ b ++ q ∷ r = cc in absurd (has q s b r (f) k)
last_once q (x ∷ b) (y ∷ c) r s h k e =
    let f : b ++ q ∷ r ≡ c ++ q ∷ s = cc in
    let g : x ≡ y = cc in
    let l = last_once q b c r s h k f in
    (rw (g, l.0) refl, l.1)

between_once : (q : ℕ) (text b c r s : List ℕ) → IsBetween q text b r → IsBetween q text c s → (b ≡ c) × (r ≡ s)
between_once q text b c r s h k =
    let rest = first_once q h.before k.before (b ++ q ∷ r) (c ++ q ∷ s) h.first k.first (sym h.split ∙ k.split) in
    last_once q b c r s h.last k.last rest

parts_once : (q : ℕ) (text b c r s : List ℕ) → AreParts q text b r → AreParts q text c s → (b ≡ c) × (r ≡ s)
parts_once q text b c r s (inl h) (inl k) = between_once q text b c r s h k
parts_once q text b c r s (inl h) (inr k) = absurd (k.2 b r h)
parts_once q text b c r s (inr h) (inl k) = absurd (h.2 c s k)
parts_once q text b c r s (inr h) (inr k) = (h.0 ∙ sym k.0, h.1 ∙ sym k.1)

-- ---- each text has parts

split_first : (q : ℕ) (text : List ℕ) → Lacks q text ⊎ ((before : List ℕ) × (rest : List ℕ) × (text ≡ before ++ q ∷ rest) × Lacks q before)
split_first q [] = inl (All-nil _)
split_first q (c ∷ cs) = elim (cases_eq c q) [
  | inl e ↦ inr ([], cs, ap (λ x. x ∷ cs) e, All-nil _)
  | inr d ↦ elim (split_first q cs) [
    | inl h ↦ inl (All-cons (λ b. b ≢ q) c cs d h)
    | inr h ↦ inr (c ∷ h.0, h.1, ap (λ l. c ∷ l) h.2, All-cons (λ b. b ≢ q) c h.0 d h.3)
  ]
]

split_last : (q : ℕ) (text : List ℕ) → Lacks q text ⊎ ((body : List ℕ) × (after : List ℕ) × (text ≡ body ++ q ∷ after) × Lacks q after)
split_last q [] = inl (All-nil _)
split_last q (c ∷ cs) = elim (split_last q cs) [
  | inr h ↦ inr (c ∷ h.0, h.1, ap (λ l. c ∷ l) h.2, h.3)
  | inl h ↦ elim (cases_eq c q) [
    | inl e ↦ inr ([], cs, ap (λ x. x ∷ cs) e, h)
    | inr d ↦ inl (All-cons (λ b. b ≢ q) c cs d h)
  ]
]

one_only : (q : ℕ) (text before rest : List ℕ) → text ≡ before ++ q ∷ rest → Lacks q before → Lacks q rest → (body after : List ℕ) → ¬ IsBetween q text body after
one_only q text before rest e h k body after b =
    has q rest body after (first_once q before b.before rest (body ++ q ∷ after) h b.first (sym e ∙ b.split)) k

some_parts : (q : ℕ) (text : List ℕ) → (body : List ℕ) × (after : List ℕ) × AreParts q text body after
some_parts q text = elim (split_first q text) [
  | inl h ↦ ([], [], inr (refl, refl, λ body after b. has q text b.before (body ++ q ∷ after) b.split h))
  | inr h ↦ elim (split_last q h.1) [
    | inl k ↦ ([], [], inr (refl, refl, one_only q text h.0 h.1 h.2 h.3 k))
    | inr k ↦ (k.0, k.1, inl (record { before = h.0; split = h.2 ∙ ap (λ l. h.0 ++ q ∷ l) k.2; first = h.3; last = k.3 }))
  ]
]

-- ---- by the places of the first quote and of the last one

pub no_quote : (q : ℕ) (text : List ℕ) → ((i : ℕ) → i < length text → get_or text i 0 ≢ q) → (body after : List ℕ) → ¬ IsBetween q text body after
no_quote q text h body after b = has q text b.before (body ++ q ∷ after) b.split (All-from_get_or (λ b. b ≢ q) text 0 h)

module _ (q : ℕ) (text : List ℕ) (i j : ℕ) (before : (k : ℕ) → k < i → get_or text k 0 ≢ q) (past : (k : ℕ) → j < k → k < length text → get_or text k 0 ≢ q) where
  -- the first is the last
  pub one_quote : j ≤ i → (body after : List ℕ) → ¬ IsBetween q text body after
  one_quote one body after b =
      let m = length b.before in
      let n = m + 1 + length body in
      let at_first : get_or text m 0 ≡ q = ap (λ l. get_or l m 0) b.split ∙ get_or_at b.before q (body ++ q ∷ after) 0 m refl in
      let whole : text ≡ (b.before ++ q ∷ body) ++ q ∷ after = b.split ∙ sym (append_assoc b.before (q ∷ body) (q ∷ after)) in
      let size : length (b.before ++ q ∷ body) ≡ n = omega (arith, length-append b.before (q ∷ body)) in
      let at_last : get_or text n 0 ≡ q = ap (λ l. get_or l n 0) whole ∙ get_or_at (b.before ++ q ∷ body) q after 0 n size in
      let inside : n < length text = omega (arith, ap length whole, length-append (b.before ++ q ∷ body) (q ∷ after), size) in
      elim (cases_lt m i) as (λ _. ⊥) [
        | inl l ↦ before m l at_first
        | inr l ↦ past n (omega arith) inside at_last
      ]

  pub two_quotes : i < j → j < length text → get_or text i 0 ≡ q → get_or text j 0 ≡ q → IsBetween q text (slice_range text (i + 1) j) (drop (j + 1) text)
  two_quotes l inside at_first at_last =
      let body = slice_range text (i + 1) j in
      let last : drop j text ≡ q ∷ drop (j + 1) text = drop_more text j 0 inside ∙ ap (λ b. b ∷ drop (j + 1) text) at_last in
      let first : drop i text ≡ q ∷ drop (i + 1) text = drop_more text i 0 (omega arith) ∙ ap (λ b. b ∷ drop (i + 1) text) at_first in
      let below : drop (j - (i + 1)) (drop (i + 1) text) ≡ q ∷ drop (j + 1) text = drop-drop (j - (i + 1)) (i + 1) text ∙ (ap (λ n. drop n text) (omega arith) ∙ last) in
      let middle : drop (i + 1) text ≡ body ++ q ∷ drop (j + 1) text = sym (take-append-drop (j - (i + 1)) (drop (i + 1) text)) ∙ ap (λ l. body ++ l) below in
      record {
        before = take i text;
        split = sym (take-append-drop i text) ∙ ap (λ l. take i text ++ l) (first ∙ ap (λ l. q ∷ l) middle);
        first = All-from_get_or (λ b. b ≢ q) (take i text) 0 (λ k m. let within : k < i = omega (arith, length-take-le i text (omega arith)) in subst (λ (b : ℕ). b ≢ q) (sym (get_or-take i text k 0 within)) (before k within));
        last = All-from_get_or (λ b. b ≢ q) (drop (j + 1) text) 0 (λ k m. subst (λ (b : ℕ). b ≢ q) (sym (get_or-drop (j + 1) text k 0)) (past (j + 1 + k) (omega arith) (omega (arith, length-drop (j + 1) text))));
      }

-- ---- one token, one form

pub token_once : (text : List ℕ) (a b : Lexeme) → IsToken text a → IsToken text b → a ≡ b
token_once text a b h k = (one_token Edition2024 (chars text) a b [] [] h k).0

pub none_of_empty : (text : List ℕ) (token : Lexeme) → length text ≡ 0 → ¬ IsToken text token
none_of_empty [] token e t = let wrong = rw chars-nil at t in wrong
none_of_empty (b ∷ bs) token e t = absurd (omega (arith, e))

module _ (text : List ℕ) (token : Lexeme) (len : ℕ) (first : First Edition2024 (chars text) token (chars (drop len text))) where
  pub whole_token : len ≡ length text → IsToken text token
  whole_token e =
      let none : chars (drop len text) ≡ [] = ap chars (drop_all len text (omega arith)) ∙ chars-nil in
      subst (λ (l : List ℕ). First Edition2024 (chars text) token l) none first

  pub no_whole : IsUtf8 text → IsCharBoundary text len → (len ≡ length text → ⊥) → (other : Lexeme) → ¬ IsToken text other
  no_whole u border n other t =
      let same = one_token Edition2024 (chars text) other token [] (chars (drop len text)) t first in
      let none : drop len text ≡ [] = sym (encodes-chars (drop len text) (IsUtf8-drop text len u border)) ∙ ap encode_utf8_all (sym same.1) in
      let size : length text - len ≡ 0 = sym (length-drop len text) ∙ ap length none in
      n (omega (arith, border.0))

form_once : (mode : Mode) (a b : Lexeme) (f g : Form) → a ≡ b → IsForm f mode a → IsForm g mode b → f ≡ g
form_once mode a b Escaped Escaped e h k = refl
form_once mode a b Escaped Raw e h k = let n : Escapes mode ≡ Nothing = sym h ∙ (ap (λ (t : Lexeme). t.remark) e ∙ k.0) in let wrong : ⊥ = cc in absurd wrong
form_once mode a b Raw Escaped e h k = let n : Nothing ≡ Escapes mode = sym h.0 ∙ (ap (λ (t : Lexeme). t.remark) e ∙ k) in let wrong : ⊥ = cc in absurd wrong
form_once mode a b Raw Raw e h k = refl

-- a text has one form, one body and one rest
pub quoted_once : (mode : Mode) (text : List ℕ) (f g : Form) (b c r s : List ℕ) → IsQuoted mode text f b r → IsQuoted mode text g c s → (f ≡ g) × (b ≡ c) × (r ≡ s)
quoted_once mode text f g b c r s h k =
    let t = token_once text h.token k.token h.whole k.whole in
    let p = parts_once (quote_of mode) text b c r s h.parts k.parts in
    (form_once mode h.token k.token f g t h.written k.written, p.0, p.1)

pub no_form : (mode : Mode) (text : List ℕ) (token : Lexeme) → IsToken text token → ((form : Form) → ¬ IsForm form mode token) → (form : Form) (body after : List ℕ) → ¬ IsQuoted mode text form body after
no_form mode text token t n form body after q = n form (subst (λ (x : Lexeme). IsForm form mode x) (token_once text q.token token q.whole t) q.written)

pub plain_or_not : (kind : ℕ) (text : List ℕ) (token : Lexeme) → IsToken text token → (b : Bool) → MatchBool b ((token.kind ≡ kind) × (token.remark ≡ Nothing)) (¬ ((token.kind ≡ kind) × (token.remark ≡ Nothing))) → MatchBool b (IsPlain kind text) (¬ IsPlain kind text)
plain_or_not kind text token t true h = record { token = token; whole = t; named = h.0; quiet = h.1 }
plain_or_not kind text token t false h = λ p.
    let e = token_once text p.token token p.whole t in
    h (sym (ap (λ (x : Lexeme). x.kind) e) ∙ p.named, sym (ap (λ (x : Lexeme). x.remark) e) ∙ p.quiet)

pub no_written : (text : List ℕ) (token : Lexeme) → IsToken text token → ((mode : Mode) (form : Form) → ¬ IsForm form mode token) → (mode : Mode) (form : Form) (body after : List ℕ) → ¬ IsQuoted mode text form body after
no_written text token t n mode form body after q = no_form mode text token t (n mode) form body after q

pub quoted_parts : (mode : Mode) (text : List ℕ) (form : Form) (token : Lexeme) → IsToken text token → IsForm form mode token → (body : List ℕ) × (after : List ℕ) × IsQuoted mode text form body after
quoted_parts mode text form token t f =
    let p = some_parts (quote_of mode) text in
    (p.0, p.1, record { token = token; whole = t; written = f; parts = p.2 })
