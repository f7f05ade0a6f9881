-- where the blank lines at the beginning of a text end
use Rattle.std.proofs.Common.{◌≡◌, ◌≢◌, ℕ, zero, suc, Bool, true, false, cond, eqb, List, [], ◌∷◌, ◌++◌, ◌+◌, ◌<◌, ◌≤◌, ◌⊎◌, inl, inr, length, take, drop, get_or, Option, Some, None, chars, encode_utf8, encode_utf8_all, eq-eqb, IsUtf8, refl, ap, sym, ◌∙◌, subst, arith}
use Rattle.std.specs.Char.{len_utf8}
use Rattle.std.specs.List.{AllPass}
use Rattle.std.proofs.lemmas.List.{at_drop_more, take_more, length-append, take-append-drop}
use Rattle.std.proofs.lemmas.Str.{encodes-append, encodes-chars, length-encode}
use Rattle.std.proofs.lemmas.Bool.Decides.{Decides-eqb}
use Rattle.rap_base.specs.Char.{is_rust_whitespace}
use Rattle.rap_frontmatter.specs.Script.{HasBlankLines, EndsBlankLines}

-- where the blank lines end: the walk stands at the byte `at`, and `end` is what it found before
abbrev pub blank_from : ℕ → Option ℕ → List ℕ → Option ℕ
blank_from at end [] = end
blank_from at end (c ∷ cs) =
    cond (is_rust_whitespace c) (blank_from (at + len_utf8 c) (cond (eqb c 10) (Some (at + len_utf8 c)) end) cs) end

not_both : {b : Bool} → b ≡ true → b ≡ false → ⊥
not_both t f = let e = sym t ∙ f in cc

not_empty : (white rest : List ℕ) → [] ≡ white ++ 10 ∷ rest → ⊥
not_empty white rest e = omega (arith, ap length e, length-append white (10 ∷ rest))

AllPass-cons : (p : ℕ → Bool) (x : ℕ) (xs : List ℕ) → p x ≡ true → AllPass p xs → AllPass p (x ∷ xs)
AllPass-cons p x xs h t zero d l = h
AllPass-cons p x xs h t (suc k) d l = t k d (omega arith)

longer : (m a b n : ℕ) → m ≡ a + b → b ≤ n → m ≤ a + n
longer m a b n e l = omega arith

one : (m a n : ℕ) → m ≡ 1 → a ≡ 1 → m ≤ a + n
one m a n e f = omega arith

-- white space up to and with a line feed, in characters, of so many bytes
record Blank (cs : List ℕ) (n : ℕ) : Type 0 where
  white : List ℕ
  rest : List ℕ
  split : cs ≡ white ++ 10 ∷ rest
  blank : AllPass is_rust_whitespace white
  size : n ≡ length (encode_utf8_all white) + 1

abbrev Longer : ℕ → List ℕ → ℕ → Type 0
Longer c cs n = (is_rust_whitespace c ≡ true) × ((m : ℕ) × Blank cs m × (n ≡ len_utf8 c + m))

size_cons : (c : ℕ) (white : List ℕ) → length (encode_utf8_all (c ∷ white)) ≡ len_utf8 c + length (encode_utf8_all white)
size_cons c white = length-append (encode_utf8 c) (encode_utf8_all white) ∙ ap (λ n. n + length (encode_utf8_all white)) (length-encode c)

regroup : (n a b m : ℕ) → n ≡ m + 1 → m ≡ a + b → n ≡ a + (b + 1)
regroup n a b m e f = omega arith

uncons_at : (c : ℕ) (cs : List ℕ) (n : ℕ) (white rest : List ℕ) → c ∷ cs ≡ white ++ 10 ∷ rest → AllPass is_rust_whitespace white → n ≡ length (encode_utf8_all white) + 1 → ((c ≡ 10) × (n ≡ 1)) ⊎ Longer c cs n
uncons_at c cs n [] rest e p s = inl (ap (λ l. get_or l 0 0) e, s)
uncons_at c cs n (d ∷ white) rest e p s =
    let same : c ≡ d = ap (λ l. get_or l 0 0) e in
    let tail : cs ≡ white ++ 10 ∷ rest = ap (λ l. drop 1 l) e in
    let all : AllPass is_rust_whitespace white = λ k x l. p (suc k) x (omega arith) in
    let w : is_rust_whitespace c ≡ true = subst (λ (x : ℕ). is_rust_whitespace x ≡ true) (sym same) (p 0 0 (omega arith)) in
    let b : Blank cs (length (encode_utf8_all white) + 1) = record { white = white; rest = rest; split = tail; blank = all; size = refl } in
    let size : n ≡ len_utf8 d + (length (encode_utf8_all white) + 1) = regroup n _ _ _ s (size_cons d white) in
    inr (w, (length (encode_utf8_all white) + 1, b, size ∙ ap (λ x. len_utf8 x + (length (encode_utf8_all white) + 1)) (sym same)))

uncons : (c : ℕ) (cs : List ℕ) (n : ℕ) → Blank (c ∷ cs) n → ((c ≡ 10) × (n ≡ 1)) ⊎ Longer c cs n
uncons c cs n b = uncons_at c cs n b.white b.rest b.split b.blank b.size

cons : (c : ℕ) (cs : List ℕ) (n : ℕ) → is_rust_whitespace c ≡ true → Blank cs n → Blank (c ∷ cs) (len_utf8 c + n)
cons c cs n w b =
    record {
      white = c ∷ b.white;
      rest = b.rest;
      split = ap (λ l. c ∷ l) b.split;
      blank = AllPass-cons is_rust_whitespace c b.white w b.blank;
      size = sym (regroup (length (encode_utf8_all (c ∷ b.white)) + 1) _ _ _ refl (size_cons c b.white) ∙ ap (λ m. len_utf8 c + m) (sym b.size));
    }

feed_first : (c : ℕ) (cs : List ℕ) → c ≡ 10 → Blank (c ∷ cs) 1
feed_first c cs e = record { white = []; rest = cs; split = ap (λ x. x ∷ cs) e; blank = λ k d l. absurd (omega arith); size = refl }

-- where `blank_from` ends, from a place on, with what it found before
abbrev Ends : ℕ → Option ℕ → List ℕ → Option ℕ → Type 0
Ends at end cs r = ((r ≡ end) × ((n : ℕ) → ¬ Blank cs n)) ⊎ ((n : ℕ) × (r ≡ Some (at + n)) × Blank cs n × ((m : ℕ) → Blank cs m → m ≤ n))

further : (at a n : ℕ) (r : Option ℕ) → r ≡ Some (at + a + n) → r ≡ Some (at + (a + n))
further at a n r e = e ∙ ap (λ (x : ℕ). Some x) (omega arith)

past_other : (at : ℕ) (end : Option ℕ) (c : ℕ) (cs : List ℕ) (r : Option ℕ) → is_rust_whitespace c ≡ true → c ≢ 10 → Ends (at + len_utf8 c) end cs r → Ends at end (c ∷ cs) r
past_other at end c cs r w other (inl (e, none)) =
    inl (e, λ n b. elim (uncons c cs n b) [ inl h ↦ other h.0 | inr h ↦ none h.1.0 h.1.1 ])
past_other at end c cs r w other (inr (n, e, b, most)) =
    inr (len_utf8 c + n, further at (len_utf8 c) n r e, cons c cs n w b, λ m d. elim (uncons c cs m d) [ inl h ↦ absurd (other h.0) | inr h ↦ longer m _ _ n h.1.2 (most h.1.0 h.1.1) ])

past_feed : (at : ℕ) (end : Option ℕ) (c : ℕ) (cs : List ℕ) (r : Option ℕ) → is_rust_whitespace c ≡ true → c ≡ 10 → Ends (at + len_utf8 c) (Some (at + len_utf8 c)) cs r → Ends at end (c ∷ cs) r
past_feed at end c cs r w is (inl (e, none)) =
    inr (1, e ∙ ap (λ x. Some (at + len_utf8 x)) is, feed_first c cs is, λ m d. elim (uncons c cs m d) [ inl h ↦ omega (arith, h.1) | inr h ↦ absurd (none h.1.0 h.1.1) ])
past_feed at end c cs r w is (inr (n, e, b, most)) =
    inr (len_utf8 c + n, further at (len_utf8 c) n r e, cons c cs n w b, λ m d. elim (uncons c cs m d) [ inl h ↦ one m _ n h.1 (ap len_utf8 is) | inr h ↦ longer m _ _ n h.1.2 (most h.1.0 h.1.1) ])

past_white : (at : ℕ) (end : Option ℕ) (c : ℕ) (cs : List ℕ) (b : Bool) → eqb c 10 ≡ b → is_rust_whitespace c ≡ true → ((at : ℕ) (end : Option ℕ) → Ends at end cs (blank_from at end cs)) → Ends at end (c ∷ cs) (blank_from (at + len_utf8 c) (cond b (Some (at + len_utf8 c)) end) cs)
past_white at end c cs true e w ih = past_feed at end c cs _ w ((Decides-eqb c 10).0 e) (ih (at + len_utf8 c) (Some (at + len_utf8 c)))
past_white at end c cs false e w ih = past_other at end c cs _ w (λ is. not_both (eq-eqb c 10 is) e) (ih (at + len_utf8 c) end)

past_any : (at : ℕ) (end : Option ℕ) (c : ℕ) (cs : List ℕ) (b : Bool) → is_rust_whitespace c ≡ b → ((at : ℕ) (end : Option ℕ) → Ends at end cs (blank_from at end cs)) → Ends at end (c ∷ cs) (cond b (blank_from (at + len_utf8 c) (cond (eqb c 10) (Some (at + len_utf8 c)) end) cs) end)
past_any at end c cs true w ih = past_white at end c cs (eqb c 10) refl w ih
past_any at end c cs false w ih =
    inl (refl, λ n b. elim (uncons c cs n b) [ inl h ↦ not_both (ap is_rust_whitespace h.0) w | inr h ↦ not_both h.0 w ])

ends : (at : ℕ) (end : Option ℕ) (cs : List ℕ) → Ends at end cs (blank_from at end cs)
ends at end [] = inl (refl, λ n b. not_empty b.white b.rest b.split)
ends at end (c ∷ cs) = past_any at end c cs (is_rust_whitespace c) refl (λ at end. ends at end cs)

from_lines : (text : List ℕ) (n : ℕ) → HasBlankLines text n → Blank (chars text) n
from_lines text n h = record { white = h.white; rest = h.rest; split = h.split; blank = h.blank; size = h.size }

to_lines : (text : List ℕ) (n : ℕ) → Blank (chars text) n → HasBlankLines text n
to_lines text n h = record { white = h.white; rest = h.rest; split = h.split; blank = h.blank; size = h.size }

found : (text : List ℕ) (r : Option ℕ) → Ends 0 None (chars text) r → EndsBlankLines text r
found text r (inl (e, none)) =
    subst (λ (x : Option ℕ). EndsBlankLines text x) (sym e) (λ n h. none n (from_lines text n h))
found text r (inr (n, e, b, most)) =
    subst (λ (x : Option ℕ). EndsBlankLines text x) (sym (e ∙ ap (λ (x : ℕ). Some x) (omega arith))) (to_lines text n b, λ m h. most m (from_lines text m h))

-- the walk from the beginning on ends where the blank lines end
pub ends_blank_lines : (text : List ℕ) (r : Option ℕ) → r ≡ blank_from 0 None (chars text) → EndsBlankLines text r
ends_blank_lines text r e = found text r (subst (λ (x : Option ℕ). Ends 0 None (chars text) x) (sym e) (ends 0 None (chars text)))

-- ---- one step of the walk, over the characters `cs` at `k`

is_false : (b : Bool) → (b ≡ true → ⊥) → b ≡ false
is_false true f = absurd (f refl)
is_false false f = refl

cond_true : (b : Bool) (x y : Option ℕ) → b ≡ true → cond b x y ≡ x
cond_true b x y e = ap (λ v. cond v x y) e

cond_false : (b : Bool) (x y : Option ℕ) → b ≡ false → cond b x y ≡ y
cond_false b x y e = ap (λ v. cond v x y) e

module _ (cs : List ℕ) (k c at len : ℕ) (inside : k < length cs) (is : c ≡ get_or cs k c) (place : at ≡ length (encode_utf8_all (take k cs))) (size : len ≡ len_utf8 c) where
  pub step_place : (j : ℕ) → j ≡ k + 1 → at + len ≡ length (encode_utf8_all (take j cs))
  step_place j e =
      let more : take j cs ≡ take k cs ++ c ∷ [] = ap (λ i. take i cs) e ∙ (take_more cs k c inside ∙ ap (λ x. take k cs ++ x ∷ []) (sym is)) in
      let bytes : length (encode_utf8_all (take j cs)) ≡ length (encode_utf8_all (take k cs)) + length (encode_utf8_all (c ∷ [])) = ap (λ l. length (encode_utf8_all l)) more ∙ (ap (λ l. length l) (encodes-append (take k cs) (c ∷ [])) ∙ length-append (encode_utf8_all (take k cs)) (encode_utf8_all (c ∷ []))) in
      omega (arith, bytes, size_cons c [], place, size)

  here : (end : Option ℕ) → blank_from at end (drop k cs) ≡ blank_from at end (c ∷ drop (k + 1) cs)
  here end = at_drop_more (blank_from at end) cs k c inside ∙ ap (λ x. blank_from at end (x ∷ drop (k + 1) cs)) (sym is)

  step_white : (end found : Option ℕ) (j : ℕ) → j ≡ k + 1 → is_rust_whitespace c ≡ true → blank_from at end (drop k cs) ≡ found → blank_from (at + len) (cond (eqb c 10) (Some (at + len)) end) (drop j cs) ≡ found
  step_white end found j e w h =
      let next = λ (n : ℕ). blank_from (at + n) (cond (eqb c 10) (Some (at + n)) end) (drop j cs) in
      let same : next (len_utf8 c) ≡ blank_from (at + len_utf8 c) (cond (eqb c 10) (Some (at + len_utf8 c)) end) (drop (k + 1) cs) = ap (λ i. blank_from (at + len_utf8 c) (cond (eqb c 10) (Some (at + len_utf8 c)) end) (drop i cs)) e in
      ap next size ∙ (same ∙ (sym (cond_true (is_rust_whitespace c) _ end w) ∙ (sym (here end) ∙ h)))

  pub step_feed : (end found : Option ℕ) (j : ℕ) → j ≡ k + 1 → is_rust_whitespace c ≡ true → c ≡ 10 → blank_from at end (drop k cs) ≡ found → blank_from (at + len) (Some (at + len)) (drop j cs) ≡ found
  step_feed end found j e w feed h =
      ap (λ o. blank_from (at + len) o (drop j cs)) (sym (cond_true (eqb c 10) (Some (at + len)) end (eq-eqb c 10 feed))) ∙ step_white end found j e w h

  pub step_plain : (end found : Option ℕ) (j : ℕ) → j ≡ k + 1 → is_rust_whitespace c ≡ true → c ≢ 10 → blank_from at end (drop k cs) ≡ found → blank_from (at + len) end (drop j cs) ≡ found
  step_plain end found j e w plain h =
      ap (λ o. blank_from (at + len) o (drop j cs)) (sym (cond_false (eqb c 10) (Some (at + len)) end (is_false (eqb c 10) (λ t. plain ((Decides-eqb c 10).0 t))))) ∙ step_white end found j e w h

  pub step_other : (end found : Option ℕ) → is_rust_whitespace c ≡ false → blank_from at end (drop k cs) ≡ found → end ≡ found
  step_other end found w h = sym (cond_false (is_rust_whitespace c) _ end w) ∙ (sym (here end) ∙ h)

-- a prefix of the text's characters takes no more bytes than the text
pub prefix_fits : (text : List ℕ) (k : ℕ) → IsUtf8 text → length (encode_utf8_all (take k (chars text))) ≤ length text
prefix_fits text k u =
    let whole : encode_utf8_all (take k (chars text)) ++ encode_utf8_all (drop k (chars text)) ≡ text = sym (encodes-append (take k (chars text)) (drop k (chars text))) ∙ (ap encode_utf8_all (take-append-drop k (chars text)) ∙ encodes-chars text u) in
    omega (arith, ap length whole, length-append (encode_utf8_all (take k (chars text))) (encode_utf8_all (drop k (chars text))))
