-- Runs of ASCII characters of a class, as bytes.
use Rattle.std.proofs.Common.{◌≡◌, ℕ, Bool, true, false, List, [], ◌∷◌, ◌++◌, ◌+◌, ◌<◌, ◌&&◌, nat_lt, get_or, length, drop, chars, IsUtf8, IsAscii, IsCharBoundary, if◌then◌else◌, refl, ap, sym, ◌∙◌, arith, ltb-true, lt-ltb}
use Rattle.std.proofs.lemmas.Str.{chars-append, chars-IsAscii, chars-nil, chars_past_char, encode_ascii, IsUtf8-from_ascii, IsUtf8-past_char, IsAscii-drop, IsCharBoundary-at_seam}
use Rattle.std.proofs.lemmas.List.{get_or-drop}
use Rattle.std.proofs.lemmas.Str.Ascii.{IsAscii-nil, IsAscii-cons}
use Rattle.rap_lexer.specs.Class.{is_in, is_ascii_in}
use Rattle.rap_lexer.specs.Run.{run_of, after_run}
use Rattle.rap_lexer.specs.declared.lexer.run.Class.{Class}
use Rattle.rap_lexer.proofs.Runs.{run_of-after_run, after_drop}

first_true : (x y : Bool) → (x && y) ≡ true → x ≡ true
first_true true y h = refl
first_true false y h = cc

second_true : (x y : Bool) → (x && y) ≡ true → y ≡ true
second_true true y h = h
second_true false y h = cc

not_second : (x y : Bool) → x ≡ true → (x && y) ≡ false → y ≡ false
not_second true y e h = h
not_second false y e h = cc

-- past ASCII characters the text goes on
pub utf8_rest : (xs ys : List ℕ) → IsAscii xs → IsUtf8 (xs ++ ys) → IsUtf8 ys
utf8_rest [] ys a u = u
utf8_rest (x ∷ xs) ys a u = utf8_rest xs ys (IsAscii-drop (x ∷ xs) 1 a) (IsUtf8-past_char (x ∷ (xs ++ ys)) (xs ++ ys) x u (ap (λ l. l ++ (xs ++ ys)) (sym (encode_ascii x (a 0)))))

-- what follows a run begins with nothing of it
pub after_head : (q : ℕ → Bool) (bs : List ℕ) (c : ℕ) (t : List ℕ) → after_run q bs ≡ c ∷ t → q c ≡ false
after_head q [] c t e = cc
after_head q (b ∷ bs) c t e =
    (elim (q b) as (λ z. q b ≡ z → (if z then after_run q bs else (b ∷ bs)) ≡ c ∷ t → q c ≡ false) [
      | true ↦ λ h e. after_head q bs c t e
      | false ↦ λ h e. cc
    ]) refl e

-- a run of ASCII characters that pass a test
module _ (q : ℕ → Bool) (ascii : (b : ℕ) → q b ≡ true → b < 128) where
  pub tested_ascii : (bs : List ℕ) → IsAscii (run_of q bs)
  tested_ascii [] = IsAscii-nil
  tested_ascii (b ∷ bs) =
      (elim (q b) as (λ z. q b ≡ z → IsAscii (if z then b ∷ run_of q bs else [])) [
        | true ↦ λ h. IsAscii-cons b (run_of q bs) (ascii b h) (tested_ascii bs)
        | false ↦ λ h. IsAscii-nil
      ]) refl

  -- the bytes of the run are its characters
  pub tested_spelt : (bs : List ℕ) → IsUtf8 bs → chars bs ≡ run_of q bs ++ chars (after_run q bs)
  tested_spelt bs u =
      ap chars (sym (run_of-after_run q bs))
      ∙ (chars-append (run_of q bs) (after_run q bs) (IsUtf8-from_ascii (run_of q bs) (tested_ascii bs))
      ∙ ap (λ x. x ++ chars (after_run q bs)) (chars-IsAscii (run_of q bs) (tested_ascii bs)))

  -- a character begins past the run, or the text ends there
  pub tested_border : (bs : List ℕ) → IsUtf8 bs → IsCharBoundary bs (length (run_of q bs))
  tested_border bs u =
      let e = sym (run_of-after_run q bs) in
      IsCharBoundary-at_seam bs (run_of q bs) (after_run q bs) e (utf8_rest (run_of q bs) (after_run q bs) (tested_ascii bs) (rw e at u))

module _ (class : Class) where
  abbrev p : ℕ → Bool
  p = is_in class

  abbrev q : ℕ → Bool
  q = is_ascii_in class

  q_ascii : (b : ℕ) → q b ≡ true → b < 128
  q_ascii b h = ltb-true b 128 (first_true (nat_lt b 128) (is_in class b) h)

  q_in : (b : ℕ) → q b ≡ true → p b ≡ true
  q_in b h = second_true (nat_lt b 128) (is_in class b) h

  pub run_ascii : (bs : List ℕ) → IsAscii (run_of (is_ascii_in class) bs)
  run_ascii = tested_ascii q q_ascii

  past : (bs ys : List ℕ) → after_run p (run_of q bs ++ ys) ≡ after_run p ys
  past [] ys = refl
  past (b ∷ bs) ys =
      (elim (q b) as (λ z. q b ≡ z → after_run p ((if z then b ∷ run_of q bs else []) ++ ys) ≡ after_run p ys) [
        | true ↦ λ h. rw (q_in b h) (past bs ys)
        | false ↦ λ h. refl
      ]) refl

  pub spelt : (bs : List ℕ) → IsUtf8 bs → chars bs ≡ run_of (is_ascii_in class) bs ++ chars (after_run (is_ascii_in class) bs)
  spelt = tested_spelt q q_ascii

  -- past the run the same characters are left to be taken
  pub same : (bs : List ℕ) → IsUtf8 bs → after_run (is_in class) (chars (drop (length (run_of (is_ascii_in class) bs)) bs)) ≡ after_run (is_in class) (chars bs)
  same bs u = rw (after_drop q bs) (sym (ap (after_run p) (spelt bs u) ∙ past bs (chars (after_run q bs))))

  pub border : (bs : List ℕ) → IsUtf8 bs → IsCharBoundary bs (length (run_of (is_ascii_in class) bs))
  border = tested_border q q_ascii

  -- where nothing of the class follows the run, it ends there
  pub stopped_by : (bs : List ℕ) → IsUtf8 bs → chars (after_run (is_ascii_in class) bs) ≡ after_run (is_in class) (chars (after_run (is_ascii_in class) bs)) → chars (drop (length (run_of (is_ascii_in class) bs)) bs) ≡ after_run (is_in class) (chars bs)
  stopped_by bs u g = rw (after_drop q bs) (g ∙ (ap (λ x. after_run p (chars x)) (sym (after_drop q bs)) ∙ same bs u))

  stopped_at : (ys : List ℕ) → IsUtf8 ys → ((c : ℕ) (t : List ℕ) → ys ≡ c ∷ t → q c ≡ false) → get_or ys 0 0 < 128 → chars ys ≡ after_run p (chars ys)
  stopped_at [] u h low = rw chars-nil refl
  stopped_at (c ∷ t) u h low =
      let e : chars (c ∷ t) ≡ c ∷ chars t = chars_past_char (c ∷ t) t c u (ap (λ x. x ++ t) (sym (encode_ascii c low))) in
      let f : p c ≡ false = not_second (nat_lt c 128) (p c) (lt-ltb c 128 low) (h c t refl) in
      rw e (rw f refl)

  -- the character past the run, if it is ASCII or there is none, is not of the class
  pub stopped : (bs : List ℕ) → IsUtf8 bs → get_or bs (length (run_of (is_ascii_in class) bs)) 0 < 128 → chars (drop (length (run_of (is_ascii_in class) bs)) bs) ≡ after_run (is_in class) (chars bs)
  stopped bs u low =
      let n = length (run_of q bs) in
      let e = sym (run_of-after_run q bs) in
      let v : IsUtf8 (after_run q bs) = utf8_rest (run_of q bs) (after_run q bs) (run_ascii bs) (rw e at u) in
      let z : n + 0 ≡ n = omega arith in
      let f : get_or (after_run q bs) 0 0 ≡ get_or bs n 0 = ap (λ x. get_or x 0 0) (sym (after_drop q bs)) ∙ (get_or-drop n bs 0 0 ∙ ap (λ k. get_or bs k 0) z) in
      stopped_by bs u (stopped_at (after_run q bs) v (after_head q bs) (omega (arith, f)))
