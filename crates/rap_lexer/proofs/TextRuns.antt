-- Runs of characters that only ASCII characters end, as bytes.
use lib.Utf8.{scalar, scalars, encode}
use Rattle.std.proofs.Common.{◌≡◌, ℕ, suc, Bool, true, false, List, [], ◌∷◌, ◌++◌, ◌<◌, ◌&&◌, get_or, length, drop, chars, encode_utf8_all, IsUtf8, IsCharBoundary, if◌then◌else◌, refl, ap, sym, ◌∙◌, arith, append-nil}
use Rattle.std.proofs.lemmas.Str.{chars_from_encodes, encodes-chars, encode_ascii, inside_one, IsCharBoundary-at_seam}
use Rattle.rap_lexer.specs.Run.{run_of, after_run}
use Rattle.rap_lexer.proofs.Runs.{run_of-after_run, after_drop}

both_true : (x y : Bool) → (x && y) ≡ true → (x ≡ true) × (y ≡ true)
both_true true true e = (refl, refl)
both_true true false e = cc
both_true false y e = cc

module _ (p : ℕ → Bool) (outside : (c : ℕ) → p c ≡ false → c < 128) where
  -- each byte of a character of the run is of the run
  passes : (c : ℕ) → p c ≡ true → (k : ℕ) → k < length (encode c) → p (get_or (encode c) k 0) ≡ true
  passes c h k l =
      let b = get_or (encode c) k 0 in
      (elim (p b) as (λ z. p b ≡ z → z ≡ true) [
        | true ↦ λ f. refl
        | false ↦ λ f. let e : c ≡ b = inside_one c [] (encode c) k (sym (append-nil (encode c))) l (outside b f) in sym f ∙ (ap p (sym e) ∙ h)
      ]) refl

  past_all : (xs ys : List ℕ) → ((k : ℕ) → k < length xs → p (get_or xs k 0) ≡ true) → after_run p (xs ++ ys) ≡ after_run p ys
  past_all [] ys h = refl
  past_all (x ∷ xs) ys h = rw (h 0 (omega arith)) (past_all xs ys (λ k l. h (suc k) (omega arith)))

  pub after_encodes : (cs : List ℕ) → after_run p (encode_utf8_all cs) ≡ encode_utf8_all (after_run p cs)
  after_encodes [] = refl
  after_encodes (c ∷ cs) =
      (elim (p c) as (λ z. p c ≡ z → after_run p (encode c ++ encode_utf8_all cs) ≡ encode_utf8_all (if z then after_run p cs else (c ∷ cs))) [
        | true ↦ λ h. past_all (encode c) (encode_utf8_all cs) (passes c h) ∙ after_encodes cs
        | false ↦ λ h. rw (encode_ascii c (outside c h)) (rw h refl)
      ]) refl

  scalars_after : (cs : List ℕ) → scalars cs ≡ true → scalars (after_run p cs) ≡ true
  scalars_after [] s = s
  scalars_after (c ∷ cs) s =
      elim (p c) as (λ z. scalars (if z then after_run p cs else (c ∷ cs)) ≡ true) [
        | true ↦ scalars_after cs (both_true (scalar c) (scalars cs) s).1
        | false ↦ s
      ]

  pub utf8_after : (bs : List ℕ) → IsUtf8 bs → IsUtf8 (after_run p bs)
  utf8_after bs u = (after_run p u.0, (scalars_after u.0 u.1.0, sym (after_encodes u.0) ∙ ap (after_run p) u.1.1))

  -- a character begins past the run, or the text ends there
  pub border : (bs : List ℕ) → IsUtf8 bs → IsCharBoundary bs (length (run_of p bs))
  border bs u = IsCharBoundary-at_seam bs (run_of p bs) (after_run p bs) (sym (run_of-after_run p bs)) (utf8_after bs u)

  -- the characters past the run of bytes are those past the run of characters
  pub chars_after : (bs : List ℕ) → IsUtf8 bs → chars (drop (length (run_of p bs)) bs) ≡ after_run p (chars bs)
  chars_after bs u =
      let e = ap (after_run p) (encodes-chars bs u) in
      rw (after_drop p bs) (sym (chars_from_encodes (after_run p (chars bs)) (after_run p bs) (utf8_after bs u) (sym (after_encodes (chars bs)) ∙ e)))
