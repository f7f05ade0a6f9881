-- White space in ASCII ends before a byte with which no white space begins.
use lib.Utf8.{encode}
use Rattle.std.proofs.Common.{◌≡◌, ◌<◌, ◌≤◌, ℕ, true, false, ◌&&◌, ◌==◌, nat_le, List, [], ◌∷◌, ◌++◌, length, drop, get_or, chars, encode_utf8_all, IsUtf8, refl, ap, sym, ◌∙◌, inl, inr, arith, append-nil}
use Rattle.std.proofs.lemmas.Bool.{cases_lt, lt-ltb, true≢false}
use Rattle.std.proofs.lemmas.Bool.Decides.{eqb_tells}
use Rattle.std.proofs.lemmas.Str.{encode_ascii, encodes-chars, length-le-encodes}
use Rattle.rap_base.specs.Char.{is_rust_whitespace}
use Rattle.rap_lexer.specs.Class.{is_in, is_ascii_in}
use Rattle.rap_lexer.specs.Common.{begins_white, next_fits}
use Rattle.rap_lexer.specs.Run.{run_of, after_run}
use Rattle.rap_lexer.specs.declared.lexer.run.Class.TheVariants.{White}
use Rattle.rap_lexer.proofs.AsciiRuns.{after_head, run_ascii, stopped_by, utf8_rest}
use Rattle.rap_lexer.proofs.Runs.{run_of-after_run}

first_of : (bs rest : List ℕ) (b : ℕ) (t : List ℕ) → 0 < length bs → bs ++ rest ≡ b ∷ t → get_or bs 0 0 ≡ b
first_of [] rest b t l e = absurd (omega (arith, l))
first_of (x ∷ bs) rest b t l e = ap (λ xs. get_or xs 0 0) e

some_bytes : (x : ℕ) → 0 < length (encode x)
some_bytes x = omega (arith, length-le-encodes (x ∷ []), ap length (append-nil (encode x)))

-- the first byte of white space past ASCII
first_byte : (x : ℕ) → 128 ≤ x → is_rust_whitespace x ≡ true → begins_white (get_or (encode x) 0 0) ≡ true
unfolding encode
first_byte x l h =
    elim (eqb_tells x 0x85) [
      | inl e ↦ ap (λ y. begins_white (get_or (encode y) 0 0)) e.1
      | inr a ↦ elim (eqb_tells x 0x200e) [
        | inl e ↦ ap (λ y. begins_white (get_or (encode y) 0 0)) e.1
        | inr b ↦ elim (eqb_tells x 0x200f) [
          | inl e ↦ ap (λ y. begins_white (get_or (encode y) 0 0)) e.1
          | inr c ↦ elim (eqb_tells x 0x2028) [
            | inl e ↦ ap (λ y. begins_white (get_or (encode y) 0 0)) e.1
            | inr d ↦ elim (eqb_tells x 0x2029) [
              | inl e ↦ ap (λ y. begins_white (get_or (encode y) 0 0)) e.1
              | inr f ↦
                  let high : (nat_le 0x9 x && nat_le x 0xd) ≡ false = grind (arith, l) in
                  let space : (x == 0x20) ≡ false = grind (arith, l) in
                  absurd (true≢false (sym (rw (high, space, a.0, b.0, c.0, d.0, f.0) at h)))
            ]
          ]
        ]
      ]
    ]

-- a character that no such byte begins is no white space past ASCII
no_white : (x b : ℕ) (xs t : List ℕ) → encode_utf8_all (x ∷ xs) ≡ b ∷ t → is_ascii_in White b ≡ false → begins_white b ≡ false → is_in White x ≡ false
no_white x b xs t e a w =
    let head : get_or (encode x) 0 0 ≡ b = first_of (encode x) (encode_utf8_all xs) b t (some_bytes x) e in
    elim (cases_lt x 128) [
      | inl l ↦
          let same : x ≡ b = sym (ap (λ bs. get_or bs 0 0) (encode_ascii x l)) ∙ head in
          sym (ap (λ y. y && is_in White x) (lt-ltb x 128 l)) ∙ (ap (is_ascii_in White) same ∙ a)
      | inr l ↦
          (elim (is_in White x) as (λ z. is_in White x ≡ z → z ≡ false) [
            | true ↦ λ h. sym (first_byte x l h) ∙ (ap begins_white head ∙ w)
            | false ↦ λ h. refl
          ]) refl
    ]

stops_here : (ys cs : List ℕ) → ((b : ℕ) (t : List ℕ) → ys ≡ b ∷ t → is_ascii_in White b ≡ false) → next_fits begins_white ys ≡ false → encode_utf8_all cs ≡ ys → cs ≡ after_run (is_in White) cs
stops_here ys [] a w e = refl
stops_here [] (x ∷ xs) a w e = let none : length (encode_utf8_all (x ∷ xs)) ≡ 0 = ap length e in absurd (omega (arith, none, length-le-encodes (x ∷ xs)))
stops_here (b ∷ t) (x ∷ xs) a w e = rw (no_white x b xs t e (a b t refl) w) refl

-- The ASCII white space that the text begins with is all, unless such a byte follows.
pub white_ends : (bs : List ℕ) → IsUtf8 bs → next_fits begins_white (after_run (is_ascii_in White) bs) ≡ false → chars (drop (length (run_of (is_ascii_in White) bs)) bs) ≡ after_run (is_in White) (chars bs)
white_ends bs u h =
    let q = is_ascii_in White in
    let v : IsUtf8 (after_run q bs) = utf8_rest (run_of q bs) (after_run q bs) (run_ascii White bs) (rw (sym (run_of-after_run q bs)) at u) in
    stopped_by White bs u (stops_here (after_run q bs) (chars (after_run q bs)) (after_head q bs) h (encodes-chars (after_run q bs) v))
