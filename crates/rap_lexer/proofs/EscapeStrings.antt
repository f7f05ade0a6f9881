-- How the faults of a string's body go on from one of its characters to the next.
use Rattle.std.proofs.Common.{◌≡◌, ◌≢◌, ℕ, ◌<◌, Bool, true, false, List, [], ◌∷◌, ◌++◌, ◌⊎◌, inl, inr, length, Some, Result, slice_get, nat_eq, refl, ap, ◌∙◌, arith}
use Rattle.std.proofs.lemmas.Bool.{eqb-true}
use Rattle.std.specs.Option.{option_eq}
use Rattle.rap_lexer.specs.declared.escape.Mode.{Mode}
use Rattle.rap_lexer.specs.declared.escape.Fault.{Fault}
use Rattle.rap_lexer.specs.Escape.{Character, StringReports, is_gap, reported}
use Rattle.rap_lexer.specs.Run.{after_run}
use Rattle.rap_lexer.specs.Escape.StringReports.{gap, next}
use Rattle.rap_lexer.proofs.EscapeGaps.{no_longer}

-- a line feed stands first
abbrev pub begins_line : List ℕ → Bool
begins_line cs = option_eq nat_eq (slice_get cs 0) (Some 10)

module _ (body : List ℕ) (c : ℕ) (cs : List ℕ) (e : body ≡ c ∷ cs) where
  pub is_gap_from : c ≡ 92 → begins_line cs ≡ true → (rest : List ℕ) × (body ≡ 92 ∷ 10 ∷ rest) × (cs ≡ 10 ∷ rest)
  is_gap_from f h = first cs refl h
    where
      first : (ds : List ℕ) → cs ≡ ds → begins_line ds ≡ true → (rest : List ℕ) × (body ≡ 92 ∷ 10 ∷ rest) × (cs ≡ 10 ∷ rest)
      first [] g k = cc
      first (d ∷ ds) g k =
          let l : cs ≡ 10 ∷ ds = g ∙ ap (λ x. x ∷ ds) (eqb-true d 10 k) in
          (ds, rw (e, f, l) refl, l)

  pub is_no_gap : (c ≢ 92) ⊎ (begins_line cs ≡ false) → (rest : List ℕ) → body ≢ 92 ∷ 10 ∷ rest
  is_no_gap (inl h) rest f = let g : c ≡ 92 = cc in h g
  is_no_gap (inr h) rest f = let g : cs ≡ 10 ∷ rest = cc in let k : begins_line cs ≡ true = rw g refl in cc

  module _ (mode : Mode) where
    pub past_gap : (left : List ℕ) (faults : List Fault) → c ≡ 92 → begins_line cs ≡ true → left ≡ after_run is_gap cs → StringReports mode left faults → StringReports mode body faults
    past_gap left faults f h l t =
        let r = is_gap_from f h in
        let k : StringReports mode (after_run is_gap r.0) faults = rw (l, r.2) at t in
        rw r.1 (gap r.0 faults k)

    pub past_character : (outcome : Result ℕ Fault) (left : List ℕ) (own faults : List Fault) → (c ≢ 92) ⊎ (begins_line cs ≡ false) → Character mode (c ∷ cs) outcome left → own ≡ reported mode outcome → StringReports mode left faults → StringReports mode body (own ++ faults)
    past_character outcome left own faults g k o t = rw o (next body outcome left faults (is_no_gap g) (rw e k) t)

  pub gap_smaller : (left : List ℕ) → left ≡ after_run is_gap cs → length left < length body
  gap_smaller left l = rw (e, l) (omega (arith, no_longer is_gap cs))
