-- The numbers of the tokens that are contextual keywords, noted one by one.
use Rattle.std.proofs.Common.{◌≡◌, ◌≢◌, ℕ, zero, suc, Bool, true, false, ◌+◌, ◌-◌, ◌<◌, ◌≤◌, List, [], ◌∷◌, ◌++◌, length, refl, ap, sym, ◌∙◌, subst, inl, inr, arith, eq-eqb}
use Rattle.std.specs.Prelude.{Option, None, Some}
use Rattle.std.proofs.lemmas.Bool.{true≢false}
use Rattle.std.proofs.lemmas.Bool.Decides.{eqb_tells}
use Rattle.rap_lexed.specs.Contextual.{is_contextual_token, noted, past, past_first, ArePlain, AreNoted}
use Rattle.rap_lexed.specs.Header.{header_kinds}
use Rattle.rap_lexed.specs.LexedStr.{Token}
use Rattle.rap_lexed.proofs.Cuts.{piece}
use Rattle.rap_lexed.proofs.Upto.{last_or}

module _ (f g : ℕ → Token) (count : ℕ) (same : (i : ℕ) → i < count → f i ≡ g i) where
  plain-same : (low high : ℕ) → high ≤ count → ArePlain f low high → ArePlain g low high
  plain-same low high h p = λ i l m. ap is_contextual_token (sym (same i (omega arith))) ∙ p i l m

  -- the same of tokens that are the same
  pub noted-same : (from : ℕ) (ns : List ℕ) → AreNoted f from count ns → AreNoted g from count ns
  noted-same from [] h = (h.0, plain-same from count (omega arith) h.1)
  noted-same from (n ∷ ns) h = (h.0, h.1, plain-same from n (omega (arith, h.1)) h.2, noted-same (n + 1) ns h.3)

  module _ (plain : is_contextual_token (g count) ≡ false) where
    plain-more : (low : ℕ) → ArePlain f low count → ArePlain g low (count + 1)
    plain-more low p = λ i l m.
        elim (last_or i count (omega arith)) as (λ _. is_contextual_token (g i) ≡ false) [
          | inl b ↦ plain-same low count (omega arith) p i l b
          | inr e ↦ subst (λ (j : ℕ). is_contextual_token (g j) ≡ false) (sym e) plain
        ]

    -- one token more, which is none
    noted-plain : (from : ℕ) (ns : List ℕ) → AreNoted f from count ns → AreNoted g from (count + 1) ns
    noted-plain from [] h = (omega (arith, h.0), plain-more from h.1)
    noted-plain from (n ∷ ns) h = (h.0, omega (arith, h.1), plain-same from n (omega (arith, h.1)) h.2, noted-plain (n + 1) ns h.3)

  -- one token more, with its number
  noted-one : (from : ℕ) (ns : List ℕ) → AreNoted f from count ns → AreNoted g from (count + 1) (ns ++ count ∷ [])
  noted-one from [] h = (h.0, omega arith, plain-same from count (omega arith) h.1, (omega arith, λ i l m. absurd (omega arith)))
  noted-one from (n ∷ ns) h = (h.0, omega (arith, h.1), plain-same from n (omega (arith, h.1)) h.2, noted-one (n + 1) ns h.3)

  pub noted-more : (ns : List ℕ) (is_one : Bool) → is_contextual_token (g count) ≡ is_one → AreNoted f 0 count ns → AreNoted g 0 (count + 1) (noted ns count is_one)
  noted-more ns true e h = noted-one 0 ns h
  noted-more ns false e h = noted-plain e 0 ns h

header-plain : (text ss : List ℕ) (shebang frontmatter : Option ℕ) (i : ℕ) → i < length (header_kinds shebang frontmatter) → is_contextual_token (piece text (header_kinds shebang frontmatter) ss i) ≡ false
header-plain text ss None None i h = absurd (omega arith)
header-plain text ss (Some a) None zero h = refl
header-plain text ss (Some a) None (suc i) h = absurd (omega arith)
header-plain text ss None (Some b) zero h = refl
header-plain text ss None (Some b) (suc i) h = absurd (omega arith)
header-plain text ss (Some a) (Some b) zero h = refl
header-plain text ss (Some a) (Some b) (suc zero) h = refl
header-plain text ss (Some a) (Some b) (suc (suc i)) h = absurd (omega arith)

-- no piece of the script source is one
pub header-noted : (text ks ss ns : List ℕ) (shebang frontmatter : Option ℕ) → ks ≡ header_kinds shebang frontmatter → ns ≡ [] → AreNoted (piece text ks ss) 0 (length ks) ns
header-noted text ks ss ns shebang frontmatter e f =
    let begun : AreNoted (piece text (header_kinds shebang frontmatter) ss) 0 (length (header_kinds shebang frontmatter)) [] = (omega arith, λ i l h. header-plain text ss shebang frontmatter i h) in
    rw (e, f) begun

module _ (token : ℕ → Token) (count : ℕ) where
  -- no token before the next number is one
  pub noted-next : (from : ℕ) (ns : List ℕ) → AreNoted token from count ns → (from ≤ past_first ns count) × (past_first ns count ≤ count) × ArePlain token from (past_first ns count - 1)
  noted-next from [] h = (h.0, omega arith, λ i l m. h.1 i l (omega arith))
  noted-next from (n ∷ ns) h = (omega (arith, h.0), omega (arith, h.1), λ i l m. h.2 i l (omega arith))

  -- the same from a later token on, which is not past the next number
  pub noted-later : (from to : ℕ) (ns : List ℕ) → AreNoted token from count ns → from ≤ to → to ≤ past_first ns count → (from < past_first ns count → to < past_first ns count) → AreNoted token to count ns
  noted-later from to [] h l m s = (m, λ i k j. h.1 i (omega arith) j)
  noted-later from to (n ∷ ns) h l m s = (let below : to < n + 1 = s (omega (arith, h.0)) in omega (arith, below), h.1, λ i k j. h.2 i (omega arith) j, h.3)

  -- the same past one token
  pub noted-past : (from : ℕ) (ns : List ℕ) → AreNoted token from count ns → from < count → AreNoted token (from + 1) count (past ns from)
  noted-past from [] h l = (omega arith, λ i k j. h.1 i (omega arith) j)
  noted-past from (n ∷ ns) h l =
      elim (eqb_tells n from) as (λ _. AreNoted token (from + 1) count (past (n ∷ ns) from)) [
        | inl e ↦ rw e.0 (subst (λ (k : ℕ). AreNoted token (k + 1) count ns) e.1 h.3)
        | inr e ↦
            let differs : n ≢ from = λ s. true≢false (sym (eq-eqb n from s) ∙ e.0) in
            rw e.0 (omega (arith, h.0, differs), h.1, λ i k j. h.2 i (omega arith) j, h.3)
      ]

  -- past one token, with the numbers that are left: no token before the next of these is one
  pub record Turn (from end : ℕ) (ns : List ℕ) : Type 0 where
    pub rising : from ≤ end
    pub within : end ≤ count
    pub plain : ArePlain token from (end - 1)
    pub later : (to : ℕ) → from ≤ to → to ≤ end → (from < end → to < end) → AreNoted token to count ns

  pub turn : (from end : ℕ) (ns ms : List ℕ) → AreNoted token from count ns → from < count → ms ≡ past ns from → end ≡ past_first ms count → Turn (from + 1) end ms
  turn from end ns ms h l e f =
      let rest : AreNoted token (from + 1) count ms = subst (λ (ls : List ℕ). AreNoted token (from + 1) count ls) (sym e) (noted-past from ns h l) in
      let next = noted-next (from + 1) ms rest in
      record {
        rising = omega (arith, next.0, f);
        within = omega (arith, next.1, f);
        plain = subst (λ (n : ℕ). ArePlain token (from + 1) (n - 1)) (sym f) next.2;
        later = λ to k m s. noted-later (from + 1) to ms rest k (omega (arith, m, f)) (λ b. let below : to < end = s (omega (arith, b, f)) in omega (arith, below, f));
      }
