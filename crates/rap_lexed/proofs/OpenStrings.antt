-- Which tokens follow a string that looks open.
use Rattle.std.proofs.Common.{◌≡◌, ◌≢◌, ◌<◌, ◌≤◌, ◌+◌, ◌&&◌, ◌==◌, ℕ, zero, suc, Bool, true, false, nat_lt, if◌then◌else◌, List, refl, sym, ap, ◌∙◌, inl, inr, arith, eq-eqb}
use Rattle.std.specs.Prelude.{◌↔◌, IsFalse, IsTrue, min}
use Rattle.std.proofs.lemmas.Bool.{and_left, and_parts, cases_eq, cond-false, cond_both, eqb-true, ltb-true, ltb-false, lt-ltb, ne_eqb}
use Rattle.rap_base.specs.TokenKind.{STRING}
use Rattle.rap_lexed.specs.LexedStr.{Token, token_at, FollowsOpen}
use Rattle.rap_lexed.specs.Reported.{looks_open}

-- a string that looks open
abbrev pub is_open : Token → Bool
is_open t = (t.kind == STRING) && looks_open t.text

-- one token more since the last string that looks open, up to 5
abbrev pub since_open_after : ℕ → ℕ → List ℕ → ℕ
since_open_after since kind text = if (kind == STRING) && looks_open text then 0 else (if nat_lt since 5 then since + 1 else 5)

-- Of the tokens that `at` gives, how many stand after the last string that looks open and before the i-th, up to 5.
abbrev pub since_open : (ℕ → Token) → ℕ → ℕ
since_open at zero = 5
since_open at (suc i) = since_open_after (since_open at i) (at i).kind (at i).text

-- such a string is among the last five tokens before the i-th
abbrev pub after_open : (ℕ → Token) → ℕ → Bool
after_open at i = nat_lt (since_open at i) 5

pub counts : (since kind : ℕ) (text : List ℕ) (result : ℕ) → (IsTrue ((kind == STRING) && looks_open text) → result ≡ 0) → (IsFalse ((kind == STRING) && looks_open text) → result ≡ min (since + 1) 5) → result ≡ since_open_after since kind text
counts since kind text result opens other = by_token ((kind == STRING) && looks_open text) opens other
  where
    by_count : result ≡ min (since + 1) 5 → (c : Bool) → nat_lt since 5 ≡ c → result ≡ (if c then since + 1 else 5)
    by_count e true f = omega (arith, e, ltb-true since 5 f)
    by_count e false f = omega (arith, e, ltb-false since 5 f)

    by_token : (b : Bool) → (IsTrue b → result ≡ 0) → (IsFalse b → result ≡ min (since + 1) 5) → result ≡ (if b then 0 else (if nat_lt since 5 then since + 1 else 5))
    by_token true opens other = opens refl
    by_token false opens other = by_count (other refl) (nat_lt since 5) refl

-- a token that is no string
pub since_other : (since kind : ℕ) (text : List ℕ) → kind ≢ STRING → since_open_after since kind text ≡ min (since + 1) 5
since_other since kind text other =
    cond-false ((kind == STRING) && looks_open text) 0 (if nat_lt since 5 then since + 1 else 5) (and_left (kind == STRING) _ (ne_eqb kind STRING other))
    ∙ cond_both (nat_lt since 5) (since + 1) 5 (λ n. n ≡ min (since + 1) 5) (λ e. omega (arith, ltb-true since 5 e)) (λ e. omega (arith, ltb-false since 5 e))

-- never more than 5
pub since_few : (at : ℕ → Token) (i : ℕ) → since_open at i ≤ 5
since_few at zero = omega arith
since_few at (suc i) =
    cond_both (is_open (at i)) 0 (if nat_lt (since_open at i) 5 then since_open at i + 1 else 5) (λ n. n ≤ 5) (λ e. omega arith)
    (λ e. cond_both (nat_lt (since_open at i) 5) (since_open at i + 1) 5 (λ n. n ≤ 5) (λ f. omega (arith, ltb-true (since_open at i) 5 f)) (λ f. omega arith))

-- where the last one stands
abbrev Last : (ℕ → Token) → ℕ → ℕ → Type 0
Last at i since = (j : ℕ) × (i ≡ j + 1 + since) × (is_open (at j) ≡ true)

last_open : (at : ℕ → Token) (i : ℕ) → since_open at i < 5 → Last at i (since_open at i)
last_open at zero h = absurd (omega arith)
last_open at (suc i) h = by_token (λ l. last_open at i l) (is_open (at i)) refl h
  where
    by_count : (since_open at i < 5 → Last at i (since_open at i)) → (c : Bool) → nat_lt (since_open at i) 5 ≡ c → (if c then since_open at i + 1 else 5) < 5 → Last at (suc i) (if c then since_open at i + 1 else 5)
    by_count before true e h = let l = before (ltb-true (since_open at i) 5 e) in (l.0, omega (arith, l.1), l.2)
    by_count before false e h = absurd (omega arith)

    by_token : (since_open at i < 5 → Last at i (since_open at i)) → (b : Bool) → is_open (at i) ≡ b → (if b then 0 else (if nat_lt (since_open at i) 5 then since_open at i + 1 else 5)) < 5 → Last at (suc i) (if b then 0 else (if nat_lt (since_open at i) 5 then since_open at i + 1 else 5))
    by_token before true e h = (i, omega arith, e)
    by_token before false e h = by_count before (nat_lt (since_open at i) 5) refl h

few_since : (at : ℕ → Token) (i j : ℕ) → j < i → is_open (at j) ≡ true → since_open at i + j + 1 ≤ i
few_since at zero j l o = absurd (omega arith)
few_since at (suc i) j l o = by_token (λ m. few_since at i j m o) (is_open (at i)) refl
  where
    by_count : since_open at i + j + 1 ≤ i → (c : Bool) → nat_lt (since_open at i) 5 ≡ c → (if c then since_open at i + 1 else 5) + j + 1 ≤ suc i
    by_count before true e = omega arith
    by_count before false e = omega (arith, ltb-false (since_open at i) 5 e)

    earlier : is_open (at i) ≡ false → j < i
    earlier e = elim (cases_eq j i) as (λ _. j < i) [
      | inl f ↦ let t = sym o ∙ (ap (λ k. is_open (at k)) f ∙ e) in cc
      | inr d ↦ omega arith
    ]

    by_token : (j < i → since_open at i + j + 1 ≤ i) → (b : Bool) → is_open (at i) ≡ b → (if b then 0 else (if nat_lt (since_open at i) 5 then since_open at i + 1 else 5)) + j + 1 ≤ suc i
    by_token before true e = omega arith
    by_token before false e = by_count (before (earlier e)) (nat_lt (since_open at i) 5) refl

pub follows : (ts : List Token) (i : ℕ) → IsTrue (after_open (token_at ts) i) ↔ FollowsOpen ts i
follows ts i = (there, back)
  where
    there : IsTrue (after_open (token_at ts) i) → FollowsOpen ts i
    there h =
        let few : since_open (token_at ts) i < 5 = ltb-true (since_open (token_at ts) i) 5 h in
        let l = last_open (token_at ts) i few in
        let parts = and_parts ((token_at ts l.0).kind == STRING) (looks_open (token_at ts l.0).text) l.2 in
        (l.0, omega (arith, l.1), omega (arith, l.1, few), eqb-true _ _ parts.0, parts.1)

    back : FollowsOpen ts i → IsTrue (after_open (token_at ts) i)
    back f =
        let kind : ((token_at ts f.0).kind == STRING) ≡ true = eq-eqb _ _ f.3 in
        let looks : looks_open (token_at ts f.0).text ≡ true = f.4 in
        let opens : is_open (token_at ts f.0) ≡ true = rw (kind, looks) refl in
        lt-ltb _ _ (omega (arith, few_since (token_at ts) i f.0 f.1 opens, f.2))

-- what two answers say of one fact is one
pub same_note : (b c : Bool) (P : Type 0) → IsTrue b ↔ P → IsTrue c ↔ P → b ≡ c
same_note true true P h k = refl
same_note true false P h k = let t = k.1 (h.0 refl) in cc
same_note false true P h k = let t = h.1 (k.0 refl) in cc
same_note false false P h k = refl
