-- Bare characters in a literal's body: printing ASCII that is neither a `'` nor a backslash.
use Rattle.std.proofs.Common.{◌≡◌, ◌≢◌, ◌<◌, ◌≤◌, ℕ, Bool, true, false, ◌==◌, not, nat_lt, List, [], ◌∷◌, ◌++◌, Ok, if◌then◌else◌, length, length-append, refl, ap, subst, arith}
use Rattle.std.specs.Prelude.{nat_le}
use Rattle.std.proofs.lemmas.Bool.{and_parts, eqb-false, leb-true}
use Rattle.rap_lexer.specs.Escape.{plain_character, reported, Character, StringReports}
use Rattle.rap_lexer.specs.Escape.Character.{plain}
use Rattle.rap_lexer.specs.Escape.StringReports.{next}
use Rattle.rap_lexer.specs.PlainLiteral.{is_bare}
use Rattle.rap_lexer.specs.Run.{run_of}
use Rattle.rap_lexer.specs.declared.escape.Fault.{Fault}
use Rattle.rap_lexer.specs.declared.escape.Mode.{Mode}
use Rattle.rap_lexer.specs.declared.escape.Mode.TheVariants.{Char, Byte, Str, ByteStr, CStr}

-- what a bare character is
pub record Bare (c : ℕ) : Type 0 where
  pub low : 32 ≤ c
  pub high : c ≤ 126
  pub quote : (c == 39) ≡ false
  pub backslash : (c == 92) ≡ false

is_not : (x : Bool) → not x ≡ true → x ≡ false
is_not true e = cc
is_not false e = refl

pub bare : (c : ℕ) → is_bare c ≡ true → Bare c
bare c b =
    let printing = and_parts (nat_le 32 c) _ b in
    let small = and_parts (nat_le c 126) _ printing.1 in
    let parts = and_parts (not (c == 39)) (not (c == 92)) small.1 in
    record {
      low = leb-true 32 c printing.0;
      high = leb-true c 126 small.0;
      quote = is_not (c == 39) parts.0;
      backslash = is_not (c == 92) parts.1;
    }

pub bare_ascii : (c : ℕ) → is_bare c ≡ true → c < 128
bare_ascii c b = omega (arith, (bare c b).high)

-- it stands for itself, and nothing is reported about it
stands : (mode : Mode) (c : ℕ) → Bare c → plain_character mode c ≡ Ok c
stands mode c b =
    let feed : (c == 10) ≡ false = grind (arith, b.low) in
    let tab : (c == 9) ≡ false = grind (arith, b.low) in
    let ascii : nat_lt 127 c ≡ false = grind (arith, b.high) in
    by mode feed tab ascii
  where
    by : (mode : Mode) → (c == 10) ≡ false → (c == 9) ≡ false → nat_lt 127 c ≡ false → plain_character mode c ≡ Ok c
    by Char f t a = rw (f, t, b.quote) refl
    by Byte f t a = rw (f, t, b.quote, a) refl
    by Str f t a = refl
    by ByteStr f t a = rw a refl
    by CStr f t a = refl

unreported : (mode : Mode) (c : ℕ) → 32 ≤ c → reported mode (Ok c) ≡ []
unreported Char c l = refl
unreported Byte c l = refl
unreported Str c l = refl
unreported ByteStr c l = refl
unreported CStr c l = let some : (c == 0) ≡ false = grind (arith, l) in rw some refl

pub past_bare : (mode : Mode) (bs ys : List ℕ) (faults : List Fault) → StringReports mode ys faults → StringReports mode (run_of is_bare bs ++ ys) faults
past_bare mode [] ys faults t = t
past_bare mode (c ∷ bs) ys faults t =
    (elim (is_bare c) as (λ z. is_bare c ≡ z → StringReports mode ((if z then c ∷ run_of is_bare bs else []) ++ ys) faults) [
      | true ↦ λ h. passed (bare c h) (past_bare mode bs ys faults t)
      | false ↦ λ h. t
    ]) refl
  where
    passed : Bare c → StringReports mode (run_of is_bare bs ++ ys) faults → StringReports mode (c ∷ (run_of is_bare bs ++ ys)) faults
    passed b later =
        let rest : List ℕ = run_of is_bare bs ++ ys in
        let other : c ≢ 92 = eqb-false c 92 b.backslash in
        let read : Character mode (c ∷ rest) (Ok c) rest = subst (λ o. Character mode (c ∷ rest) o rest) (stands mode c b) (plain c rest other) in
        let more : StringReports mode (c ∷ rest) (reported mode (Ok c) ++ faults) = next (c ∷ rest) (Ok c) rest faults (λ left k. let l : c ≡ 92 = cc in other l) read later in
        subst (λ own. StringReports mode (c ∷ rest) (own ++ faults)) (unreported mode c b.low) more

-- what a text reports past its bare characters it reports from its beginning
pub past_run : (mode : Mode) (old bs new : List ℕ) → old ≡ run_of is_bare bs ++ new → (faults : List Fault) → StringReports mode new faults → StringReports mode old faults
past_run mode old bs new e faults t = rw e (past_bare mode bs new faults t)

pub bare_smaller : (old bs new : List ℕ) → old ≡ run_of is_bare bs ++ new → length new ≤ length old
bare_smaller old bs new e = omega (arith, ap length e, length-append (run_of is_bare bs) new)
