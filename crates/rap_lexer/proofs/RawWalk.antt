-- A raw string as a walk over its characters: it ends at the first place that closes it.
use Rattle.std.proofs.Common.{◌≡◌, ◌≢◌, ℕ, suc, Bool, true, false, List, [], ◌∷◌, ◌++◌, length, length-append, replicate, refl, ap, arith}
use Rattle.std.specs.Str.{byte}
use Rattle.rap_lexer.specs.Quoted.{ClosesRaw, RawRun}
use Rattle.rap_lexer.specs.Quoted.RawRun.{closes_at, runs_on}

-- past the opening quote: whether it is closed, by a quote and `n` of `#`, and what follows it
pub data RawWalk (n : ℕ) : List ℕ → Bool → List ℕ → Type 0 where
  end : RawWalk n [] false []
  close : (cs rest : List ℕ) → cs ≡ byte "\"" ∷ (replicate n (byte "#") ++ rest) → RawWalk n cs true rest
  other : (c : ℕ) (cs : List ℕ) (closed : Bool) (rest : List ℕ) → ((end : List ℕ) → c ∷ cs ≢ byte "\"" ∷ (replicate n (byte "#") ++ end)) → RawWalk n cs closed rest → RawWalk n (c ∷ cs) closed rest

-- one character more before the place
further : (n c : ℕ) (cs : List ℕ) (place : ℕ) (rest : List ℕ) → ClosesRaw n cs place rest → ClosesRaw n (c ∷ cs) (suc place) rest
further n c cs place rest k = record { prefix = c ∷ k.prefix; split = ap (λ l. c ∷ l) k.split; size = ap suc k.size }

at_beginning : (n : ℕ) (cs rest : List ℕ) → cs ≡ byte "\"" ∷ (replicate n (byte "#") ++ rest) → ClosesRaw n cs 0 rest
at_beginning n cs rest e = record { prefix = []; split = e; size = refl }

nothing : (n place : ℕ) (rest : List ℕ) → ClosesRaw n [] place rest → ⊥
nothing n place rest k = omega (arith, ap length k.split, length-append k.prefix (byte "\"" ∷ (replicate n (byte "#") ++ rest)))

-- a place past the first character
nearer : (n c : ℕ) (cs : List ℕ) (place : ℕ) (rest : List ℕ) → ((end : List ℕ) → c ∷ cs ≢ byte "\"" ∷ (replicate n (byte "#") ++ end)) → ClosesRaw n (c ∷ cs) place rest → (p : ℕ) × (place ≡ suc p) × ClosesRaw n cs p rest
nearer n c cs place rest none k = by_prefix k.prefix k.split k.size
  where
    by_prefix : (prefix : List ℕ) → c ∷ cs ≡ prefix ++ byte "\"" ∷ (replicate n (byte "#") ++ rest) → place ≡ length prefix → (p : ℕ) × (place ≡ suc p) × ClosesRaw n cs p rest
    by_prefix [] e s = absurd (none rest e)
    by_prefix (x ∷ prefix) e s = let f : cs ≡ prefix ++ byte "\"" ∷ (replicate n (byte "#") ++ rest) = cc in (length prefix, s, record { prefix = prefix; split = f; size = refl })

-- the same with one character more, which closes nothing
next : (n c : ℕ) (cs : List ℕ) (closed : Bool) (rest : List ℕ) → ((end : List ℕ) → c ∷ cs ≢ byte "\"" ∷ (replicate n (byte "#") ++ end)) → RawRun n cs closed rest → RawRun n (c ∷ cs) closed rest
next n c cs _ _ none (closes_at place rest k first) =
    closes_at (suc place) rest (further n c cs place rest k) (λ p after h. let m = nearer n c cs p after none h in omega (arith, m.1, first m.0 after m.2))
next n c cs _ _ none (runs_on h) = runs_on (λ p after k. let m = nearer n c cs p after none k in h m.0 after m.2)

pub to_run : (n : ℕ) (cs : List ℕ) (closed : Bool) (rest : List ℕ) → RawWalk n cs closed rest → RawRun n cs closed rest
to_run n _ _ _ end = runs_on (nothing n)
to_run n _ _ _ (close cs rest e) = closes_at 0 rest (at_beginning n cs rest e) (λ p after k. omega arith)
to_run n _ _ _ (other c cs closed rest none w) = next n c cs closed rest none (to_run n cs closed rest w)
