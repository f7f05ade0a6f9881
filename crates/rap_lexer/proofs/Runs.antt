-- Runs of characters that pass a test.
use Rattle.std.proofs.Common.{◌≡◌, ℕ, Bool, true, false, not, List, [], ◌∷◌, ◌++◌, zero, suc, ◌+◌, ◌<◌, ◌≤◌, length, drop, get_or, Option, Some, None, unwrap_or, slice_get, if◌then◌else◌, refl, ap, sym, ◌∙◌, arith}
use Rattle.std.proofs.Math.Seq.{drop-append_seam}
use Rattle.memchr.specs.Find.{IsFirstByte}
use Rattle.rap_lexer.specs.Run.{tail, run_of, after_run}

-- a run ends before a character that fails the test
pub stops : (p : ℕ → Bool) (cs : List ℕ) (c : ℕ) → slice_get cs 0 ≡ Some c → p c ≡ false → after_run p cs ≡ cs
stops p [] c e h = cc
stops p (d ∷ cs) c e h = let f : p d ≡ false = cc in rw f refl

-- a run ends where the text ends
pub ends : (p : ℕ → Bool) (cs : List ℕ) → slice_get cs 0 ≡ None → after_run p cs ≡ cs
ends p [] e = refl
ends p (d ∷ cs) e = cc

-- a text is its run and what follows it
pub run_of-after_run : (p : ℕ → Bool) (cs : List ℕ) → run_of p cs ++ after_run p cs ≡ cs
run_of-after_run p [] = refl
run_of-after_run p (c ∷ cs) =
    elim (p c) as (λ b. (if b then c ∷ run_of p cs else []) ++ (if b then after_run p cs else (c ∷ cs)) ≡ c ∷ cs) [
      | true ↦ ap (λ x. c ∷ x) (run_of-after_run p cs)
      | false ↦ refl
    ]

-- a character, its run, and what follows
pub run_prefix : (p : ℕ → Bool) (c : ℕ) (cs rest : List ℕ) → rest ≡ after_run p cs → c ∷ cs ≡ (c ∷ run_of p cs) ++ rest
run_prefix p c cs rest e = ap (λ x. c ∷ x) (sym (ap (λ x. run_of p cs ++ x) e ∙ run_of-after_run p cs))

-- as many elements as the run has stand before what follows it
pub after_drop : (q : ℕ → Bool) (bs : List ℕ) → drop (length (run_of q bs)) bs ≡ after_run q bs
after_drop q bs = ap (λ x. drop (length (run_of q bs)) x) (sym (run_of-after_run q bs)) ∙ drop-append_seam (run_of q bs) (after_run q bs)

is_false : (b : Bool) → ¬ (b ≡ true) → b ≡ false
is_false true h = absurd (h refl)
is_false false h = refl

-- a run is as long as elements pass before the first that does not
pub run_length : (p : ℕ → Bool) (xs : List ℕ) (n : ℕ) → n ≤ length xs → ((k : ℕ) → k < n → p (get_or xs k 0) ≡ true) → (n < length xs → p (get_or xs n 0) ≡ false) → n ≡ length (run_of p xs)
run_length p [] n w h e = omega arith
run_length p (x ∷ xs) zero w h e = let f : p x ≡ false = e (omega arith) in rw f refl
run_length p (x ∷ xs) (suc n) w h e =
    let f : p x ≡ true = h 0 (omega arith) in
    let g : n ≡ length (run_of p xs) = run_length p xs n (omega arith) (λ k l. h (suc k) (omega arith)) (λ l. e (omega arith)) in
    rw f (omega (arith, g))

-- a run ends at the first byte that passes the opposite test
pub first_run : (p test : ℕ → Bool) (bs : List ℕ) (r : Option ℕ) → ((b : ℕ) → p b ≡ not (test b)) → IsFirstByte test bs r → unwrap_or r (length bs) ≡ length (run_of p bs)
first_run p test bs None same none = run_length p bs (length bs) (omega arith) (λ k l. same (get_or bs k 0) ∙ ap not (is_false (test (get_or bs k 0)) (none k (omega arith) l))) (λ l. absurd (omega (arith, l)))
first_run p test bs (Some n) same h = run_length p bs n (omega (arith, h.0.high)) (λ k l. same (get_or bs k 0) ∙ ap not (is_false (test (get_or bs k 0)) (h.0.before k (omega arith) l))) (λ l. same (get_or bs n 0) ∙ ap not h.1)

-- what follows a run is no longer than the text
pub after_length : (p : ℕ → Bool) (cs : List ℕ) → length (after_run p cs) ≤ length cs
after_length p [] = omega arith
after_length p (c ∷ cs) =
    elim (p c) as (λ z. length (if z then after_run p cs else (c ∷ cs)) ≤ length (c ∷ cs)) [
      | true ↦ omega (arith, after_length p cs)
      | false ↦ omega arith
    ]

pub tail_length : (cs : List ℕ) → length (tail cs) ≤ length cs
tail_length [] = omega arith
tail_length (c ∷ cs) = omega arith

-- a run whose first n elements pass goes on past them
pub run_past : (p : ℕ → Bool) (xs : List ℕ) (n : ℕ) → n ≤ length xs → ((k : ℕ) → k < n → p (get_or xs k 0) ≡ true) → n + length (run_of p (drop n xs)) ≡ length (run_of p xs)
run_past p xs zero w h = omega arith
run_past p [] (suc n) w h = absurd (omega arith)
run_past p (x ∷ xs) (suc n) w h =
    let f : p x ≡ true = h 0 (omega arith) in
    let g : n + length (run_of p (drop n xs)) ≡ length (run_of p xs) = run_past p xs n (omega arith) (λ k l. h (suc k) (omega arith)) in
    rw f (omega (arith, g))

-- a run is no longer than the text
pub run_within : (p : ℕ → Bool) (cs : List ℕ) → length (run_of p cs) ≤ length cs
run_within p [] = omega arith
run_within p (c ∷ cs) =
    elim (p c) as (λ z. length (if z then c ∷ run_of p cs else []) ≤ length (c ∷ cs)) [
      | true ↦ omega (arith, run_within p cs)
      | false ↦ omega arith
    ]
