-- How far nodes inside a node reach, and which is the innermost one around an index.
use Rattle.std.proofs.Common.{◌≡◌, ℕ, zero, suc, ◌+◌, ◌<◌, ◌≤◌, Bool, true, false, Some, refl, ap, ◌∙◌, max, arith, add-one, inl, inr}
use Rattle.std.specs.Prelude.{◌&&◌, if◌then◌else◌, nat_lt}
use Rattle.std.proofs.lemmas.Bool.{cases_lt, cond-true, cond-false, lt-ltb, le-ltb}
use Rattle.rast_answers.specs.Jumps.{is_around}
use Rattle.rast_answers.specs.Reaches.{reach}
use Rattle.rast_answers.specs.Rows.{last_below}
use Rattle.rast_answers.proofs.LastLaws.{is_last, last_is}

lt_of : (a b : ℕ) → nat_lt a b ≡ true → a < b
lt_of a b h = grind (arith, h)

and_no : (a b : Bool) → b ≡ false → (a && b) ≡ false
and_no true b h = h
and_no false b h = refl

-- an index at the node or before
pub reach_stays : (after : ℕ → ℕ) (p : ℕ → Bool) (node i : ℕ) → i ≤ node → reach after p node (i + 1) ≡ reach after p node i
reach_stays after p node i h =
    let no : (nat_lt node i && p i) ≡ false = ap (λ b. b && p i) (le-ltb node i h) in
    let none : (if nat_lt node i && p i then after i else 0) ≡ 0 = cond-false _ _ _ no in
    rw add-one (omega (arith, none))

-- and past it
pub reach_grows : (after : ℕ → ℕ) (p : ℕ → Bool) (node i r : ℕ) → node < i → r ≡ reach after p node i
    → max r (if p i then after i else 0) ≡ reach after p node (i + 1)
reach_grows after p node i r h is =
    let yes : (nat_lt node i && p i) ≡ p i = ap (λ b. b && p i) (lt-ltb node i h) in
    let same : (if nat_lt node i && p i then after i else 0) ≡ (if p i then after i else 0) =
    ap (λ b. if b then after i else 0) yes in
    rw add-one (omega (arith, is, same))

-- what a reach is over
abbrev ReachesPast : (ℕ → ℕ) → (ℕ → Bool) → ℕ → ℕ → ℕ → Type 0
ReachesPast after p node n i = (k : ℕ) → node < k → k < n → p k ≡ true → after k ≤ i

counted : (after : ℕ → ℕ) (p : ℕ → Bool) (node k : ℕ) → node < k → p k ≡ true → (if nat_lt node k && p k then after k else 0) ≡ after k
counted after p node k low h = cond-true _ _ _ (ap (λ b. b && p k) (lt-ltb node k low) ∙ h)

reach_past : (after : ℕ → ℕ) (p : ℕ → Bool) (node n i : ℕ) → reach after p node n ≤ i → ReachesPast after p node n i
reach_past after p node zero i h = λ k low high. absurd (omega (arith, high))
reach_past after p node (suc n) i h = λ k low high passes. elim (cases_lt k n) [
  | inl before ↦ reach_past after p node n i (omega (arith, h)) k low before passes
  | inr past ↦
      let same : n ≡ k = omega (arith, past, high) in
      let one : (if nat_lt node n && p n then after n else 0) ≡ after n = counted after p node n (omega (arith, low, same)) (ap p same ∙ passes) in
      let two : after n ≡ after k = ap after same in
      omega (arith, h, one, two)
]

least_of : (after : ℕ → ℕ) (node n i r : ℕ) (b : Bool) → r ≤ i → (b ≡ true → after n ≤ i) → max r (if b then after n else 0) ≤ i
least_of after node n i r true low h = omega (arith, low, h refl)
least_of after node n i r false low h = omega (arith, low)

both : (a b : Bool) → (a && b) ≡ true → (a ≡ true) × (b ≡ true)
both true b h = (refl, h)
both false b h = absurd cc

past_reach : (after : ℕ → ℕ) (p : ℕ → Bool) (node n i : ℕ) → ReachesPast after p node n i → reach after p node n ≤ i
past_reach after p node zero i h = omega arith
past_reach after p node (suc n) i h =
    least_of after node n i (reach after p node n) (nat_lt node n && p n)
    (past_reach after p node n i (λ k low high passes. h k low (omega (arith, high)) passes))
    (λ e. let t = both (nat_lt node n) (p n) e in h n (lt_of node n t.0) (omega arith) t.1)

-- the innermost node around an index
pub record IsInnermost (after : ℕ → ℕ) (p : ℕ → Bool) (i node : ℕ) : Type 0 where
  pub begins : node < i
  pub ends : i < after node
  pub passes : p node ≡ true
  pub none : reach after p node i ≤ i

not_around : (after : ℕ → ℕ) (p : ℕ → Bool) (i k : ℕ) (b : Bool) → p k ≡ b → (b ≡ true → after k ≤ i) → is_around after p i k ≡ false
not_around after p i k true e h = ap (λ b. b && p k) (le-ltb i (after k) (h refl))
not_around after p i k false e h = and_no (nat_lt i (after k)) (p k) e

pub innermost_is : (after : ℕ → ℕ) (p : ℕ → Bool) (i node : ℕ) → IsInnermost after p i node → last_below (is_around after p i) i ≡ Some node
innermost_is after p i node h =
    let past = reach_past after p node i i h.none in
    last_is (is_around after p i) i node (record {
      low = h.begins;
      passes = ap (λ b. b && p node) (lt-ltb i (after node) h.ends) ∙ h.passes;
      none = λ k low high. not_around after p i k (p k) refl (past k low high);
    })

not_true : (b : Bool) → b ≡ false → b ≡ true → ⊥
not_true b h g = absurd cc

reached : (after : ℕ → ℕ) (p : ℕ → Bool) (i k : ℕ) → is_around after p i k ≡ false → p k ≡ true → after k ≤ i
reached after p i k h g = elim (cases_lt i (after k)) [
  | inl inside ↦ absurd (not_true (is_around after p i k) h (ap (λ b. b && p k) (lt-ltb i (after k) inside) ∙ g))
  | inr past ↦ past
]

pub is_innermost : (after : ℕ → ℕ) (p : ℕ → Bool) (i node : ℕ) → last_below (is_around after p i) i ≡ Some node → IsInnermost after p i node
is_innermost after p i node h =
    let l = is_last (is_around after p i) i node h in
    let t = both (nat_lt i (after node)) (p node) l.passes in
    record {
      begins = l.low;
      ends = lt_of i (after node) t.0;
      passes = t.1;
      none = past_reach after p node i i (λ k low high passes. reached after p i k (l.none k low high) passes);
    }

-- the same, of values that are these
pub reach_grown : (after : ℕ → ℕ) (p : ℕ → Bool) (node i r a n : ℕ) (b : Bool) → node < i → r ≡ reach after p node i → a ≡ after i → b ≡ p i
    → n ≡ max r (if b then a else 0) → n ≡ reach after p node (i + 1)
reach_grown after p node i r a n b low is past test value =
    let one : (if b then a else 0) ≡ (if p i then after i else 0) =
    ap (λ (c : Bool). if c then a else 0) test ∙ ap (λ (m : ℕ). if p i then m else 0) past in
    omega (arith, value, one, reach_grows after p node i r low is)
