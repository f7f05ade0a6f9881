-- Where the turns of operators stand in the rows of the table, and from which numbers they come. An operator's power is
-- the number that its level tells.
use Rattle.std.proofs.Common.{◌≡◌, ◌≢◌, ◌≤◌, ◌<◌, ◌+◌, ◌-◌, ℕ, suc, zero, Bool, true, false, ◌==◌, if◌then◌else◌, List, [], ◌∷◌, ◌++◌, map, refl, sym, ap, ◌∙◌, subst, arith}
use Rattle.std.proofs.lemmas.Bool.{eqb-true, eq-eqb}
use Rattle.std.proofs.lemmas.Bool.Decides.{nat_tests}
use Rattle.std.proofs.Math.Bool.{or-true}
use Rattle.rap_base.specs.NodeKind.{BIN_EXPR}
use Rattle.rap_small_grammar.proofs.Operators.{by_truth}
use Rattle.rap_grammar_table.proofs.Known.{by_or, same_number}
use Rattle.rap_grammar_table.specs.Category.{Level, Or, And, Comparison, BitOr, BitXor, BitAnd, Shift, Sum, Product, Closed}
use Rattle.rap_grammar_table.specs.Known.{among}
use Rattle.rap_grammar_table.specs.Notation.{Part}
use Rattle.rap_grammar_table.specs.Operators.{all_from, angled, angled_assignment, angled_operators, any_of, assignment, behind, behind_cast_in, closed_turns, each_level, from, levels, operator, tighter, up_from, where_angled}
use Rattle.rap_grammar_table.specs.Table.{Items, nil, close, piece, cat, way, HasWay, first_turn, other_turn}

-- the level of a power, and its operators; those of power 1 are the assignments
abbrev level_at : ℕ → List Level → Level
level_at n [] = Product
level_at zero (l ∷ ls) = l
level_at (suc n) (l ∷ ls) = level_at n ls

abbrev pub level : ℕ → Level
level p = level_at (p - 3) levels

abbrev pub operator_of : Bool → ℕ → Part
operator_of false p = if p == 1 then assignment else operator (level p)
operator_of true p = if p == 1 then angled_assignment else any_of (angled_operators (level p))

-- this number, or another one
at_or : (P : ℕ → Type 0) (k p : ℕ) → P k → (p ≢ k → P p) → P p
at_or P k p a f =
    by_truth (k == p) (λ e. subst P (eqb-true k p e) a) (λ e. f (λ i. let n : (k == p) ≡ true = eq-eqb k p (sym i) in
    let x : true ≡ false = sym n ∙ e in cc))

-- the powers of operators between operands
pub three_on : (P : ℕ → Type 0) (p : ℕ) → 3 ≤ p → p ≤ 11 → P 3 → P 4 → P 5 → P 6 → P 7 → P 8 → P 9 → P 10 → P 11 → P p
three_on P p lo hi a b d e f g h i j =
    at_or P 3 p a (λ n3. at_or P 4 p b (λ n4. at_or P 5 p d (λ n5. at_or P 6 p e (λ n6. at_or P 7 p f
    (λ n7. at_or P 8 p g (λ n8. at_or P 9 p h (λ n9. at_or P 10 p i (λ n10. at_or P 11 p j
    (λ n11. absurd (omega arith))))))))))

pub behind_is : (p : ℕ) → 3 ≤ p → p ≤ 11 → behind (level p) ≡ p
behind_is p lo hi =
    three_on (λ (q : ℕ). behind (level q) ≡ q) p lo hi refl refl refl refl refl refl refl refl refl

level_is : (l : Level) → level (behind l) ≡ l
level_is Or = refl
level_is And = refl
level_is Comparison = refl
level_is BitOr = refl
level_is BitXor = refl
level_is BitAnd = refl
level_is Shift = refl
level_is Sum = refl
level_is Product = refl

same_level : (k l : Level) → (behind k == behind l) ≡ true → k ≡ l
same_level k l h = sym (level_is k) ∙ ap level (same_number (behind k) (behind l) h) ∙ level_is l

-- so many numbers in a row
abbrev count : ℕ → ℕ → List ℕ
count k zero = []
count k (suc n) = k ∷ count (suc k) n

among_count : (n k q : ℕ) → k ≤ q → q < k + n → among (count k n) q ≡ true
among_count zero k q h i = absurd (omega arith)
among_count (suc n) k q h i =
    by_truth (k == q) (λ e. rw e refl)
    (λ e. rw (e, among_count n (suc k) q (grind (arith, nat_tests)) (omega arith)) refl)

-- the levels that are tighter than one, and those from one on
abbrev Within : (Level → List Level) → ℕ → ℕ → Type 0
Within f p q = among (map behind (f (level p))) q ≡ true

pub among_tighter : (p : ℕ) → 3 ≤ p → p ≤ 11 → (q : ℕ) → p < q → q ≤ 11 → Within tighter p q
among_tighter p lo hi =
    three_on (λ (r : ℕ). (q : ℕ) → r < q → q ≤ 11 → Within tighter r q) p lo hi
    (λ q h i. among_count 8 4 q (omega arith) (omega arith)) (λ q h i. among_count 7 5 q (omega arith) (omega arith))
    (λ q h i. among_count 6 6 q (omega arith) (omega arith)) (λ q h i. among_count 5 7 q (omega arith) (omega arith))
    (λ q h i. among_count 4 8 q (omega arith) (omega arith)) (λ q h i. among_count 3 9 q (omega arith) (omega arith))
    (λ q h i. among_count 2 10 q (omega arith) (omega arith)) (λ q h i. among_count 1 11 q (omega arith) (omega arith))
    (λ q h i. among_count 0 12 q (omega arith) (omega arith))

among_from : (p : ℕ) → 3 ≤ p → p ≤ 11 → (q : ℕ) → p ≤ q → q ≤ 11 → Within from p q
among_from p lo hi =
    three_on (λ (r : ℕ). (q : ℕ) → r ≤ q → q ≤ 11 → Within from r q) p lo hi
    (λ q h i. among_count 9 3 q (omega arith) (omega arith)) (λ q h i. among_count 8 4 q (omega arith) (omega arith))
    (λ q h i. among_count 7 5 q (omega arith) (omega arith)) (λ q h i. among_count 6 6 q (omega arith) (omega arith))
    (λ q h i. among_count 5 7 q (omega arith) (omega arith)) (λ q h i. among_count 4 8 q (omega arith) (omega arith))
    (λ q h i. among_count 3 9 q (omega arith) (omega arith)) (λ q h i. among_count 2 10 q (omega arith) (omega arith))
    (λ q h i. among_count 1 11 q (omega arith) (omega arith))

pub all_levels : (q : ℕ) → 3 ≤ q → q ≤ 11 → among (map behind levels) q ≡ true
all_levels q lo hi = among_count 9 3 q lo (omega (arith, hi))

among_later : (ks js : List ℕ) (k : ℕ) → among js k ≡ true → among (ks ++ js) k ≡ true
among_later [] js k h = h
among_later (i ∷ ks) js k h = rw (among_later ks js k h, or-true (i == k)) refl

-- the numbers from which a turn of this power comes
abbrev pub from_of : Bool → ℕ → List ℕ
from_of false p = all_from (level p)
from_of true p = up_from (level p)

up_there : (p m : ℕ) → 3 ≤ p → p ≤ 11 → p ≤ m → m ≤ 12 → among (up_from (level p)) m ≡ true
up_there p m lo hi h top =
    by_truth (12 == m) (λ e. rw e refl)
    (λ e. rw (e, among_from p lo hi m h (grind (arith, nat_tests))) refl)

every_there : (angle : Bool) (p m : ℕ) → among (up_from (level p)) m ≡ true → among (from_of angle p) m ≡ true
every_there false p m h =
    among_later (13 ∷ map behind_cast_in (from (level p))) (up_from (level p)) m h
every_there true p m h = h

pub comes_from : (angle : Bool) (p m : ℕ) → 3 ≤ p → p ≤ 11 → p ≤ m → m ≤ 12 → among (from_of angle p) m ≡ true
comes_from angle p m lo hi h top = every_there angle p m (up_there p m lo hi h top)

pub comes_last : (angle : Bool) (m : ℕ) → 3 ≤ m → m ≤ 12 → among (from_of angle 1) m ≡ true
comes_last angle m lo hi = every_there angle 1 m (up_there 3 m (omega arith) (omega arith) lo hi)

-- a turn among those of each level
in_each : (from : Level → List ℕ) (is : Level → Items) (next : Level → ℕ) (ls : List Level) (r : Items) (l : Level) →
    among (map behind ls) (behind l) ≡ true →
    HasWay (each_level (λ k ws. way (from k) (is k) (next k) ws) ls r) (from l) (is l) (next l)
in_each from is next [] r l h = absurd cc
in_each from is next (k ∷ ls) r l h =
    by_or (behind k == behind l) (among (map behind ls) (behind l)) h
    (λ e. let s : k ≡ l = same_level k l e in rw s first_turn)
    (λ m. other_turn (in_each from is next ls r l m))

behind_each : (from : Level → List ℕ) (is : Level → Items) (next : Level → ℕ) (ls : List Level) {r a : Items}
    {js : List ℕ} {m : ℕ} → HasWay r js a m → HasWay (each_level (λ k ws. way (from k) (is k) (next k) ws) ls r) js a m
behind_each from is next [] h = h
behind_each from is next (k ∷ ls) h = other_turn (behind_each from is next ls h)

-- the same of operators that begin as generic arguments do, which few levels have
abbrev right_of : Bool → Level → Part → Items
right_of forbid l a = a (piece (cat (Closed forbid l)) (close BIN_EXPR nil))

past_angled : (forbid : Bool) (k : Level) (ps : List Part) {r a : Items} {js : List ℕ} {m : ℕ} → HasWay r js a m →
    HasWay (where_angled ps (λ a ws. way (up_from k) (right_of forbid k a) (behind k) ws) r) js a m
past_angled forbid k [] h = h
past_angled forbid k (a ∷ ps) h = other_turn h

in_angled : (forbid : Bool) (ls : List Level) (r : Items) (l : Level) (a : Part) → angled_operators l ≡ a ∷ [] →
    among (map behind ls) (behind l) ≡ true →
    HasWay (each_level (angled forbid) ls r) (up_from l) (right_of forbid l a) (behind l)
in_angled forbid [] r l a e h = absurd cc
in_angled forbid (k ∷ ls) r l a e h =
    by_or (behind k == behind l) (among (map behind ls) (behind l)) h
    (λ i. let s : k ≡ l = same_level k l i in rw (s, e) first_turn)
    (λ m. past_angled forbid k (angled_operators k) (in_angled forbid ls r l a e m))

-- a turn of an operator between operands
abbrev pub turn_items : Bool → Bool → ℕ → Items
turn_items forbid angle p = operator_of angle p (piece (cat (Closed forbid (level p))) (close BIN_EXPR nil))

abbrev pub powers_of : Bool → List ℕ
powers_of false = 11 ∷ 10 ∷ 9 ∷ 8 ∷ 7 ∷ 6 ∷ 5 ∷ 4 ∷ 3 ∷ []
powers_of true = 9 ∷ 5 ∷ []

abbrev Turned : Bool → Items → Bool → ℕ → Type 0
Turned forbid ws angle p = HasWay ws (from_of angle p) (turn_items forbid angle p) p

abbrev Plainly : Bool → List Level → Items → ℕ → Type 0
Plainly forbid ls r p = among (map behind ls) p ≡ true → Turned forbid (closed_turns forbid ls r) false p

plainly : (forbid : Bool) (ls : List Level) (r : Items) (l : Level) → among (map behind ls) (behind l) ≡ true →
    HasWay (closed_turns forbid ls r) (all_from l) (right_of forbid l (operator l)) (behind l)
plainly forbid ls r l h = in_each all_from (λ k. right_of forbid k (operator k)) behind ls (each_level (angled forbid) ls r) l h

pub in_closed : (forbid angle : Bool) (ls : List Level) (p : ℕ) (r : Items) → among (map behind ls) p ≡ true →
    among (powers_of angle) p ≡ true → HasWay (closed_turns forbid ls r) (from_of angle p) (turn_items forbid angle p) p
in_closed forbid false ls p r h m =
    listed_nine (Plainly forbid ls r) p m (plainly forbid ls r Or) (plainly forbid ls r And)
    (plainly forbid ls r Comparison) (plainly forbid ls r BitOr) (plainly forbid ls r BitXor)
    (plainly forbid ls r BitAnd) (plainly forbid ls r Shift) (plainly forbid ls r Sum) (plainly forbid ls r Product) h
  where
    listed_nine : (P : ℕ → Type 0) (p : ℕ) → among (powers_of false) p ≡ true → P 3 → P 4 → P 5 → P 6 → P 7 → P 8 →
        P 9 → P 10 → P 11 → P p
    listed_nine P p m a b d e f g h i j =
        at_or P 3 p a (λ n3. at_or P 4 p b (λ n4. at_or P 5 p d (λ n5. at_or P 6 p e (λ n6. at_or P 7 p f
        (λ n7. at_or P 8 p g (λ n8. at_or P 9 p h (λ n9. at_or P 10 p i (λ n10. at_or P 11 p j
        (λ n11. absurd (grind (arith, nat_tests)))))))))))
in_closed forbid true ls p r h m =
    by_or (9 == p) (among (5 ∷ []) p) m
    (λ e. let s : 9 ≡ p = same_number 9 p e in rw (← s) (behind_plain Shift (angled_at Shift _ refl (rw (← s) at h))))
    (λ n. by_or (5 == p) false n
    (λ e. let s : 5 ≡ p = same_number 5 p e in
    rw (← s) (behind_plain Comparison (angled_at Comparison _ refl (rw (← s) at h)))) (λ x. absurd cc))
  where
    angled_at : (l : Level) (a : Part) → angled_operators l ≡ a ∷ [] → among (map behind ls) (behind l) ≡ true →
        HasWay (each_level (angled forbid) ls r) (up_from l) (right_of forbid l a) (behind l)
    angled_at l a e i = in_angled forbid ls r l a e i

    behind_plain : (l : Level) {js : List ℕ} {a : Items} {n : ℕ} → HasWay (each_level (angled forbid) ls r) js a n →
        HasWay (closed_turns forbid ls r) js a n
    behind_plain l w = behind_each all_from (λ k. right_of forbid k (operator k)) behind ls w
