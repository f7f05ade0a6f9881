-- The way of the operator that comes next.
use Rattle.std.proofs.Common.{◌≡◌, ℕ, ◌<◌, List, [], ◌∷◌, Bool, true, false, ◌==◌, refl, subst, arith, if◌then◌else◌}
use Rattle.std.proofs.lemmas.Bool.Decides.{nat_tests}
use Rattle.rap_events.specs.OperatorTable.{powers}
use Rattle.rap_events.specs.Power.{power, power_in}
use Rattle.rap_events.specs.Record.{Record}
use Rattle.rap_grammar_scripts.proofs.Ends as ends
use Rattle.rap_grammar_scripts.specs.Exec.{Ends}
use Rattle.rap_grammar_scripts.specs.Operator.{operator_at}
use Rattle.rap_grammar_scripts.specs.declared.rule.Rule.{Rule}
use Rattle.rap_grammar_scripts.specs.Stand.{Stand}
use Rattle.rap_grammar_scripts.specs.Test.{Test, holds}
use Rattle.rap_grammar_scripts.specs.Words.{by_operator, by_operator_of}
use Rattle.rap_grammar_scripts.specs.Script.{Script, Outcome, Spot, test, Runs, passes, fails}

same_kind : (k op : ℕ) → (k == op) ≡ true → op ≡ k
same_kind k op h = grind (arith, nat_tests)

-- this operator, or one after it in the table, for a relation that goes by tests
record Tested {P S : Type 0} (rest : S → List Record) (R : Script P → S → S → Outcome → Type 0) : Type 0 where
  passes : {h : Test} {s t : Script P} {p q : S} {v : Outcome} → holds h (rest p) ≡ true → R s p q v →
      R (test h s t) p q v
  fails : {h : Test} {s t : Script P} {p q : S} {v : Outcome} → holds h (rest p) ≡ false → R t p q v →
      R (test h s t) p q v

this_or_later : {P S : Type 0} (rest : S → List Record) (R : Script P → S → S → Outcome → Type 0) → Tested rest R → (op : ℕ × ℕ)
    (ops : List (ℕ × ℕ)) (h : ℕ → Script P) (b : Bool) (p q : S) (v : Outcome) →
    (op.0 == operator_at (rest p)) ≡ b → (0 < power_in ops (operator_at (rest p)) → R (by_operator_of ops h) p q v) →
    0 < (if b then op.1 else power_in ops (operator_at (rest p))) → R (h (operator_at (rest p))) p q v →
    R (by_operator_of (op ∷ ops) h) p q v
this_or_later rest R t op ops h true p q v e later some r =
    t.passes e (subst (λ (k : ℕ). R (h k) p q v) (same_kind op.0 (operator_at (rest p)) e) r)
this_or_later rest R t op ops h false p q v e later some r = t.fails e (later some)

by_one_of : {P S : Type 0} (rest : S → List Record) (R : Script P → S → S → Outcome → Type 0) → Tested rest R → (ops : List (ℕ × ℕ))
    (h : ℕ → Script P) (p q : S) (v : Outcome) → 0 < power_in ops (operator_at (rest p)) →
    R (h (operator_at (rest p))) p q v → R (by_operator_of ops h) p q v
by_one_of rest R t [] h p q v some r = absurd (omega arith)
by_one_of rest R t (op ∷ ops) h p q v some r =
    this_or_later rest R t op ops h (op.0 == operator_at (rest p)) p q v refl (λ i. by_one_of rest R t ops h p q v i r) some r

-- where it has a power, it is in the table
pub operates : {P : Type 0} {script_of : P → Script P} (h : ℕ → Script P) {p q : Spot} {v : Outcome} →
    0 < power (operator_at p.rest) → Runs script_of (h (operator_at p.rest)) p q v →
    Runs script_of (by_operator h) p q v
unfolding by_operator
operates {script_of = script_of} h {p = p} {q = q} {v = v} some r =
    by_one_of (λ (x : Spot). x.rest) (λ s x y w. Runs script_of s x y w) (record { passes = passes; fails = fails }) powers h p q v some r

pub ends_by_operator : {j : ℕ} (h : ℕ → Script Rule) {p q : Stand} {v : Outcome} →
    0 < power (operator_at p.rest) → Ends j (h (operator_at p.rest)) p q v → Ends j (by_operator h) p q v
unfolding by_operator
ends_by_operator {j = j} h {p = p} {q = q} {v = v} some r =
    by_one_of (λ (x : Stand). x.rest) (λ s x y w. Ends j s x y w) (record { passes = ends.passes; fails = ends.fails }) powers h p q v some r
