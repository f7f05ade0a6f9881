-- How a script ends, word by word.
use Rattle.std.proofs.Common.{◌≡◌, ◌==◌, ◌≢◌, ◌<◌, ◌≤◌, ℕ, Bool, true, false, List, length, refl, ◌∙◌, eqb-true}
use Rattle.rap_base.specs.TokenKind.{EOF, FLOAT_NUMBER}
use Rattle.rap_events.specs.Composite.{is_at, width}
use Rattle.rap_events.specs.Cover.{first_may_bear}
use Rattle.rap_events.specs.Record.{next_kind, joint_at}
use Rattle.rap_events.specs.State.{with_kind}
use Rattle.rap_grammar_scripts.proofs.Exec as laws
use Rattle.rap_grammar_scripts.specs.Exec.{Ends, Answers, exec, run_of}
use Rattle.rap_grammar_scripts.specs.Knot.{script_of}
use Rattle.rap_grammar_scripts.specs.declared.rule.Rule.{Rule}
use Rattle.rap_grammar_scripts.specs.Test.{Test, holds}
use Rattle.rap_grammar_scripts.specs.Script.{Script, Outcome, again, goes_on, give, test, ends_with, token, any, bear, report, report_next, skip, start, precede, finish, extend, abandon, split_float, after, rule, loop, last_taken_at}
use Rattle.rap_grammar_scripts.specs.Stand.{Stand, taken, reported, skipped_over, started, preceded, finished, extended, abandoned, split_apart, spot_at}

pub gives : {j : ℕ} {v : Outcome} {p : Stand} → Ends j (give v) p p v
gives = record { run = refl }

pub passes : {j : ℕ} {h : Test} {s t : Script Rule} {p q : Stand} {v : Outcome} → holds h p.rest ≡ true →
    Ends j s p q v → Ends j (test h s t) p q v
passes e d = record { run = rw e d.run }

pub fails : {j : ℕ} {h : Test} {s t : Script Rule} {p q : Stand} {v : Outcome} → holds h p.rest ≡ false →
    Ends j t p q v → Ends j (test h s t) p q v
fails e d = record { run = rw e d.run }

pub ends_so : {j k : ℕ} {s t : Script Rule} {p q : Stand} {v : Outcome} → (last_taken_at (spot_at p) == k) ≡ true →
    Ends j s p q v → Ends j (ends_with k s t) p q v
ends_so e d = record { run = rw e d.run }

pub ends_else : {j k : ℕ} {s t : Script Rule} {p q : Stand} {v : Outcome} → (last_taken_at (spot_at p) == k) ≡ false →
    Ends j t p q v → Ends j (ends_with k s t) p q v
ends_else e d = record { run = rw e d.run }

pub takes : {j k : ℕ} {s : Script Rule} {p q : Stand} {v : Outcome} → is_at k p.rest ≡ true →
    Ends j s (taken k (width k) p) q v → Ends j (token k s) p q v
takes e d = record { run = rw e d.run }

by_truth : {A : Type 0} (b : Bool) → (b ≡ true → A) → (b ≡ false → A) → A
by_truth true f g = f refl
by_truth false f g = g refl

unequal : {a b : ℕ} → a ≢ b → (a == b) ≡ false
unequal {a = a} {b = b} h = by_truth (a == b) (λ e. absurd (h (eqb-true a b e))) (λ e. e)

pub takes_any : {j : ℕ} {s : Script Rule} {p q : Stand} {v : Outcome} → next_kind p.rest ≢ EOF →
    Ends j s (taken (next_kind p.rest) 1 p) q v → Ends j (any s) p q v
takes_any e d = record { run = rw (unequal e) d.run }

pub bears : {j k : ℕ} {s : Script Rule} {p q : Stand} {v : Outcome} → first_may_bear p.rest k ≡ true →
    Ends j s (taken k 1 p) q v → Ends j (bear k s) p q v
bears e d = record { run = rw e d.run }

pub reports : {j : ℕ} {bytes : List ℕ} {s : Script Rule} {p q : Stand} {v : Outcome} →
    Ends j s (reported bytes p) q v → Ends j (report bytes s) p q v
reports d = record { run = d.run }

pub reports_next : {j : ℕ} {bytes : List ℕ} {s : Script Rule} {p q : Stand} {v : Outcome} →
    Ends j s (reported (with_kind bytes (next_kind p.rest)) p) q v → Ends j (report_next bytes s) p q v
reports_next d = record { run = d.run }

pub skips : {j : ℕ} {bytes : List ℕ} {s : Script Rule} {p q : Stand} {v : Outcome} →
    Ends j s (skipped_over bytes p) q v → Ends j (skip bytes s) p q v
skips d = record { run = d.run }

pub starts : {j : ℕ} {s : Script Rule} {p q : Stand} {v : Outcome} → Ends j s (started p) q v → Ends j (start s) p q v
starts d = record { run = d.run }

pub precedes : {j : ℕ} {s : Script Rule} {p q : Stand} {v : Outcome} → Ends j s (preceded p) q v →
    Ends j (precede s) p q v
precedes d = record { run = d.run }

pub finishes : {j k : ℕ} {s : Script Rule} {p q : Stand} {v : Outcome} → Ends j s (finished k p) q v →
    Ends j (finish k s) p q v
finishes d = record { run = d.run }

pub extends : {j : ℕ} {s : Script Rule} {p q : Stand} {v : Outcome} → Ends j s (extended p) q v →
    Ends j (extend s) p q v
extends d = record { run = d.run }

pub abandons : {j : ℕ} {s : Script Rule} {p q : Stand} {v : Outcome} → Ends j s (abandoned p) q v →
    Ends j (abandon s) p q v
abandons d = record { run = d.run }

pub splits_dotted : {j : ℕ} {s t : Script Rule} {p q : Stand} {v : Outcome} → next_kind p.rest ≡ FLOAT_NUMBER →
    joint_at p.rest 0 ≡ false → Ends j s (split_apart true p) q v → Ends j (split_float s t) p q v
splits_dotted e f d = record { run = rw (e, f) d.run }

pub splits_whole : {j : ℕ} {s t : Script Rule} {p q : Stand} {v : Outcome} → next_kind p.rest ≡ FLOAT_NUMBER →
    joint_at p.rest 0 ≡ true → Ends j t (split_apart false p) q v → Ends j (split_float s t) p q v
splits_whole e f d = record { run = rw (e, f) d.run }

pub follows : {j : ℕ} {s : Script Rule} {n : Outcome → Script Rule} {p r q : Stand} {w v : Outcome} →
    Ends j s p r w → Ends j (n w) r q v → Ends j (after s n) p q v
follows c d = record { run = rw c.run d.run }

pub obeys : {j : ℕ} {c : Rule} {n : Outcome → Script Rule} {p r q : Stand} {w v : Outcome} →
    Answers j c p r w → Ends j (n w) r q v → Ends j (rule c n) p q v
obeys c d = record { run = rw c.run d.run }

-- A loop goes on as it would from the spot that it has come to.
pub record Loops (j : ℕ) (h : Bool → Bool → Script Rule) (a b c d : Bool) (p q : Stand) : Type 0 where
  pub same : exec (run_of j) (loop h a b) p ≡ exec (run_of j) (loop h c d) q

pub turns : {j : ℕ} {h : Bool → Bool → Script Rule} {a b c d e f : Bool} {o p q : Stand} → Loops j h a b c d o p →
    Ends j (h c d) p q (again e f) → length q.rest < length p.rest → Loops j h a b e f o q
turns {j = j} {h = h} {c = c} {d = d} {e = e} {f = f} {p = p} {q = q} k t l =
    record { same = k.same ∙ laws.one_turn (λ x y r. exec (run_of j) (h x y) r) c d e f p q t.run l }

pub stops : {j : ℕ} {h : Bool → Bool → Script Rule} {a b c d : Bool} {o p q : Stand} {v : Outcome} →
    Loops j h a b c d o p → Ends j (h c d) p q v → goes_on v ≡ false → Ends j (loop h a b) o q v
stops {j = j} {h = h} {c = c} {d = d} {p = p} {q = q} {v = v} k t e =
    record { run = k.same ∙ laws.last_turn (λ x y r. exec (run_of j) (h x y) r) c d p q v t.run e }

-- a rule's script with less depth, and with more
pub answers : {n m : ℕ} (c : Rule) {p q : Stand} {v : Outcome} → n < m → Ends n (script_of c) p q v →
    Answers m c p q v
answers {n = n} {m = m} c {p = p} {q = q} {v = v} l d = record { run = laws.answered n m l c p (q, v) d.run }

pub answers_more : {n m : ℕ} {c : Rule} {p q : Stand} {v : Outcome} → n ≤ m → Answers n c p q v → Answers m c p q v
answers_more {n = n} {m = m} {c = c} {p = p} {q = q} {v = v} l d = record { run = laws.grows n m l c p (q, v) d.run }

pub ends_more : {n m : ℕ} {s : Script Rule} {p q : Stand} {v : Outcome} → n ≤ m → Ends n s p q v → Ends m s p q v
ends_more {n = n} {m = m} {s = s} {p = p} {q = q} {v = v} l d = record { run = laws.deeper n m l s p (q, v) d.run }
