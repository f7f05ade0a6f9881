-- A script that is said to take no token takes none.
use Rattle.std.proofs.Common.{◌≡◌, ◌==◌, ◌<◌, ℕ, zero, suc, Bool, true, false, ◌&&◌, not, List, [], ◌∷◌, length, drop, Some, None, if◌then◌else◌, ltb, ltb-true, arith, refl, ap, sym, ◌∙◌, subst, eqb-true}
use Rattle.rap_base.specs.TokenKind.{EOF, FLOAT_NUMBER}
use Rattle.rap_events.specs.Record.{Record, next_kind}
use Rattle.rap_events.specs.Composite.{is_at, width}
use Rattle.rap_events.specs.State.{with_kind}
use Rattle.rap_grammar_scripts.specs.Knot.{script_of}
use Rattle.rap_grammar_scripts.specs.declared.rule.Rule.{Rule}
use Rattle.rap_grammar_scripts.specs.Exec.{End, and_on, on_again, turning, looped, exec, run_of}
use Rattle.rap_grammar_scripts.specs.Test.{holds}
use Rattle.rap_grammar_scripts.specs.Script.{Script, Outcome, nothing, something, block, again, goes_on, give, test, ends_with, token, any, bear, report, report_next, skip, start, precede, finish, extend, abandon, split_float, after, rule, loop, last_taken_at}
use Rattle.rap_grammar_scripts.specs.Stand.{Stand, reported, skipped_over, started, preceded, finished, extended, abandoned, spot_at}
use Rattle.rap_grammar_scripts.specs.Moves.{judge, by_answer, rests, rests_of}
use Rattle.rap_grammar_scripts.proofs.Exec.{no_end, by_test, by_end, by_again, spot_of, outcome_of}
use Rattle.rap_grammar_scripts.proofs.Moves.{judged, first_way, other_way, left_so, right_so, apart}

-- the tokens are as before, and something holds
pub record Rests (p q : Stand) (b : Bool) : Type 0 where
  pub rest : q.rest ≡ p.rest
  pub so : b ≡ true

-- where the end comes next, no token is left
pub record EndsRight (p : Stand) : Type 0 where
  pub none : next_kind p.rest ≡ EOF → p.rest ≡ []

same_end : (p r : Stand) → r.rest ≡ p.rest → EndsRight p → EndsRight r
same_end p r e h = record { none = λ i. e ∙ h.none (sym (ap next_kind e) ∙ i) }

rests_on : (p r q : Stand) (b c : Bool) → Rests p r b → (b ≡ true → Rests r q c) → Rests p q c
rests_on p r q b c h k = let i = k h.so in record { rest = i.rest ∙ h.rest; so = i.so }

no_more : (rs : List Record) → rs ≡ [] → drop 1 rs ≡ rs
no_more [] e = refl
no_more (r ∷ rs) e = absurd cc

last_so : (w : Outcome) (b : Bool) → not (goes_on w) && b ≡ true → b ≡ true
last_so w b h = right_so (not (goes_on w)) b h

goes_not : (c d : Bool) (b : Bool) → not (goes_on (again c d)) && b ≡ true → ⊥
goes_not c d b h = absurd cc

abbrev pub RestsBy : (Rule → Stand → End) → (Rule → ℕ → (Outcome → Bool) → Bool) → Type 0
RestsBy o t =
    (c : Rule) (p q : Stand) (v : Outcome) (f : Outcome → Bool) → EndsRight p → o c p ≡ Some (q, v) →
    t c (next_kind p.rest) f ≡ true → Rests p q (f v)

pub rest_so : (o : Rule → Stand → End) (t : Rule → ℕ → (Outcome → Bool) → Bool) → RestsBy o t → (s : Script Rule)
    (p q : Stand) (v : Outcome) (f : Outcome → Bool) → EndsRight p → exec o s p ≡ Some (q, v) →
    rests t s (next_kind p.rest) f ≡ true → Rests p q (f v)
unfolding looped turning
rest_so o t u (give w) p q v f a e h =
    record {
      rest = sym (ap (λ (x : End). (spot_of p x).rest) e);
      so = subst (λ (x : Outcome). f x ≡ true) (ap outcome_of e) h;
    }
rest_so o t u (test c s z) p q v f a e h =
    by_test (holds c p.rest) (exec o s p) (exec o z p) (q, v) e
    (λ b g.
    rest_so o t u s p q v f a g
    (first_way (judge c (next_kind p.rest)) (holds c p.rest) (rests t s (next_kind p.rest) f)
    (rests t z (next_kind p.rest) f) (judged c p.rest) b h))
    (λ b g.
    rest_so o t u z p q v f a g
    (other_way (judge c (next_kind p.rest)) (holds c p.rest) (rests t s (next_kind p.rest) f)
    (rests t z (next_kind p.rest) f) (judged c p.rest) b h))
rest_so o t u (ends_with k s z) p q v f a e h =
    by_test (last_taken_at (spot_at p) == k) (exec o s p) (exec o z p) (q, v) e
    (λ b g. rest_so o t u s p q v f a g (left_so (rests t s (next_kind p.rest) f) _ h))
    (λ b g. rest_so o t u z p q v f a g (right_so (rests t s (next_kind p.rest) f) _ h))
rest_so o t u (token k s) p q v f a e h = absurd cc
rest_so o t u (any s) p q v f a e h = absurd cc
rest_so o t u (bear k s) p q v f a e h = absurd cc
rest_so o t u (report bytes s) p q v f a e h =
    let i = rest_so o t u s (reported bytes p) q v f (same_end p (reported bytes p) refl a) e h in
    record { rest = i.rest; so = i.so }
rest_so o t u (report_next bytes s) p q v f a e h =
    let r = reported (with_kind bytes (next_kind p.rest)) p in
    let i = rest_so o t u s r q v f (same_end p r refl a) e h in
    record { rest = i.rest; so = i.so }
rest_so o t u (skip bytes s) p q v f a e h =
    let r = skipped_over bytes p in
    let k : next_kind p.rest ≡ EOF = eqb-true (next_kind p.rest) EOF (left_so (next_kind p.rest == EOF) _ h) in
    let z : r.rest ≡ p.rest = no_more p.rest (a.none k) in
    let i = rest_so o t u s r q v f (same_end p r z a) e (rw z (right_so (next_kind p.rest == EOF) _ h)) in
    record { rest = i.rest ∙ z; so = i.so }
rest_so o t u (start s) p q v f a e h =
    let i = rest_so o t u s (started p) q v f (same_end p (started p) refl a) e h in
    record { rest = i.rest; so = i.so }
rest_so o t u (precede s) p q v f a e h =
    let i = rest_so o t u s (preceded p) q v f (same_end p (preceded p) refl a) e h in
    record { rest = i.rest; so = i.so }
rest_so o t u (finish k s) p q v f a e h =
    let i = rest_so o t u s (finished k p) q v f (same_end p (finished k p) refl a) e h in
    record { rest = i.rest; so = i.so }
rest_so o t u (extend s) p q v f a e h =
    let i = rest_so o t u s (extended p) q v f (same_end p (extended p) refl a) e h in
    record { rest = i.rest; so = i.so }
rest_so o t u (abandon s) p q v f a e h =
    let i = rest_so o t u s (abandoned p) q v f (same_end p (abandoned p) refl a) e h in
    record { rest = i.rest; so = i.so }
rest_so o t u (split_float s z) p q v f a e h = absurd cc
rest_so o t u (after s n) p q v f a e h =
    by_end (exec o s p) (λ w r. exec o (n w) r) (q, v) e
    (λ w r g x.
    let i = rest_so o t u s p r w (λ y. rests t (n y) (next_kind p.rest) f) a g h in
    rests_on p r q (rests t (n w) (next_kind p.rest) f) (f v) i
    (λ b. rest_so o t u (n w) r q v f (same_end p r i.rest a) x (rw i.rest b)))
rest_so o t u (rule c n) p q v f a e h =
    by_end (o c p) (λ w r. exec o (n w) r) (q, v) e
    (λ w r g x.
    let i = u c p r w (λ y. rests t (n y) (next_kind p.rest) f) a g h in
    rests_on p r q (rests t (n w) (next_kind p.rest) f) (f v) i
    (λ b. rest_so o t u (n w) r q v f (same_end p r i.rest a) x (rw i.rest b)))
rest_so o t u (loop l a b) p q v f d e h =
    by_again (exec o (l a b) p)
    (λ c d r.
    if ltb (length r.rest) (length p.rest) then turning (length p.rest) (λ c d q. exec o (l c d) q) c d r else None)
    (q, v) e
    (λ w r g x y.
    let i = rest_so o t u (l a b) p r w (λ z. not (goes_on z) && f z) d g h in
    rw (← (ap outcome_of y), ← (ap (spot_of p) y)) (record { rest = i.rest; so = last_so w (f w) i.so }))
    (λ c z r g x.
    let i = rest_so o t u (l a b) p r (again c z) (λ y. not (goes_on y) && f y) d g h in
    absurd (goes_not c z (f (again c z)) i.so))

pub rules_rest : (m n : ℕ) → RestsBy (run_of n) (rests_of m)
rules_rest zero n c p q v f a e h = absurd cc
rules_rest (suc m) zero c p q v f a e h = no_end e
rules_rest (suc m) (suc n) c p q v f a e h =
    rest_so (run_of n) (rests_of m) (rules_rest m n) (script_of c) p q v f a e h
