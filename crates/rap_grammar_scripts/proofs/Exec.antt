-- What holds of where a script ends.
use Rattle.std.proofs.Common.{◌≡◌, ◌==◌, ◌≢◌, ◌≤◌, ◌<◌, ℕ, zero, suc, Bool, true, false, List, drop, length, subst, Some, None, if◌then◌else◌, ltb, lt-ltb, ltb-true, arith, refl, ap, sym, ◌∙◌, eq-eqb, eqb-true, le_of_suc-le-suc, not-suc-le-zero, le_refl}
use Rattle.rap_base.specs.TokenKind.{EOF, FLOAT_NUMBER}
use Rattle.rap_events.specs.Record.{Record, next_kind, joint_at}
use Rattle.rap_events.specs.Composite.{is_at, width}
use Rattle.rap_events.specs.Cover.{first_may_bear}
use Rattle.rap_events.specs.FloatSplit.{split_children, split_calls}
use Rattle.rap_events.specs.Forest.{Forest, node, ◌⧺◌}
use Rattle.rap_events.specs.Machine.{Stack, floor, push}
use Rattle.rap_base.specs.NodeKind.{FIELD_EXPR}
use Rattle.rap_events.specs.State.{State, with_kind, but_last, last_children}
use Rattle.rap_grammar_scripts.specs.Knot.{script_of, Follows}
use Rattle.rap_grammar_scripts.specs.declared.rule.Rule.{Rule}
use Rattle.rap_grammar_scripts.specs.Exec.{End, and_on, next_turn, on_again, turning, looped, exec, run_of, Does}
use Rattle.rap_grammar_scripts.specs.Test.{holds}
use Rattle.rap_grammar_scripts.specs.Script.{split_apart as split_spot}
use Rattle.rap_grammar_scripts.specs.Script.{Spot, forests, newest, last_kind, Script, Outcome, nothing, something, block, again, goes_on, give, test, ends_with, token, any, bear, report, report_next, skip, start, precede, finish, extend, abandon, split_float, after, rule, loop, last_taken_at, Runs, gives, passes, fails, ends_so, ends_else, takes, takes_any, bears, reports, reports_next, skips, starts, precedes, finishes, extends, abandons, splits_dotted, splits_whole, follows, obeys, turns, stops}
use Rattle.rap_grammar_scripts.specs.Stand.{Stand, stand, taken, reported, skipped_over, started, preceded, finished, extended, abandoned, split_apart, spot_at, closed, forest_below, far_below}

-- no end is none
pub no_end : {A : Type 0} {r : Stand × Outcome} → (let e : End = None in e) ≡ Some r → A
no_end h = absurd (cc)

-- the two ways of a test
pub by_test : {A : Type 0} (b : Bool) (x y : End) (r : Stand × Outcome) → (if b then x else y) ≡ Some r →
    (b ≡ true → x ≡ Some r → A) → (b ≡ false → y ≡ Some r → A) → A
by_test true x y r h f g = f refl h
by_test false x y r h f g = g refl h

-- the end before
pub by_end : {A : Type 0} (e : End) (f : Outcome → Stand → End) (r : Stand × Outcome) → and_on e f ≡ Some r →
    ((w : Outcome) (q : Stand) → e ≡ Some (q, w) → f w q ≡ Some r → A) → A
by_end None f r h k = no_end h
by_end (Some e) f r h k = k e.1 e.0 refl h

-- the last turn, or one before it
by_turn : {A : Type 0} (w : Outcome) (q : Stand) (f : Bool → Bool → Stand → End) (r : Stand × Outcome) →
    next_turn w q f ≡ Some r → (goes_on w ≡ false → (let e : End = Some (q, w) in e) ≡ Some r → A) →
    ((c d : Bool) → w ≡ again c d → f c d q ≡ Some r → A) → A
by_turn nothing q f r h i j = i refl h
by_turn something q f r h i j = i refl h
by_turn block q f r h i j = i refl h
by_turn (again c d) q f r h i j = j c d refl h

pub by_again : {A : Type 0} (e : End) (f : Bool → Bool → Stand → End) (r : Stand × Outcome) → on_again e f ≡ Some r →
    ((w : Outcome) (q : Stand) → e ≡ Some (q, w) → goes_on w ≡ false → (let e : End = Some (q, w) in e) ≡ Some r → A) →
    ((c d : Bool) (q : Stand) → e ≡ Some (q, again c d) → f c d q ≡ Some r → A) → A
by_again None f r h i j = no_end h
by_again (Some e) f r h i j =
    by_turn e.1 e.0 f r h (i e.1 e.0 refl) (λ c d l m. j c d e.0 (ap (λ w. Some (e.0, w)) l) m)

-- the spot and the outcome of an end
abbrev pub spot_of : Stand → End → Stand
spot_of p None = p
spot_of p (Some e) = e.0

abbrev pub outcome_of : End → Outcome
outcome_of None = nothing
outcome_of (Some e) = e.1

-- a number that is not another
pub differs : {a b : ℕ} → (a == b) ≡ false → a ≢ b
differs {a = a} {b = b} h e = let x : true ≡ false = sym (eq-eqb a b e) ∙ h in cc

-- where a script ends it runs to, if the rules that it calls do
turns_run : {P : Type 0} {script_of : P → Script P} (o : P → Stand → End) (h : Bool → Bool → Script P) →
    ((c d : Bool) (p q : Stand) (v : Outcome) → exec o (h c d) p ≡ Some (q, v) → Runs script_of (h c d) (spot_at p) (spot_at q) v) →
    (k : ℕ) (a b : Bool) (p q : Stand) (v : Outcome) → turning k (λ c d q. exec o (h c d) q) a b p ≡ Some (q, v) →
    Runs script_of (loop h a b) (spot_at p) (spot_at q) v
unfolding turning
turns_run o h s zero a b p q v e = no_end e
turns_run o h s (suc k) a b p q v e =
    by_again (exec o (h a b) p)
    (λ c d r. if ltb (length r.rest) (length p.rest) then turning k (λ c d q. exec o (h c d) q) c d r else None)
    (q, v) e
    (λ w r f g i. rw (sym (ap (spot_of p) i), sym (ap outcome_of i)) (stops (s a b p r w f) g))
    (λ c d r f i.
    by_test (ltb (length r.rest) (length p.rest)) (turning k (λ c d q. exec o (h c d) q) c d r) None (q, v) i
    (λ l m. turns (s a b p r (again c d) f) (turns_run o h s k c d r q v m)) (λ l m. no_end m))

-- the newest of the older nodes, as a spot has it
forest_is : (b : Stack) → newest (forests b) ≡ forest_below b
forest_is floor = refl
forest_is (push b m f) = refl

behind_is : (b : Stack) → drop 1 (forests b) ≡ forests (far_below b)
behind_is floor = refl
behind_is (push b m f) = refl

-- a node less, as a spot has it
less : (n : ℕ) (rest : List Record) (h : Forest → Forest) (p : Stand) →
    (let x : Spot = record { rest = rest; forest = h (newest (forests p.below)); below = drop 1 (forests p.below) } in x)
    ≡ spot_at (closed n rest (h (forest_below p.below)) p)
less n rest h p =
    let e : newest (forests p.below) ≡ forest_below p.below = forest_is p.below in
    let i : drop 1 (forests p.below) ≡ forests (far_below p.below) = behind_is p.below in
    cc

split_less : (dot : Bool) (p : Stand) → split_spot dot (spot_at p) ≡ spot_at (split_apart dot p)
split_less dot p =
    less (length (split_calls dot)) (drop 1 p.rest) (λ f. node f FIELD_EXPR (split_children p.forest dot)) p

run_from : {P : Type 0} {script_of : P → Script P} {s : Script P} {p r q : Spot} {v : Outcome} → p ≡ r →
    Runs script_of s r q v → Runs script_of s p q v
run_from {script_of = script_of} {s = s} {q = q} {v = v} e r =
    subst (λ (x : Spot). Runs script_of s x q v) (sym e) r

pub sound : {P : Type 0} {script_of : P → Script P} (o : P → Stand → End) →
    ((c : P) (p q : Stand) (v : Outcome) → o c p ≡ Some (q, v) → Runs script_of (script_of c) (spot_at p) (spot_at q) v) →
    (s : Script P) (p q : Stand) (v : Outcome) → exec o s p ≡ Some (q, v) → Runs script_of s (spot_at p) (spot_at q) v
unfolding looped
sound o u (give w) p q v e = rw (sym (ap (spot_of p) e), sym (ap outcome_of e)) gives
sound o u (test h s t) p q v e =
    by_test (holds h p.rest) (exec o s p) (exec o t p) (q, v) e (λ b f. passes b (sound o u s p q v f))
    (λ b f. fails b (sound o u t p q v f))
sound o u (ends_with k s t) p q v e =
    by_test (last_taken_at (spot_at p) == k) (exec o s p) (exec o t p) (q, v) e (λ b f. ends_so b (sound o u s p q v f))
    (λ b f. ends_else b (sound o u t p q v f))
sound o u (token k s) p q v e =
    by_test (is_at k p.rest) (exec o s (taken k (width k) p)) None (q, v) e
    (λ b f. takes b (sound o u s (taken k (width k) p) q v f)) (λ b f. no_end f)
sound o u (any s) p q v e =
    by_test (next_kind p.rest == EOF) None (exec o s (taken (next_kind p.rest) 1 p)) (q, v) e (λ b f. no_end f)
    (λ b f. takes_any (differs b) (sound o u s (taken (next_kind p.rest) 1 p) q v f))
sound o u (bear k s) p q v e =
    by_test (first_may_bear p.rest k) (exec o s (taken k 1 p)) None (q, v) e
    (λ b f. bears b (sound o u s (taken k 1 p) q v f)) (λ b f. no_end f)
sound o u (report bytes s) p q v e = reports (sound o u s (reported bytes p) q v e)
sound o u (report_next bytes s) p q v e =
    reports_next (sound o u s (reported (with_kind bytes (next_kind p.rest)) p) q v e)
sound o u (skip bytes s) p q v e = skips (sound o u s (skipped_over bytes p) q v e)
sound o u (start s) p q v e = starts (sound o u s (started p) q v e)
sound o u (precede s) p q v e = precedes (sound o u s (preceded p) q v e)
sound o u (finish k s) p q v e =
    finishes (run_from (less 1 p.rest (λ f. node f k p.forest) p) (sound o u s (finished k p) q v e))
sound o u (extend s) p q v e =
    extends (run_from
    (less 1 p.rest (λ f. node f (last_kind p.forest) (but_last p.forest ⧺ last_children p.forest)) p)
    (sound o u s (extended p) q v e))
sound o u (abandon s) p q v e =
    abandons (run_from (less 1 p.rest (λ f. f ⧺ p.forest) p) (sound o u s (abandoned p) q v e))
sound o u (split_float s t) p q v e =
    by_test (next_kind p.rest == FLOAT_NUMBER)
    (if joint_at p.rest 0 then exec o t (split_apart false p) else exec o s (split_apart true p)) None (q, v) e
    (λ b f.
    by_test (joint_at p.rest 0) (exec o t (split_apart false p)) (exec o s (split_apart true p)) (q, v) f
    (λ j g.
    splits_whole (eqb-true (next_kind p.rest) FLOAT_NUMBER b) j
    (run_from (split_less false p) (sound o u t (split_apart false p) q v g)))
    (λ j g.
    splits_dotted (eqb-true (next_kind p.rest) FLOAT_NUMBER b) j
    (run_from (split_less true p) (sound o u s (split_apart true p) q v g))))
    (λ b f. no_end f)
sound o u (after s n) p q v e =
    by_end (exec o s p) (λ w r. exec o (n w) r) (q, v) e
    (λ w r f g. follows (sound o u s p r w f) (sound o u (n w) r q v g))
sound o u (rule c n) p q v e =
    by_end (o c p) (λ w r. exec o (n w) r) (q, v) e (λ w r f g. obeys (u c p r w f) (sound o u (n w) r q v g))
sound o u (loop h a b) p q v e =
    turns_run o h (λ c d. sound o u (h c d)) (suc (length p.rest)) a b p q v e

-- where a recursive rule ends its script runs to
pub rules_run : (n : ℕ) (c : Rule) (p q : Stand) (v : Outcome) → run_of n c p ≡ Some (q, v) →
    Runs script_of (script_of c) (spot_at p) (spot_at q) v
rules_run zero c p q v e = no_end e
rules_run (suc n) c p q v e = sound (run_of n) (rules_run n) (script_of c) p q v e

pub runs : (n : ℕ) (s : Script Rule) (p q : Stand) (v : Outcome) → exec (run_of n) s p ≡ Some (q, v) →
    Runs script_of s (spot_at p) (spot_at q) v
runs n s p q v e = sound (run_of n) (rules_run n) s p q v e

-- what follows a test, an end and a turn, where what follows answers more
test_mono : (b : Bool) (x y x' y' : End) (r : Stand × Outcome) → (x ≡ Some r → x' ≡ Some r) →
    (y ≡ Some r → y' ≡ Some r) → (if b then x else y) ≡ Some r → (if b then x' else y') ≡ Some r
test_mono true x y x' y' r f g e = f e
test_mono false x y x' y' r f g e = g e

end_mono : (x x' : End) (f f' : Outcome → Stand → End) (r : Stand × Outcome) →
    ((s : Stand × Outcome) → x ≡ Some s → x' ≡ Some s) →
    ((w : Outcome) (q : Stand) → f w q ≡ Some r → f' w q ≡ Some r) → and_on x f ≡ Some r → and_on x' f' ≡ Some r
end_mono None x' f f' r i j e = no_end e
end_mono (Some s) x' f f' r i j e = rw (i s refl) (j s.1 s.0 e)

turn_mono : (w : Outcome) (q : Stand) (f f' : Bool → Bool → Stand → End) (r : Stand × Outcome) →
    ((c d : Bool) (q : Stand) → f c d q ≡ Some r → f' c d q ≡ Some r) → next_turn w q f ≡ Some r →
    next_turn w q f' ≡ Some r
turn_mono nothing q f f' r j e = e
turn_mono something q f f' r j e = e
turn_mono block q f f' r j e = e
turn_mono (again c d) q f f' r j e = j c d q e

again_mono : (x x' : End) (f f' : Bool → Bool → Stand → End) (r : Stand × Outcome) →
    ((s : Stand × Outcome) → x ≡ Some s → x' ≡ Some s) →
    ((c d : Bool) (q : Stand) → f c d q ≡ Some r → f' c d q ≡ Some r) → on_again x f ≡ Some r → on_again x' f' ≡ Some r
again_mono None x' f f' r i j e = no_end e
again_mono (Some s) x' f f' r i j e = rw (i s refl) (turn_mono s.1 s.0 f f' r j e)

-- the same, where what follows is the same
test_same : (b : Bool) (x y : End) → (b ≡ true → x ≡ y) →
    (let e : End = if b then x else None in e) ≡ (if b then y else None)
test_same true x y i = i refl
test_same false x y i = refl

turn_same : (w : Outcome) (q : Stand) (f f' : Bool → Bool → Stand → End) →
    ((c d : Bool) (q : Stand) → f c d q ≡ f' c d q) → next_turn w q f ≡ next_turn w q f'
turn_same nothing q f f' i = refl
turn_same something q f f' i = refl
turn_same block q f f' i = refl
turn_same (again c d) q f f' i = i c d q

again_same : (x : End) (f f' : Bool → Bool → Stand → End) → ((c d : Bool) (q : Stand) → f c d q ≡ f' c d q) →
    on_again x f ≡ on_again x f'
again_same None f f' i = refl
again_same (Some s) f f' i = turn_same s.1 s.0 f f' i

-- a number below one below another
lower : (a b k : ℕ) → a < b → b < suc k → a < k
lower a b k i j = omega arith

-- as many turns as tokens, and one, are enough
pub enough : (k l : ℕ) (f : Bool → Bool → Stand → End) (a b : Bool) (p : Stand) → length p.rest < k →
    length p.rest < l → turning k f a b p ≡ turning l f a b p
unfolding turning
enough zero l f a b p i j = absurd (not-suc-le-zero i)
enough (suc k) zero f a b p i j = absurd (not-suc-le-zero j)
enough (suc k) (suc l) f a b p i j =
    again_same (f a b p) (λ c d q. if ltb (length q.rest) (length p.rest) then turning k f c d q else None)
    (λ c d q. if ltb (length q.rest) (length p.rest) then turning l f c d q else None)
    (λ c d q.
    test_same (ltb (length q.rest) (length p.rest)) (turning k f c d q) (turning l f c d q)
    (λ t. let s : length q.rest < length p.rest = ltb-true (length q.rest) (length p.rest) t in
    enough k l f c d q (lower (length q.rest) (length p.rest) k s i) (lower (length q.rest) (length p.rest) l s j)))

-- a loop is its first turn, and the loop again
pub first_turn : (f : Bool → Bool → Stand → End) (a b : Bool) (p : Stand) →
    looped f a b p ≡
    on_again (f a b p) (λ c d q. if ltb (length q.rest) (length p.rest) then looped f c d q else None)
unfolding turning looped
first_turn f a b p =
    again_same (f a b p)
    (λ c d q. if ltb (length q.rest) (length p.rest) then turning (length p.rest) f c d q else None)
    (λ c d q. if ltb (length q.rest) (length p.rest) then looped f c d q else None)
    (λ c d q.
    test_same (ltb (length q.rest) (length p.rest)) (turning (length p.rest) f c d q) (looped f c d q)
    (λ t.
    enough (length p.rest) (suc (length q.rest)) f c d q (ltb-true (length q.rest) (length p.rest) t)
    (le_refl (suc (length q.rest)))))

-- one turn that takes a token, and the loop again
pub one_turn : (f : Bool → Bool → Stand → End) (a b c d : Bool) (p q : Stand) → f a b p ≡ Some (q, again c d) →
    length q.rest < length p.rest → looped f a b p ≡ looped f c d q
one_turn f a b c d p q e l =
    rw (first_turn f a b p, e, lt-ltb (length q.rest) (length p.rest) l) refl

-- the last turn
pub last_turn : (f : Bool → Bool → Stand → End) (a b : Bool) (p q : Stand) (v : Outcome) →
    f a b p ≡ Some (q, v) → goes_on v ≡ false → looped f a b p ≡ Some (q, v)
last_turn f a b p q nothing e l = rw (first_turn f a b p, e) refl
last_turn f a b p q something e l = rw (first_turn f a b p, e) refl
last_turn f a b p q block e l = rw (first_turn f a b p, e) refl
last_turn f a b p q (again c d) e l = absurd (cc)

-- where the rules answer more, so does a script
turns_mono : (k : ℕ) (f f' : Bool → Bool → Stand → End)
    (i : (a b : Bool) (p : Stand) (r : Stand × Outcome) → f a b p ≡ Some r → f' a b p ≡ Some r) (a b : Bool) (p : Stand)
    (r : Stand × Outcome) → turning k f a b p ≡ Some r → turning k f' a b p ≡ Some r
unfolding turning
turns_mono zero f f' i a b p r e = no_end e
turns_mono (suc k) f f' i a b p r e =
    again_mono (f a b p) (f' a b p)
    (λ c d q. if ltb (length q.rest) (length p.rest) then turning k f c d q else None)
    (λ c d q. if ltb (length q.rest) (length p.rest) then turning k f' c d q else None) r (i a b p)
    (λ c d q.
    test_mono (ltb (length q.rest) (length p.rest)) (turning k f c d q) None (turning k f' c d q) None r
    (turns_mono k f f' i c d q r) (λ g. g)) e

pub mono : {P : Type 0} (o u : P → Stand → End) →
    ((c : P) (p : Stand) (r : Stand × Outcome) → o c p ≡ Some r → u c p ≡ Some r) → (s : Script P) (p : Stand)
    (r : Stand × Outcome) → exec o s p ≡ Some r → exec u s p ≡ Some r
unfolding looped
mono o u i (give v) p r e = e
mono o u i (test h s t) p r e =
    test_mono (holds h p.rest) (exec o s p) (exec o t p) (exec u s p) (exec u t p) r (mono o u i s p r) (mono o u i t p r) e
mono o u i (ends_with k s t) p r e =
    test_mono (last_taken_at (spot_at p) == k) (exec o s p) (exec o t p) (exec u s p) (exec u t p) r (mono o u i s p r)
    (mono o u i t p r) e
mono o u i (token k s) p r e =
    test_mono (is_at k p.rest) (exec o s (taken k (width k) p)) None (exec u s (taken k (width k) p)) None r
    (mono o u i s (taken k (width k) p) r) (λ g. g) e
mono o u i (any s) p r e =
    test_mono (next_kind p.rest == EOF) None (exec o s (taken (next_kind p.rest) 1 p)) None
    (exec u s (taken (next_kind p.rest) 1 p)) r (λ g. g) (mono o u i s (taken (next_kind p.rest) 1 p) r) e
mono o u i (bear k s) p r e =
    test_mono (first_may_bear p.rest k) (exec o s (taken k 1 p)) None (exec u s (taken k 1 p)) None r
    (mono o u i s (taken k 1 p) r) (λ g. g) e
mono o u i (report bytes s) p r e = mono o u i s (reported bytes p) r e
mono o u i (report_next bytes s) p r e = mono o u i s (reported (with_kind bytes (next_kind p.rest)) p) r e
mono o u i (skip bytes s) p r e = mono o u i s (skipped_over bytes p) r e
mono o u i (start s) p r e = mono o u i s (started p) r e
mono o u i (precede s) p r e = mono o u i s (preceded p) r e
mono o u i (finish k s) p r e = mono o u i s (finished k p) r e
mono o u i (extend s) p r e = mono o u i s (extended p) r e
mono o u i (abandon s) p r e = mono o u i s (abandoned p) r e
mono o u i (split_float s t) p r e =
    test_mono (next_kind p.rest == FLOAT_NUMBER)
    (if joint_at p.rest 0 then exec o t (split_apart false p) else exec o s (split_apart true p)) None
    (if joint_at p.rest 0 then exec u t (split_apart false p) else exec u s (split_apart true p)) None r
    (test_mono (joint_at p.rest 0) (exec o t (split_apart false p)) (exec o s (split_apart true p))
    (exec u t (split_apart false p)) (exec u s (split_apart true p)) r (mono o u i t (split_apart false p) r)
    (mono o u i s (split_apart true p) r)) (λ g. g) e
mono o u i (after s n) p r e =
    end_mono (exec o s p) (exec u s p) (λ w q. exec o (n w) q) (λ w q. exec u (n w) q) r (mono o u i s p)
    (λ w q. mono o u i (n w) q r) e
mono o u i (rule c n) p r e =
    end_mono (o c p) (u c p) (λ w q. exec o (n w) q) (λ w q. exec u (n w) q) r (i c p)
    (λ w q. mono o u i (n w) q r) e
mono o u i (loop h a b) p r e =
    turns_mono (suc (length p.rest)) (λ c d q. exec o (h c d) q) (λ c d q. exec u (h c d) q)
    (λ c d. mono o u i (h c d)) a b p r e

-- more depth
pub grows : (n m : ℕ) → n ≤ m → (c : Rule) (p : Stand) (r : Stand × Outcome) → run_of n c p ≡ Some r →
    run_of m c p ≡ Some r
grows zero m l c p r e = no_end e
grows (suc n) zero l c p r e = absurd (not-suc-le-zero l)
grows (suc n) (suc m) l c p r e =
    mono (run_of n) (run_of m) (grows n m (le_of_suc-le-suc l)) (script_of c) p r e

-- a script, with more depth
pub deeper : (n m : ℕ) → n ≤ m → (s : Script Rule) (p : Stand) (r : Stand × Outcome) → exec (run_of n) s p ≡ Some r →
    exec (run_of m) s p ≡ Some r
deeper n m l s p r e = mono (run_of n) (run_of m) (grows n m l) s p r e

-- what a rule's script does with less depth, the rule answers
pub answered : (n m : ℕ) → n < m → (c : Rule) (p : Stand) (r : Stand × Outcome) →
    exec (run_of n) (script_of c) p ≡ Some r → run_of m c p ≡ Some r
answered n m l c p r e = grows (suc n) m l c p r e

-- calls that do what a script does are those of the script
pub does_follow : {n : ℕ} {s : Script Rule} {v : Outcome} {old new : State} → Does n s v old new → Follows s v old new
does_follow {n = n} {s = s} {v = v} {old = old} {new = new} d = record { run = runs n s (stand old) (stand new) v d.run }
