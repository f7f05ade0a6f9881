-- What is computed of a script in a measure is so of where it ends.
use Rattle.std.proofs.Common.{◌≡◌, ◌==◌, ◌<◌, ◌≤◌, ℕ, zero, suc, Bool, true, false, ◌&&◌, List, [], ◌∷◌, length, length-drop, drop, Option, Some, None, if◌then◌else◌, ltb, ltb-true, arith, refl, ap, sym, ◌∙◌, subst}
use Rattle.rap_base.specs.TokenKind.{EOF, FLOAT_NUMBER}
use Rattle.rap_events.specs.Forest.{Forest}
use Rattle.rap_events.specs.Record.{Record, next_kind, joint_at}
use Rattle.rap_events.specs.Composite.{is_at, width, parts}
use Rattle.rap_events.specs.Cover.{first_may_bear}
use Rattle.rap_events.specs.State.{with_kind}
use Rattle.rap_grammar_scripts.specs.declared.rule.Rule.{Rule}
use Rattle.rap_grammar_scripts.specs.Exec.{End, and_on, on_again, turning, looped, exec, run_of}
use Rattle.rap_grammar_scripts.specs.Test.{holds}
use Rattle.rap_grammar_scripts.specs.Script.{Script, Outcome, nothing, something, block, again, goes_on, give, test, ends_with, token, any, bear, report, report_next, skip, start, precede, finish, extend, abandon, split_float, after, rule, loop, last_taken_at}
use Rattle.rap_grammar_scripts.specs.Stand.{Stand, taken, reported, skipped_over, started, preceded, closed, finished, extended, abandoned, split_apart, spot_at}
use Rattle.rap_grammar_scripts.specs.Tally.{Measure, same_flag, same_outcome, put, pool, behind, gather, last_or, last_turns, either_turn, turn_or, other_turns, with_turns, turned, any_flags, tally}
use Rattle.rap_grammar_scripts.proofs.Exec.{no_end, by_test, by_end, by_again, spot_of, outcome_of}
use Rattle.rap_grammar_scripts.proofs.Moves.{left_so, right_so, wide, some_left, at_some, bear_some, float_some}

-- an outcome with what is so of the way to it
pub data Among {D : Type 0} (C : D → Stand → Stand → Type 0) : List (Outcome × D) → Outcome → Stand → Stand → Type 0 where
  this_one : {e : Outcome × D} {l : List (Outcome × D)} {v : Outcome} {p q : Stand} → v ≡ e.0 → C e.1 p q →
      Among C (e ∷ l) v p q
  later_one : {e : Outcome × D} {l : List (Outcome × D)} {v : Outcome} {p q : Stand} → Among C l v p q →
      Among C (e ∷ l) v p q

abbrev pub fewer : Stand → Stand → Type 0
fewer p q = length q.rest < length p.rest

-- a measure says what is so
pub record Laws {D : Type 0} (m : Measure D) (C : D → Stand → Stand → Type 0) : Type 0 where
  pub idle : (p : Stand) → C m.idle p p
  pub takes : (k w : ℕ) (p : Stand) → fewer p (taken k w p) → C m.takes p (taken k w p)
  pub takes_end : (k w : ℕ) (p : Stand) → C m.takes_end p (taken k w p)
  pub reports : (bytes : List ℕ) (p : Stand) → C m.reports p (reported bytes p)
  pub skips : (bytes : List ℕ) (p : Stand) → C m.skips p (skipped_over bytes p)
  pub starts : (p : Stand) → C m.opens p (started p)
  pub precedes : (p : Stand) → C m.opens p (preceded p)
  pub closes : (f : Forest) (p : Stand) → C m.closes p (closed 1 p.rest f p)
  pub splits : (dot : Bool) (p : Stand) → fewer p (split_apart dot p) → C (m.splits dot) p (split_apart dot p)
  pub and_then : (x y : D) (p r q : Stand) → C x p r → C y r q → C (m.and_then x y) p q
  pub left : (x y : D) (p q : Stand) → C x p q → C (m.either x y) p q
  pub right : (x y : D) (p q : Stand) → C y p q → C (m.either x y) p q
  pub first_turn : (x : D) (p q : Stand) → C x p q → fewer p q → C (m.turns x) p q
  pub next_turn : (x : D) (p r q : Stand) → C (m.turns x) p r → C x r q → fewer r q → C (m.turns x) p q

same_flags : (a b : Bool) → same_flag a b ≡ true → a ≡ b
same_flags true true h = refl
same_flags true false h = absurd cc
same_flags false true h = absurd cc
same_flags false false h = refl

pub same_is : (v w : Outcome) → same_outcome v w ≡ true → v ≡ w
same_is nothing nothing h = refl
same_is something something h = refl
same_is block block h = refl
same_is (again a b) (again c d) h =
    rw (
      same_flags a c (left_so (same_flag a c) (same_flag b d) h),
      same_flags b d (right_so (same_flag a c) (same_flag b d) h),
    ) refl
same_is nothing something h = absurd cc
same_is nothing block h = absurd cc
same_is nothing (again c d) h = absurd cc
same_is something nothing h = absurd cc
same_is something block h = absurd cc
same_is something (again c d) h = absurd cc
same_is block nothing h = absurd cc
same_is block something h = absurd cc
same_is block (again c d) h = absurd cc
same_is (again a b) nothing h = absurd cc
same_is (again a b) something h = absurd cc
same_is (again a b) block h = absurd cc

module _ {D : Type 0} (m : Measure D) (C : D → Stand → Stand → Type 0) (laws : Laws m C) where
  put_if : (b : Bool) (v : Outcome) (x : D) (e : Outcome × D) (l k : List (Outcome × D)) (p q : Stand) →
      (b ≡ true → v ≡ e.0) → C x p q → (b ≡ false → Among C k v p q) →
      Among C (if b then (e.0, m.either x e.1) ∷ l else e ∷ k) v p q
  put_if true v x e l k p q i c a = this_one (i refl) (laws.left x e.1 p q c)
  put_if false v x e l k p q i c a = later_one (a refl)

  put_new : (l : List (Outcome × D)) (v : Outcome) (x : D) (p q : Stand) → C x p q → Among C (put m v x l) v p q
  put_new [] v x p q c = this_one refl c
  put_new (e ∷ l) v x p q c =
      put_if (same_outcome v e.0) v x e l (put m v x l) p q (same_is v e.0) c (λ b. put_new l v x p q c)

  put_this : (b : Bool) (x : D) (w : Outcome) (e : Outcome × D) (l k : List (Outcome × D)) (p q : Stand) → w ≡ e.0 →
      C e.1 p q → Among C (if b then (e.0, m.either x e.1) ∷ l else e ∷ k) w p q
  put_this true x w e l k p q i c = this_one i (laws.right x e.1 p q c)
  put_this false x w e l k p q i c = this_one i c

  put_later : (b : Bool) (x : D) (w : Outcome) (e : Outcome × D) (l k : List (Outcome × D)) (p q : Stand) →
      Among C l w p q → Among C k w p q → Among C (if b then (e.0, m.either x e.1) ∷ l else e ∷ k) w p q
  put_later true x w e l k p q a c = later_one a
  put_later false x w e l k p q a c = later_one c

  put_old : (l : List (Outcome × D)) (v : Outcome) (x : D) (w : Outcome) (p q : Stand) → Among C l w p q →
      Among C (put m v x l) w p q
  put_old [] v x w p q a = elim a [ ]
  put_old (e ∷ l) v x w p q (this_one i c) = put_this (same_outcome v e.0) x w e l (put m v x l) p q i c
  put_old (e ∷ l) v x w p q (later_one a) =
      put_later (same_outcome v e.0) x w e l (put m v x l) p q a (put_old l v x w p q a)

  pool_left : (l k : List (Outcome × D)) (w : Outcome) (p q : Stand) → Among C l w p q → Among C (pool m l k) w p q
  pool_left [] k w p q a = elim a [ ]
  pool_left (e ∷ l) k w p q (this_one i c) =
      subst (λ (y : Outcome). Among C (pool m (e ∷ l) k) y p q) (sym i) (put_new (pool m l k) e.0 e.1 p q c)
  pool_left (e ∷ l) k w p q (later_one a) = put_old (pool m l k) e.0 e.1 w p q (pool_left l k w p q a)

  pool_right : (l k : List (Outcome × D)) (w : Outcome) (p q : Stand) → Among C k w p q → Among C (pool m l k) w p q
  pool_right [] k w p q a = a
  pool_right (e ∷ l) k w p q a = put_old (pool m l k) e.0 e.1 w p q (pool_right l k w p q a)

  behind_so : (l : List (Outcome × D)) (x : D) (v : Outcome) (p r q : Stand) → C x p r → Among C l v r q →
      Among C (behind m x l) v p q
  behind_so [] x v p r q c a = elim a [ ]
  behind_so (e ∷ l) x v p r q c (this_one i d) = this_one i (laws.and_then x e.1 p r q c d)
  behind_so (e ∷ l) x v p r q c (later_one a) = later_one (behind_so l x v p r q c a)

  gather_so : (l : List (Outcome × D)) (f : Outcome → List (Outcome × D)) (w v : Outcome) (p r q : Stand) →
      Among C l w p r → Among C (f w) v r q → Among C (gather m f l) v p q
  gather_so [] f w v p r q b a = elim b [ ]
  gather_so (e ∷ l) f w v p r q (this_one i c) a =
      pool_left (behind m e.1 (f e.0)) (gather m f l) v p q
      (behind_so (f e.0) e.1 v p r q c (subst (λ (y : Outcome). Among C (f y) v r q) i a))
  gather_so (e ∷ l) f w v p r q (later_one b) a =
      pool_right (behind m e.1 (f e.0)) (gather m f l) v p q (gather_so l f w v p r q b a)

  last_new : (w v : Outcome) (x : D) (l : List (Outcome × D)) (p q : Stand) → v ≡ w → goes_on v ≡ false → C x p q →
      Among C (last_or w x l) v p q
  last_new nothing v x l p q e g c = this_one e c
  last_new something v x l p q e g c = this_one e c
  last_new block v x l p q e g c = this_one e c
  last_new (again a b) v x l p q e g c = absurd (let z : true ≡ false = sym (ap goes_on e) ∙ g in cc)

  last_old : (w v : Outcome) (x : D) (l : List (Outcome × D)) (p q : Stand) → Among C l v p q →
      Among C (last_or w x l) v p q
  last_old nothing v x l p q a = later_one a
  last_old something v x l p q a = later_one a
  last_old block v x l p q a = later_one a
  last_old (again c d) v x l p q a = a

  last_one : (l : List (Outcome × D)) (v : Outcome) (p q : Stand) → goes_on v ≡ false → Among C l v p q →
      Among C (last_turns l) v p q
  last_one [] v p q g a = elim a [ ]
  last_one (e ∷ l) v p q g (this_one i c) = last_new e.0 v e.1 (last_turns l) p q i g c
  last_one (e ∷ l) v p q g (later_one a) = last_old e.0 v e.1 (last_turns l) p q (last_one l v p q g a)

  -- what is so of a turn that goes on, and of such turns
  abbrev On : Option D → Stand → Stand → Type 0
  On None p q = ⊥
  On (Some x) p q = C x p q

  abbrev Went : Option D → Stand → Stand → Type 0
  Went None p q = ⊥
  Went (Some x) p q = C (m.turns x) p q

  on_new : (x : D) (o : Option D) (p q : Stand) → C x p q → On (either_turn m x o) p q
  on_new x None p q c = c
  on_new x (Some y) p q c = laws.left x y p q c

  on_old : (x : D) (o : Option D) (p q : Stand) → On o p q → On (either_turn m x o) p q
  on_old x None p q c = absurd c
  on_old x (Some y) p q c = laws.right x y p q c

  turn_old : (w : Outcome) (x : D) (o : Option D) (p q : Stand) → On o p q → On (turn_or m w x o) p q
  turn_old nothing x o p q c = c
  turn_old something x o p q c = c
  turn_old block x o p q c = c
  turn_old (again a b) x o p q c = on_old x o p q c

  on_turn : (l : List (Outcome × D)) (a b : Bool) (p q : Stand) → Among C l (again a b) p q →
      On (other_turns m l) p q
  on_turn [] a b p q c = elim c [ ]
  on_turn (e ∷ l) a b p q (this_one i c) =
      subst (λ (w : Outcome). On (turn_or m w e.1 (other_turns m l)) p q) i (on_new e.1 (other_turns m l) p q c)
  on_turn (e ∷ l) a b p q (later_one c) = turn_old e.0 e.1 (other_turns m l) p q (on_turn l a b p q c)

  data Begun (o : Option D) (p q : Stand) : Type 0 where
    at_once : p ≡ q → Begun o p q
    gone_on : Went o p q → Begun o p q

  goes : (o : Option D) (p r q : Stand) → Begun o p r → On o r q → fewer r q → Begun o p q
  goes None p r q b c l = absurd c
  goes (Some x) p r q (at_once e) c l =
      gone_on (subst (λ (y : Stand). C (m.turns x) y q) (sym e) (laws.first_turn x r q c l))
  goes (Some x) p r q (gone_on w) c l = gone_on (laws.next_turn x p r q w c l)

  ended : (o : Option D) (k : List (Outcome × D)) (v : Outcome) (p r q : Stand) → Begun o p r → Among C k v r q →
      Among C (with_turns m o k) v p q
  ended None k v p r q (at_once e) a = subst (λ (y : Stand). Among C k v y q) (sym e) a
  ended None k v p r q (gone_on w) a = absurd w
  ended (Some x) k v p r q (at_once e) a =
      pool_left k (behind m (m.turns x) k) v p q (subst (λ (y : Stand). Among C k v y q) (sym e) a)
  ended (Some x) k v p r q (gone_on w) a =
      pool_right k (behind m (m.turns x) k) v p q (behind_so k (m.turns x) v p r q w a)

  turns_so : (f : Bool → Bool → Stand → End) (l : List (Outcome × D)) →
      ((a b : Bool) (p q : Stand) (v : Outcome) → f a b p ≡ Some (q, v) → Among C l v p q) → (k : ℕ) (a b : Bool)
      (o p q : Stand) (v : Outcome) → Begun (other_turns m l) o p → turning k f a b p ≡ Some (q, v) →
      Among C (turned m l) v o q
  unfolding turning
  turns_so f l i zero a b o p q v g e = no_end e
  turns_so f l i (suc k) a b o p q v g e =
      by_again (f a b p) (λ c d r. if ltb (length r.rest) (length p.rest) then turning k f c d r else None) (q, v) e
      (λ w r h n y.
      rw (← (ap outcome_of y), ← (ap (spot_of p) y))
      (ended (other_turns m l) (last_turns l) w o p r g (last_one l w p r n (i a b p r w h))))
      (λ c d r h y.
      by_test (ltb (length r.rest) (length p.rest)) (turning k f c d r) None (q, v) y
      (λ t z.
      turns_so f l i k c d o r q v
      (goes (other_turns m l) o p r g (on_turn l c d p r (i a b p r (again c d) h))
      (ltb-true (length r.rest) (length p.rest) t)) z)
      (λ t z. no_end z))

  of_flags : (f : Bool → Bool → List (Outcome × D)) (a b : Bool) (v : Outcome) (p q : Stand) → Among C (f a b) v p q →
      Among C (any_flags m f) v p q
  of_flags f true true v p q a =
      pool_left (pool m (f true true) (f true false)) (pool m (f false true) (f false false)) v p q
      (pool_left (f true true) (f true false) v p q a)
  of_flags f true false v p q a =
      pool_left (pool m (f true true) (f true false)) (pool m (f false true) (f false false)) v p q
      (pool_right (f true true) (f true false) v p q a)
  of_flags f false true v p q a =
      pool_right (pool m (f true true) (f true false)) (pool m (f false true) (f false false)) v p q
      (pool_left (f false true) (f false false) v p q a)
  of_flags f false false v p q a =
      pool_right (pool m (f true true) (f true false)) (pool m (f false true) (f false false)) v p q
      (pool_right (f false true) (f false false) v p q a)

  -- what a rule's table says is so
  abbrev TableSo : (Rule → Stand → End) → (Rule → List (Outcome × D)) → Type 0
  TableSo o t = (c : Rule) (p q : Stand) (v : Outcome) → o c p ≡ Some (q, v) → Among C (t c) v p q

  -- a token that is taken leaves fewer
  drops : (n : ℕ) (rs : List Record) → 1 ≤ n → 0 < length rs → length (drop n rs) < length rs
  drops n rs i l = omega (arith, i, l, length-drop n rs)

  one_token : (k : ℕ) (p : Stand) (b : Bool) → (k == EOF) ≡ b → is_at k p.rest ≡ true →
      C (if b then m.takes_end else m.takes) p (taken k (width k) p)
  one_token k p true e i = laws.takes_end k (width k) p
  one_token k p false e i =
      laws.takes k (width k) p (drops (width k) p.rest (wide (parts k)) (at_some p.rest k i e))

  -- What is computed of a script is so.
  pub tallied : (o : Rule → Stand → End) (t : Rule → List (Outcome × D)) → TableSo o t → (s : Script Rule) (p q : Stand)
      (v : Outcome) → exec o s p ≡ Some (q, v) → Among C (tally m t s) v p q
  unfolding looped
  tallied o t u (give w) p q v e =
      rw (sym (ap outcome_of e), sym (ap (spot_of p) e)) (this_one refl (laws.idle p))
  tallied o t u (test h s z) p q v e =
      by_test (holds h p.rest) (exec o s p) (exec o z p) (q, v) e
      (λ b f. pool_left (tally m t s) (tally m t z) v p q (tallied o t u s p q v f))
      (λ b f. pool_right (tally m t s) (tally m t z) v p q (tallied o t u z p q v f))
  tallied o t u (ends_with k s z) p q v e =
      by_test (last_taken_at (spot_at p) == k) (exec o s p) (exec o z p) (q, v) e
      (λ b f. pool_left (tally m t s) (tally m t z) v p q (tallied o t u s p q v f))
      (λ b f. pool_right (tally m t s) (tally m t z) v p q (tallied o t u z p q v f))
  tallied o t u (token k s) p q v e =
      by_test (is_at k p.rest) (exec o s (taken k (width k) p)) None (q, v) e
      (λ b f.
      behind_so (tally m t s) (if k == EOF then m.takes_end else m.takes) v p (taken k (width k) p) q
      (one_token k p (k == EOF) refl b) (tallied o t u s (taken k (width k) p) q v f))
      (λ b f. no_end f)
  tallied o t u (any s) p q v e =
      by_test (next_kind p.rest == EOF) None (exec o s (taken (next_kind p.rest) 1 p)) (q, v) e (λ b f. no_end f)
      (λ b f.
      behind_so (tally m t s) m.takes v p (taken (next_kind p.rest) 1 p) q
      (laws.takes (next_kind p.rest) 1 p (drops 1 p.rest (omega arith) (some_left p.rest b)))
      (tallied o t u s (taken (next_kind p.rest) 1 p) q v f))
  tallied o t u (bear k s) p q v e =
      by_test (first_may_bear p.rest k) (exec o s (taken k 1 p)) None (q, v) e
      (λ b f.
      behind_so (tally m t s) m.takes v p (taken k 1 p) q
      (laws.takes k 1 p (drops 1 p.rest (omega arith) (bear_some p.rest k b))) (tallied o t u s (taken k 1 p) q v f))
      (λ b f. no_end f)
  tallied o t u (report bytes s) p q v e =
      behind_so (tally m t s) m.reports v p (reported bytes p) q (laws.reports bytes p)
      (tallied o t u s (reported bytes p) q v e)
  tallied o t u (report_next bytes s) p q v e =
      let all = with_kind bytes (next_kind p.rest) in
      behind_so (tally m t s) m.reports v p (reported all p) q (laws.reports all p)
      (tallied o t u s (reported all p) q v e)
  tallied o t u (skip bytes s) p q v e =
      behind_so (tally m t s) m.skips v p (skipped_over bytes p) q (laws.skips bytes p)
      (tallied o t u s (skipped_over bytes p) q v e)
  tallied o t u (start s) p q v e =
      behind_so (tally m t s) m.opens v p (started p) q (laws.starts p) (tallied o t u s (started p) q v e)
  tallied o t u (precede s) p q v e =
      behind_so (tally m t s) m.opens v p (preceded p) q (laws.precedes p) (tallied o t u s (preceded p) q v e)
  tallied o t u (finish k s) p q v e =
      let r = finished k p in
      behind_so (tally m t s) m.closes v p r q (laws.closes r.forest p) (tallied o t u s r q v e)
  tallied o t u (extend s) p q v e =
      let r = extended p in
      behind_so (tally m t s) m.closes v p r q (laws.closes r.forest p) (tallied o t u s r q v e)
  tallied o t u (abandon s) p q v e =
      let r = abandoned p in
      behind_so (tally m t s) m.closes v p r q (laws.closes r.forest p) (tallied o t u s r q v e)
  tallied o t u (split_float s z) p q v e =
      let l = behind m (m.splits true) (tally m t s) in
      let k = behind m (m.splits false) (tally m t z) in
      by_test (next_kind p.rest == FLOAT_NUMBER)
      (if joint_at p.rest 0 then exec o z (split_apart false p) else exec o s (split_apart true p)) None (q, v) e
      (λ b f.
      let d = drops 1 p.rest (omega arith) (float_some p.rest b) in
      by_test (joint_at p.rest 0) (exec o z (split_apart false p)) (exec o s (split_apart true p)) (q, v) f
      (λ j g.
      pool_right l k v p q
      (behind_so (tally m t z) (m.splits false) v p (split_apart false p) q (laws.splits false p d)
      (tallied o t u z (split_apart false p) q v g)))
      (λ j g.
      pool_left l k v p q
      (behind_so (tally m t s) (m.splits true) v p (split_apart true p) q (laws.splits true p d)
      (tallied o t u s (split_apart true p) q v g))))
      (λ b f. no_end f)
  tallied o t u (after s n) p q v e =
      by_end (exec o s p) (λ w r. exec o (n w) r) (q, v) e
      (λ w r f g.
      gather_so (tally m t s) (λ y. tally m t (n y)) w v p r q (tallied o t u s p r w f) (tallied o t u (n w) r q v g))
  tallied o t u (rule c n) p q v e =
      by_end (o c p) (λ w r. exec o (n w) r) (q, v) e
      (λ w r f g. gather_so (t c) (λ y. tally m t (n y)) w v p r q (u c p r w f) (tallied o t u (n w) r q v g))
  tallied o t u (loop h a b) p q v e =
      turns_so (λ c d r. exec o (h c d) r) (any_flags m (λ c d. tally m t (h c d)))
      (λ c d x y w f. of_flags (λ c d. tally m t (h c d)) c d w x y (tallied o t u (h c d) x y w f))
      (suc (length p.rest)) a b p p q v (at_once refl) e
