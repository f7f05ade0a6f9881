-- Reading the calls from the last one back gives the steps of the forest.
use Rattle.std.proofs.Common.{◌≡◌, ℕ, suc, List, [], ◌∷◌, ◌++◌, Bool, true, false, refl, sym, ap, ◌∙◌, append_assoc, append-nil}
use Rattle.rap_events.specs.StepValue.{StepValue, enter, exit, token, float_split, error}
use Rattle.rap_events.specs.Forest.{Forest, none, node, leaf, message, split, ◌⧺◌, flat, ended_by, splits_placed}
use Rattle.rap_events.specs.History.{Call}
use Rattle.rap_events.specs.History as call
use Rattle.rap_events.specs.Machine.{Stack, floor, push, Config, close, merge, wrap, stretch, step, run, initial}
use Rattle.rap_events.specs.Interval.{without_exits, without_ends}
use Rattle.rap_events.specs.Pending.{glue, others, begins_node, left_by, node_of, begun}
use Rattle.rap_events.specs.Reading.{all_steps}
use Rattle.rap_events.specs.Unwind.{Walk, enters, back, unwind, nothing_yet}
use Rattle.rap_events.specs.declared.event.walk.Pending.{Pending}
use Rattle.rap_events.specs.declared.event.walk.Pending.TheVariants as pending
use Rattle.rap_events.proofs.Truth.{and_left}
use Rattle.rap_events.proofs.MachineLemmas.{sound-run}
use Rattle.rap_events.proofs.StepLemmas.{all_steps-⧺, without_ends-whole}

pub unwind-push : (xs : List Call) (x : Call) (w : Walk) → unwind (xs ++ x ∷ []) w ≡ unwind xs (back x w)
unwind-push [] x w = refl
unwind-push (y ∷ xs) x w = ap (back y) (unwind-push xs x w)

-- the steps of all that is open, before the steps w
close_all : Stack → List Pending → List StepValue → List StepValue
close_all floor os w = w
close_all (push r m b) os w = close_all r (others os) (all_steps b ++ (enters (glue os) ++ w))

-- to go on from here with U gives the steps of what is open at c; the steps w are those of v, whose floats stand for ends
record Good (c : Config) (U : Walk → List StepValue) : Type 0 where
  plain : (os : List Pending) (w v : List StepValue) → w ≡ without_ends v → U (record { is_around = false; skips = 0; pending = os; steps = w }) ≡ without_ends (close_all c.below os (all_steps c.forest ++ v))
  after_node : c.closed ≡ true → (b : Forest) (k : ℕ) (x : Forest) → c.forest ≡ node b k x → (a : Bool) (s : ℕ) (os : List Pending) (w v : List StepValue) → w ≡ without_ends v →
      U (record { is_around = a; skips = s; pending = os; steps = w }) ≡ without_ends (close_all (push c.below c.marker b) (begun s a k os) (all_steps x ++ exit ∷ v))

pub enters-push : (g : List ℕ) (k : ℕ) (w : List StepValue) → enters (g ++ k ∷ []) ++ w ≡ enters g ++ enter k ∷ w
enters-push [] k w = refl
enters-push (j ∷ g) k w = ap (λ (v : List StepValue). enter j ∷ v) (enters-push g k w)

-- what begins where a node does that the last call precedes
glue-around : (os : List Pending) (k : ℕ) → glue (node_of (begins_node os) k ∷ left_by (begins_node os) os) ≡ glue os ++ k ∷ []
glue-around [] k = refl
glue-around (pending.Outermost j ∷ os) k = refl
glue-around (pending.Inner j ∷ os) k = refl
glue-around (pending.Nothing ∷ os) k = refl
glue-around (pending.Past ∷ os) k = refl

others-around : (os : List Pending) (k : ℕ) → others (node_of (begins_node os) k ∷ left_by (begins_node os) os) ≡ others os
others-around [] k = refl
others-around (pending.Outermost j ∷ os) k = refl
others-around (pending.Inner j ∷ os) k = refl
others-around (pending.Nothing ∷ os) k = refl
others-around (pending.Past ∷ os) k = refl

around : (os : List Pending) (f : Forest) (k : ℕ) (u : List StepValue) (s : Stack) →
    without_ends (close_all s (others (node_of (begins_node os) k ∷ left_by (begins_node os) os)) (all_steps f ++ (enters (glue (node_of (begins_node os) k ∷ left_by (begins_node os) os)) ++ u)))
    ≡ without_ends (close_all s (others os) (all_steps f ++ (enters (glue os ++ k ∷ []) ++ u)))
around os f k u s = rw (glue-around os k, others-around os k) refl

enters-without : (ks : List ℕ) (w v : List StepValue) → w ≡ without_ends v → enters ks ++ w ≡ without_ends (enters ks ++ v)
enters-without [] w v e = e
enters-without (k ∷ ks) w v e = ap (λ (u : List StepValue). enter k ∷ u) (enters-without ks w v e)

good-start : (c : Config) (U : Walk → List StepValue) → Good c U → Good (step c call.start) (λ w. U (back call.start w))
unfolding close_all
good-start c U h = record { plain = λ os w v q. h.plain (others os) (enters (glue os) ++ w) (enters (glue os) ++ v) (enters-without (glue os) w v q); after_node = λ e. absurd cc }

good-token : (k n : ℕ) (c : Config) (U : Walk → List StepValue) → Good c U → Good (step c (call.token k n)) (λ w. U (back (call.token k n) w))
good-token k n c U h = record {
  plain = λ os w v q. h.plain os (token k n ∷ w) (token k n ∷ v) (ap (λ (u : List StepValue). token k n ∷ u) q) ∙ ap (λ (u : List StepValue). without_ends (close_all c.below os u)) (sym (append_assoc (all_steps c.forest) (token k n ∷ []) v));
  after_node = λ e. absurd cc;
}

good-split : (d : Bool) (c : Config) (U : Walk → List StepValue) → Good c U → Good (step c (call.float_split d)) (λ w. U (back (call.float_split d) w))
good-split d c U h = record {
  plain = λ os w v q.
      h.plain os (float_split d ∷ without_exits (ended_by d) w) (float_split d ∷ v) (ap (λ (u : List StepValue). float_split d ∷ without_exits (ended_by d) u) q)
      ∙ ap (λ (u : List StepValue). without_ends (close_all c.below os u)) (sym (append_assoc (all_steps c.forest) (float_split d ∷ []) v));
  after_node = λ e. absurd cc;
}

good-error : (m : List ℕ) (c : Config) (U : Walk → List StepValue) → Good c U → Good (step c (call.error m)) (λ w. U (back (call.error m) w))
good-error m c U h = record {
  plain = λ os w v q. h.plain os (error m ∷ w) (error m ∷ v) (ap (λ (u : List StepValue). error m ∷ u) q) ∙ ap (λ (u : List StepValue). without_ends (close_all c.below os u)) (sym (append_assoc (all_steps c.forest) (error m ∷ []) v));
  after_node = λ e. absurd cc;
}

good-finish : (k : ℕ) (c : Config) (s : Stack) (U : Walk → List StepValue) → s ≡ c.below → (close k c s).sound ≡ true → Good c U → Good (close k c s) (λ w. U (back (call.finish k) w))
unfolding close_all
good-finish k c floor U e t h = absurd cc
good-finish k c (push r m b) U e t h = record {
  plain = λ os w v q. h.plain (pending.Outermost k ∷ os) (exit ∷ w) (exit ∷ v) (ap (λ (u : List StepValue). exit ∷ u) q) ∙ rw (← e) (ap (λ (u : List StepValue). without_ends (close_all r os u)) (simp append_assoc));
  after_node = λ d b' k' x' i a n os w v q.
      let eb : b ≡ b' = cc in
      let ek : k ≡ k' = cc in
      let ex : c.forest ≡ x' = cc in
      rw (← eb, ← ek, ← ex) (h.plain (begun n a k os) (exit ∷ w) (exit ∷ v) (ap (λ (u : List StepValue). exit ∷ u) q) ∙ rw (← e) refl);
}

good-abandon : (c : Config) (s : Stack) (U : Walk → List StepValue) → s ≡ c.below → (merge c s).sound ≡ true → Good c U → Good (merge c s) (λ w. U (back call.abandon w))
unfolding close_all
good-abandon c floor U e t h = absurd cc
good-abandon c (push r m b) U e t h = record {
  plain = λ os w v q. h.plain (pending.Nothing ∷ os) w v q ∙ rw (← e) (ap (λ (u : List StepValue). without_ends (close_all r os u)) (simp (all_steps-⧺ b c.forest, append_assoc)));
  after_node = λ d. absurd cc;
}

good-precede : (c : Config) (a : Bool) (x : Forest) (U : Walk → List StepValue) → a ≡ c.closed → x ≡ c.forest → (wrap c a x).sound ≡ true → Good c U → Good (wrap c a x) (λ w. U (back call.precede w))
unfolding close_all
good-precede c a none U d e t h = absurd cc
good-precede c a (leaf f k w) U d e t h = absurd cc
good-precede c a (message f m) U d e t h = absurd cc
good-precede c a (split f m) U d e t h = absurd cc
good-precede c false (node f k x) U d e t h = absurd cc
good-precede c true (node f k x) U d e t h = record {
  plain = λ os w v q. h.after_node (sym d) f k x (sym e) (begins_node os) 0 (left_by (begins_node os) os) w v q
      ∙ around os f k (all_steps x ++ exit ∷ v) c.below
      ∙ ap (λ (u : List StepValue). without_ends (close_all c.below (others os) (all_steps f ++ u))) (enters-push (glue os) k (all_steps x ++ exit ∷ v) ∙ simp append_assoc);
  after_node = λ z. absurd cc;
}

good-extend : (c : Config) (x : Forest) (s : Stack) (U : Walk → List StepValue) → x ≡ c.forest → s ≡ c.below → (stretch c x s).sound ≡ true → Good c U → Good (stretch c x s) (λ w. U (back call.extend w))
unfolding close_all
good-extend c x floor U e p t h = absurd cc
good-extend c none (push r m b) U e p t h = absurd cc
good-extend c (leaf f k n) (push r m b) U e p t h = absurd cc
good-extend c (message f y) (push r m b) U e p t h = absurd cc
good-extend c (split f y) (push r m b) U e p t h = absurd cc
good-extend c (node f k x) (push r m b) U e p t h =
    let d : c.closed ≡ true = and_left c.closed c.sound t in
    record {
      plain = λ os w v q. h.after_node d f k x (sym e) false 1 os w v q ∙ rw (← p) (ap (λ (u : List StepValue). without_ends (close_all r os u)) (simp (all_steps-⧺ f x, append_assoc)));
      after_node = λ z b' k' x' i a n os w v q.
          let eb : b ≡ b' = cc in
          let ek : k ≡ k' = cc in
          let ex : (f ⧺ x) ≡ x' = cc in
          rw (← eb, ← ek, ← ex) (h.after_node d f k x (sym e) a (suc n) os w v q ∙ rw (← p) (simp (all_steps-⧺ f x, append_assoc)));
    }

good-step : (c : Config) (x : Call) (U : Walk → List StepValue) → (step c x).sound ≡ true → Good c U → Good (step c x) (λ w. U (back x w))
good-step c call.start U t h = good-start c U h
good-step c call.precede U t h = good-precede c c.closed c.forest U refl refl t h
good-step c (call.finish k) U t h = good-finish k c c.below U refl t h
good-step c call.extend U t h = good-extend c c.forest c.below U refl refl t h
good-step c call.abandon U t h = good-abandon c c.below U refl t h
good-step c (call.token k n) U t h = good-token k n c U h
good-step c (call.float_split d) U t h = good-split d c U h
good-step c (call.error m) U t h = good-error m c U h

good-run : (c : Config) (xs : List Call) (U : Walk → List StepValue) → (run c xs).sound ≡ true → Good c U → Good (run c xs) (λ w. U (unwind xs w))
good-run c [] U t h = h
good-run c (x ∷ xs) U t h = good-run (step c x) xs (λ w. U (back x w)) t (good-step c x U (sound-run (step c x) xs t) h)

good-initial : Good initial (λ w. w.steps)
unfolding close_all
good-initial = record { plain = λ os w v q. q; after_node = λ e. absurd cc }

-- reading all calls back gives the steps of the forest
pub unwound : (xs : List Call) → (run initial xs).sound ≡ true → (run initial xs).below ≡ floor → splits_placed (run initial xs).forest ≡ true → (unwind xs nothing_yet).steps ≡ flat (run initial xs).forest
unfolding close_all
unwound xs t f p =
    let F : Forest = (run initial xs).forest in
    (good-run initial xs (λ w. w.steps) t good-initial).plain [] [] [] refl ∙ rw f (ap without_ends (append-nil (all_steps F)) ∙ without_ends-whole F p)
