-- The forest of a history is the tree of its intervals.
use Rattle.std.proofs.Common.{◌≡◌, ◌≢◌, ℕ, ◌+◌, ◌<◌, ◌≤◌, List, [], ◌∷◌, ◌++◌, Bool, true, false, refl, sym, ap, ◌∙◌, append_assoc, append-nil, length, length-append, drop, Option, subst, arith}
use Rattle.std.specs.Prelude.{if◌then◌else◌}
use Rattle.std.proofs.lemmas.Bool.{eq-eqb, ne_eqb}
use Rattle.rap_events.specs.StepValue.{StepValue, enter, exit}
use Rattle.rap_events.specs.Forest.{Forest, none, node, leaf, message, split, ◌⧺◌, flat, splits_placed}
use Rattle.rap_events.specs.History.{Call}
use Rattle.rap_events.specs.History as call
use Rattle.rap_events.specs.Machine.{Stack, floor, push, Config, close, merge, wrap, stretch, step, run, initial}
use Rattle.rap_events.specs.Interval.{Interval, Marked, newest, begin_of_last, with_last_from, marked, marked_from, unmarked, nodes_of, begins, point, steps_between, without_ends, tree_steps}
use Rattle.rap_events.specs.Reading.{all_steps}
use Rattle.rap_events.proofs.Truth.{and_left}
use Rattle.rap_events.proofs.Ends.{length-next, stop, EndFrom, ends-run}
use Rattle.rap_events.proofs.MachineLemmas.{sound-run}
use Rattle.rap_events.proofs.StepLemmas.{all_steps-⧺, without_ends-whole}

-- the steps of a call itself
abbrev shown : Call → List StepValue
shown x = point x ++ stop x

-- the steps from a number on, with the end of a node at each finish
abbrev steps : List Interval → ℕ → List Call → List StepValue
steps ns i [] = []
steps ns i (x ∷ xs) = begins ns i ++ (shown x ++ steps ns (i + 1) xs)

steps-append : (ns : List Interval) (i : ℕ) (xs ys : List Call) → steps ns i (xs ++ ys) ≡ steps ns i xs ++ steps ns (i + length xs) ys
steps-append ns i [] ys = ap (λ (j : ℕ). steps ns j ys) (omega arith)
steps-append ns i (x ∷ xs) ys =
    let later : steps ns (i + 1) (xs ++ ys) ≡ steps ns (i + 1) xs ++ steps ns (i + length (x ∷ xs)) ys =
    steps-append ns (i + 1) xs ys ∙ ap (λ (j : ℕ). steps ns (i + 1) xs ++ steps ns j ys) (omega arith) in
    rw later (simp append_assoc)

begins-other : (n : Interval) (ns : List Interval) (i : ℕ) → n.begin ≢ i → begins (n ∷ ns) i ≡ begins ns i
begins-other n ns i h = ap (λ (b : Bool). if b then enter n.kind ∷ begins ns i else begins ns i) (ne_eqb n.begin i h)

begins-here : (n : Interval) (ns : List Interval) (i : ℕ) → n.begin ≡ i → begins (n ∷ ns) i ≡ enter n.kind ∷ begins ns i
begins-here n ns i h = ap (λ (b : Bool). if b then enter n.kind ∷ begins ns i else begins ns i) (eq-eqb n.begin i h)

-- a node that begins later changes nothing
steps-before : (n : Interval) (ns : List Interval) (i : ℕ) (xs : List Call) → i + length xs ≤ n.begin → steps (n ∷ ns) i xs ≡ steps ns i xs
steps-before n ns i [] h = refl
steps-before n ns i (x ∷ xs) h =
    rw (begins-other n ns i (λ e. omega arith)) (ap (λ (v : List StepValue). begins ns i ++ (shown x ++ v)) (steps-before n ns (i + 1) xs (omega arith)))

-- nor does one that began earlier
steps-after : (n : Interval) (ns : List Interval) (i : ℕ) (xs : List Call) → n.begin < i → steps (n ∷ ns) i xs ≡ steps ns i xs
steps-after n ns i [] h = refl
steps-after n ns i (x ∷ xs) h =
    rw (begins-other n ns i (λ e. omega arith)) (ap (λ (v : List StepValue). begins ns i ++ (shown x ++ v)) (steps-after n ns (i + 1) xs (omega arith)))

-- a node that begins here stands around all others that do
steps-here : (n : Interval) (ns : List Interval) (i : ℕ) (xs : List Call) → n.begin ≡ i → 0 < length xs → steps (n ∷ ns) i xs ≡ enter n.kind ∷ steps ns i xs
steps-here n ns i [] e h = absurd (omega arith)
steps-here n ns i (x ∷ xs) e h =
    rw (begins-here n ns i e) (ap (λ (v : List StepValue). enter n.kind ∷ (begins ns i ++ (shown x ++ v))) (steps-after n ns (i + 1) xs (omega arith)))

-- all nodes begin before a number
abbrev Within : ℕ → List Interval → Type 0
Within l [] = Unit {0}
Within l (n ∷ ns) = (n.begin < l) × Within l ns

within-next : (l l' : ℕ) (ns : List Interval) → l' ≡ l + 1 → Within l ns → Within l' ns
within-next l l' [] e h = tt
within-next l l' (n ∷ ns) e h = (omega (arith, h.0), within-next l l' ns e h.1)

begins-none : (l : ℕ) (ns : List Interval) → Within l ns → begins ns l ≡ []
begins-none l [] h = refl
begins-none l (n ∷ ns) h = begins-other n ns l (λ e. omega (arith, h.0)) ∙ begins-none l ns h.1

-- The steps of the forests under the open markers are those from each marker's beginning to the next one's; what the
-- newest one has so far is s.
data Spans (ns : List Interval) : Stack → List ℕ → List StepValue → List Call → Type 0 where
  bottom : {s : List StepValue} {h : List Call} → s ≡ steps ns 0 h → Spans ns floor [] s h
  above : {r : Stack} {m : Option ℕ} {b : Forest} {p : ℕ} {os : List ℕ} {s : List StepValue} {h : List Call} (xs ys : List Call) →
      h ≡ xs ++ ys → p ≡ length xs → Spans ns r os (all_steps b) xs → s ≡ steps ns p ys → Spans ns (push r m b) (p ∷ os) s h

-- more calls
spans-append : (ns : List Interval) (k : Stack) (os : List ℕ) (s : List StepValue) (h ys : List Call) → Spans ns k os s h → Spans ns k os (s ++ steps ns (length h) ys) (h ++ ys)
spans-append ns k os s h ys (bottom e) =
    let place : length h ≡ 0 + length h = omega arith in
    bottom (ap (λ (v : List StepValue). v ++ steps ns (length h) ys) e ∙ ap (λ (j : ℕ). steps ns 0 h ++ steps ns j ys) place ∙ sym (steps-append ns 0 h ys))
spans-append ns k (p ∷ os) s h ys (above xs zs e q below t) =
    let place : length h ≡ p + length zs = ap length e ∙ length-append xs zs ∙ omega (arith, q) in
    above xs (zs ++ ys) (ap (λ (v : List Call). v ++ ys) e ∙ append_assoc xs zs ys) q below
    (ap (λ (v : List StepValue). v ++ steps ns (length h) ys) t ∙ ap (λ (j : ℕ). steps ns p zs ++ steps ns j ys) place ∙ sym (steps-append ns p zs ys))

-- one call more
spans-call : (ns : List Interval) (k : Stack) (os : List ℕ) (s : List StepValue) (h : List Call) (x : Call) → Within (length h) ns → Spans ns k os s h → Spans ns k os (s ++ shown x) (h ++ x ∷ [])
spans-call ns k os s h x w t =
    let same : s ++ steps ns (length h) (x ∷ []) ≡ s ++ shown x = rw (begins-none (length h) ns w) (ap (λ (v : List StepValue). s ++ v) (append-nil (shown x))) in
    subst (λ (v : List StepValue). Spans ns k os v (h ++ x ∷ [])) same (spans-append ns k os s h (x ∷ []) t)

-- a marker more, at the last call
spans-start : (ns : List Interval) (k : Stack) (os : List ℕ) (m : Option ℕ) (f : Forest) (h : List Call) → Within (length h) ns → Spans ns k os (all_steps f) h →
    Spans ns (push k m f) (length h ∷ os) [] (h ++ call.start ∷ [])
spans-start ns k os m f h w t = above h (call.start ∷ []) refl refl t (sym (rw (begins-none (length h) ns w) refl))

-- the newest marker is gone
spans-merge : (ns : List Interval) (k : Stack) (m : Option ℕ) (b : Forest) (p : ℕ) (os : List ℕ) (s : List StepValue) (h : List Call) →
    Spans ns (push k m b) (p ∷ os) s h → Spans ns k os (all_steps b ++ s) h
spans-merge ns k m b p os s h (above xs ys e q below t) = rw (e, t, q) (spans-append ns k os (all_steps b) xs ys below)

-- a node that begins after all calls
spans-later : (n : Interval) (ns : List Interval) (k : Stack) (os : List ℕ) (s : List StepValue) (h : List Call) → length h ≤ n.begin → Spans ns k os s h → Spans (n ∷ ns) k os s h
spans-later n ns k os s h l (bottom e) = bottom (e ∙ sym (steps-before n ns 0 h (omega arith)))
spans-later n ns (push r m b) (p ∷ os) s h l (above xs ys e q below t) =
    let whole : length h ≡ length xs + length ys = ap length e ∙ length-append xs ys in
    above xs ys e q (spans-later n ns r os (all_steps b) xs (omega arith) below) (t ∙ sym (steps-before n ns p ys (omega arith)))

-- a node that begins where the newest marker does
spans-node : (n : Interval) (ns : List Interval) (k : Stack) (m m' : Option ℕ) (b : Forest) (os : List ℕ) (s : List StepValue) (h : List Call) → n.begin < length h →
    Spans ns (push k m b) (n.begin ∷ os) s h → Spans (n ∷ ns) (push k m' b) (n.begin ∷ os) (enter n.kind ∷ s) h
spans-node n ns k m m' b os s h l (above xs ys e q below t) =
    let whole : length h ≡ length xs + length ys = ap length e ∙ length-append xs ys in
    above xs ys e q (spans-later n ns k os (all_steps b) xs (omega arith) below)
    (ap (λ (v : List StepValue). enter n.kind ∷ v) t ∙ sym (steps-here n ns n.begin ys refl (omega arith)))

-- all markers begin before a number
abbrev Early : ℕ → List ℕ → Type 0
Early l [] = Unit {0}
Early l (b ∷ bs) = (b < l) × Early l bs

early-next : (l l' : ℕ) (bs : List ℕ) → l' ≡ l + 1 → Early l bs → Early l' bs
early-next l l' [] e h = tt
early-next l l' (b ∷ bs) e h = (omega (arith, h.0), early-next l l' bs e h.1)

-- the last node, as if its marker were still there
data Last (h : List Call) : Stack → Forest → List ℕ → List Interval → Type 0 where
  finished : {k : Stack} {m : Option ℕ} {before children : Forest} {kind : ℕ} {os : List ℕ} {n : Interval} {ns : List Interval} → kind ≡ n.kind →
      Spans ns (push k m before) (n.begin ∷ os) (all_steps children ++ exit ∷ []) h → Last h k (node before kind children) os (n ∷ ns)

-- after these calls the forests are those of the intervals
record Tracked (c : Config) (os : List ℕ) (ns : List Interval) (h : List Call) : Type 0 where
  spans : Spans ns c.below os (all_steps c.forest) h
  early : Early (length h) os
  within : Within (length h) ns
  last : c.closed ≡ true → Last h c.below c.forest os ns

tracked-start : (c : Config) (os : List ℕ) (ns : List Interval) (h : List Call) → Tracked c os ns h → Tracked (step c call.start) (length h ∷ os) ns (h ++ call.start ∷ [])
tracked-start c os ns h t = record {
  spans = spans-start ns c.below os c.marker c.forest h t.within t.spans;
  early = (omega (arith, length-next h call.start), early-next (length h) (length (h ++ call.start ∷ [])) os (length-next h call.start) t.early);
  within = within-next (length h) (length (h ++ call.start ∷ [])) ns (length-next h call.start) t.within;
  last = λ e. absurd cc;
}

tracked-token : (c : Config) (k w : ℕ) (os : List ℕ) (ns : List Interval) (h : List Call) → Tracked c os ns h → Tracked (step c (call.token k w)) os ns (h ++ call.token k w ∷ [])
tracked-token c k w os ns h t = record {
  spans = spans-call ns c.below os (all_steps c.forest) h (call.token k w) t.within t.spans;
  early = early-next (length h) (length (h ++ (call.token k w) ∷ [])) os (length-next h (call.token k w)) t.early;
  within = within-next (length h) (length (h ++ (call.token k w) ∷ [])) ns (length-next h (call.token k w)) t.within;
  last = λ e. absurd cc;
}

tracked-split : (c : Config) (d : Bool) (os : List ℕ) (ns : List Interval) (h : List Call) → Tracked c os ns h → Tracked (step c (call.float_split d)) os ns (h ++ call.float_split d ∷ [])
tracked-split c d os ns h t = record {
  spans = spans-call ns c.below os (all_steps c.forest) h (call.float_split d) t.within t.spans;
  early = early-next (length h) (length (h ++ (call.float_split d) ∷ [])) os (length-next h (call.float_split d)) t.early;
  within = within-next (length h) (length (h ++ (call.float_split d) ∷ [])) ns (length-next h (call.float_split d)) t.within;
  last = λ e. absurd cc;
}

tracked-error : (c : Config) (b : List ℕ) (os : List ℕ) (ns : List Interval) (h : List Call) → Tracked c os ns h → Tracked (step c (call.error b)) os ns (h ++ call.error b ∷ [])
tracked-error c b os ns h t = record {
  spans = spans-call ns c.below os (all_steps c.forest) h (call.error b) t.within t.spans;
  early = early-next (length h) (length (h ++ (call.error b) ∷ [])) os (length-next h (call.error b)) t.early;
  within = within-next (length h) (length (h ++ (call.error b) ∷ [])) ns (length-next h (call.error b)) t.within;
  last = λ e. absurd cc;
}

tracked-finish : (k : ℕ) (c : Config) (s : Stack) (os : List ℕ) (ns : List Interval) (h : List Call) → Early (length h) os → Within (length h) ns → (close k c s).sound ≡ true →
    Spans ns s os (all_steps c.forest) h → Tracked (close k c s) (drop 1 os) (record { kind = k; begin = newest os; end = length h } ∷ ns) (h ++ call.finish k ∷ [])
tracked-finish k c floor os ns h l w d t = absurd cc
tracked-finish k c (push r m b) [] ns h l w d t = elim t [ ]
tracked-finish k c (push r m b) (p ∷ os) ns h l w d t =
    let n : Interval = record { kind = k; begin = p; end = length h } in
    let x : Call = call.finish k in
    let begun : Spans ns (push r m b) (p ∷ os) (all_steps c.forest ++ exit ∷ []) (h ++ x ∷ []) = spans-call ns (push r m b) (p ∷ os) (all_steps c.forest) h x w t in
    let more : p < length (h ++ x ∷ []) = omega (arith, l.0, length-next h x) in record {
      spans = spans-merge (n ∷ ns) r m b p os (enter k ∷ (all_steps c.forest ++ exit ∷ [])) (h ++ x ∷ []) (spans-node n ns r m m b os (all_steps c.forest ++ exit ∷ []) (h ++ x ∷ []) more begun);
      early = early-next (length h) (length (h ++ x ∷ [])) os (length-next h x) l.1;
      within = (more, within-next (length h) (length (h ++ x ∷ [])) ns (length-next h x) w);
      last = λ e. finished refl begun;
    }

tracked-abandon : (c : Config) (s : Stack) (os : List ℕ) (ns : List Interval) (h : List Call) → Early (length h) os → Within (length h) ns → (merge c s).sound ≡ true →
    Spans ns s os (all_steps c.forest) h → Tracked (merge c s) (drop 1 os) ns (h ++ call.abandon ∷ [])
tracked-abandon c floor os ns h l w d t = absurd cc
tracked-abandon c (push r m b) [] ns h l w d t = elim t [ ]
tracked-abandon c (push r m b) (p ∷ os) ns h l w d t =
    let x : Call = call.abandon in
    let merged : Spans ns r os ((all_steps b ++ all_steps c.forest) ++ []) (h ++ x ∷ []) = spans-call ns r os (all_steps b ++ all_steps c.forest) h x w (spans-merge ns r m b p os (all_steps c.forest) h t) in
    let same : (all_steps b ++ all_steps c.forest) ++ [] ≡ all_steps (b ⧺ c.forest) = append-nil (all_steps b ++ all_steps c.forest) ∙ sym (all_steps-⧺ b c.forest) in record {
      spans = subst (λ (v : List StepValue). Spans ns r os v (h ++ x ∷ [])) same merged;
      early = early-next (length h) (length (h ++ x ∷ [])) os (length-next h x) l.1;
      within = within-next (length h) (length (h ++ x ∷ [])) ns (length-next h x) w;
      last = λ e. absurd cc;
    }

preceded : (c : Config) (f : Forest) (k : ℕ) (x : Forest) (os : List ℕ) (ns : List Interval) (h : List Call) → Early (length h) os → Within (length h) ns →
    Last h c.below (node f k x) os ns → Tracked (wrap c true (node f k x)) (begin_of_last ns ∷ os) ns (h ++ call.precede ∷ [])
preceded c f k x os [] h l w t = elim t [ ]
preceded c f k x os (n ∷ ns) h l w (finished {m = m} e t) =
    let y : Call = call.precede in
    let s : List StepValue = all_steps x ++ exit ∷ [] in
    let more : n.begin < length (h ++ y ∷ []) = omega (arith, w.0, length-next h y) in
    let begun : Spans ns (push c.below m f) (n.begin ∷ os) s (h ++ y ∷ []) =
    subst (λ (v : List StepValue). Spans ns (push c.below m f) (n.begin ∷ os) v (h ++ y ∷ [])) (append-nil s) (spans-call ns (push c.below m f) (n.begin ∷ os) s h y w.1 t) in record {
      spans = rw e (spans-node n ns c.below m c.marker f os s (h ++ y ∷ []) more begun);
      early = (more, early-next (length h) (length (h ++ y ∷ [])) os (length-next h y) l);
      within = (more, within-next (length h) (length (h ++ y ∷ [])) ns (length-next h y) w.1);
      last = λ e. absurd cc;
    }

tracked-precede : (c : Config) (a : Bool) (f : Forest) (os : List ℕ) (ns : List Interval) (h : List Call) → Early (length h) os → Within (length h) ns → (wrap c a f).sound ≡ true →
    (a ≡ true → Last h c.below f os ns) → Tracked (wrap c a f) (begin_of_last ns ∷ os) ns (h ++ call.precede ∷ [])
tracked-precede c a none os ns h l w d t = absurd cc
tracked-precede c a (leaf f k n) os ns h l w d t = absurd cc
tracked-precede c a (message f m) os ns h l w d t = absurd cc
tracked-precede c a (split f m) os ns h l w d t = absurd cc
tracked-precede c false (node f k x) os ns h l w d t = absurd cc
tracked-precede c true (node f k x) os ns h l w d t = preceded c f k x os ns h l w (t refl)

extended : (c : Config) (r : Stack) (m : Option ℕ) (b f : Forest) (k : ℕ) (x : Forest) (os : List ℕ) (ns : List Interval) (h : List Call) → Early (length h) os → Within (length h) ns →
    Last h (push r m b) (node f k x) os ns → Tracked (stretch c (node f k x) (push r m b)) (drop 1 os) (with_last_from (newest os) ns) (h ++ call.extend ∷ [])
extended c r m b f k x os [] h l w t = elim t [ ]
extended c r m b f k x [] (n ∷ ns) h l w (finished {m = m'} e t) = elim (spans-merge ns (push r m b) m' f n.begin [] (all_steps x ++ exit ∷ []) h t) [ ]
extended c r m b f k x (p ∷ os) (n ∷ ns) h l w (finished {m = m'} e t) =
    let y : Call = call.extend in
    let wide : Interval = record n { begin = p } in
    let s : List StepValue = all_steps (f ⧺ x) ++ exit ∷ [] in
    let more : p < length (h ++ y ∷ []) = omega (arith, l.0, length-next h y) in
    let same : (all_steps f ++ (all_steps x ++ exit ∷ [])) ++ [] ≡ s = simp (all_steps-⧺ f x, append_assoc) in
    let begun : Spans ns (push r m b) (p ∷ os) s (h ++ y ∷ []) =
    subst (λ (v : List StepValue). Spans ns (push r m b) (p ∷ os) v (h ++ y ∷ [])) same
    (spans-call ns (push r m b) (p ∷ os) (all_steps f ++ (all_steps x ++ exit ∷ [])) h y w.1 (spans-merge ns (push r m b) m' f n.begin (p ∷ os) (all_steps x ++ exit ∷ []) h t)) in record {
      spans = rw e (spans-merge (wide ∷ ns) r m b p os (enter n.kind ∷ s) (h ++ y ∷ []) (spans-node wide ns r m m b os s (h ++ y ∷ []) more begun));
      early = early-next (length h) (length (h ++ y ∷ [])) os (length-next h y) l.1;
      within = (more, within-next (length h) (length (h ++ y ∷ [])) ns (length-next h y) w.1);
      last = λ d. finished e begun;
    }

tracked-extend : (c : Config) (f : Forest) (k : Stack) (os : List ℕ) (ns : List Interval) (h : List Call) → Early (length h) os → Within (length h) ns → (stretch c f k).sound ≡ true →
    (c.closed ≡ true → Last h k f os ns) → Tracked (stretch c f k) (drop 1 os) (with_last_from (newest os) ns) (h ++ call.extend ∷ [])
tracked-extend c f floor os ns h l w d t = absurd cc
tracked-extend c none (push r m b) os ns h l w d t = absurd cc
tracked-extend c (leaf f k n) (push r m b) os ns h l w d t = absurd cc
tracked-extend c (message f y) (push r m b) os ns h l w d t = absurd cc
tracked-extend c (split f y) (push r m b) os ns h l w d t = absurd cc
tracked-extend c (node f k x) (push r m b) os ns h l w d t = extended c r m b f k x os ns h l w (t (and_left c.closed c.sound d))

tracked-step : (c : Config) (x : Call) (m : Marked) (h : List Call) → (step c x).sound ≡ true → Tracked c m.markers m.nodes h →
    Tracked (step c x) (marked (length h) x m).markers (marked (length h) x m).nodes (h ++ x ∷ [])
tracked-step c call.start m h d t = tracked-start c m.markers m.nodes h t
tracked-step c call.precede m h d t = tracked-precede c c.closed c.forest m.markers m.nodes h t.early t.within d t.last
tracked-step c (call.finish k) m h d t = tracked-finish k c c.below m.markers m.nodes h t.early t.within d t.spans
tracked-step c call.extend m h d t = tracked-extend c c.forest c.below m.markers m.nodes h t.early t.within d t.last
tracked-step c call.abandon m h d t = tracked-abandon c c.below m.markers m.nodes h t.early t.within d t.spans
tracked-step c (call.token k w) m h d t = tracked-token c k w m.markers m.nodes h t
tracked-step c (call.float_split d) m h e t = tracked-split c d m.markers m.nodes h t
tracked-step c (call.error b) m h d t = tracked-error c b m.markers m.nodes h t

tracked-run : (c : Config) (xs : List Call) (m : Marked) (h : List Call) (l : ℕ) → l ≡ length h → (run c xs).sound ≡ true → Tracked c m.markers m.nodes h →
    Tracked (run c xs) (marked_from l xs m).markers (marked_from l xs m).nodes (h ++ xs)
tracked-run c [] m h l e d t = rw (append-nil h) t
tracked-run c (x ∷ xs) m h l e d t =
    let next : l + 1 ≡ length (h ++ x ∷ []) = omega (arith, e, length-next h x) in
    let now : Tracked (step c x) (marked l x m).markers (marked l x m).nodes (h ++ x ∷ []) = rw e (tracked-step c x m h (sound-run (step c x) xs d) t) in
    subst (λ (ys : List Call). Tracked (run c (x ∷ xs)) (marked_from l (x ∷ xs) m).markers (marked_from l (x ∷ xs) m).nodes ys) (append_assoc h (x ∷ []) xs)
    (tracked-run (step c x) xs (marked l x m) (h ++ x ∷ []) (l + 1) next d now)

tracked-initial : Tracked initial [] [] []
tracked-initial = record { spans = bottom refl; early = tt; within = tt; last = λ e. absurd cc }

-- at the end no marker is open
steps-all : (ns : List Interval) (k : Stack) (os : List ℕ) (s : List StepValue) (h : List Call) → k ≡ floor → Spans ns k os s h → s ≡ steps ns 0 h
steps-all ns k os s h e (bottom t) = t
steps-all ns k os s h e (above xs ys f q below t) = absurd cc

-- where nodes end at the calls that finish them, the steps are the same
steps-ended : (ns : List Interval) (i : ℕ) (xs : List Call) → EndFrom ns i xs → steps_between ns i xs ≡ steps ns i xs
steps-ended ns i [] h = refl
steps-ended ns i (x ∷ xs) h =
    rw (h.0, steps-ended ns (i + 1) xs h.1) (ap (λ (v : List StepValue). begins ns i ++ v) (sym (append_assoc (point x) (stop x) (steps ns (i + 1) xs))))

-- the forest of a history is the tree of its intervals
pub forest_is_tree : (xs : List Call) → (run initial xs).sound ≡ true → (run initial xs).below ≡ floor → splits_placed (run initial xs).forest ≡ true → flat (run initial xs).forest ≡ tree_steps xs
forest_is_tree xs d f p =
    let t : Tracked (run initial xs) (marked_from 0 xs unmarked).markers (nodes_of xs) xs = tracked-run initial xs unmarked [] 0 refl d tracked-initial in
    let ended : EndFrom (nodes_of xs) 0 xs = ends-run xs unmarked 0 [] refl (tt, tt) in
    let all : all_steps (run initial xs).forest ≡ steps_between (nodes_of xs) 0 xs =
    steps-all (nodes_of xs) (run initial xs).below (marked_from 0 xs unmarked).markers (all_steps (run initial xs).forest) xs f t.spans ∙ sym (steps-ended (nodes_of xs) 0 xs ended) in
    sym (without_ends-whole (run initial xs).forest p) ∙ ap without_ends all
