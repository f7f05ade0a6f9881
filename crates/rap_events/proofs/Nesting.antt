-- Of two nodes one ends before the other begins, or stands inside it.
use Rattle.std.proofs.Common.{◌≡◌, ℕ, ◌+◌, ◌<◌, ◌≤◌, List, [], ◌∷◌, drop, Bool, true, false, ◌⊎◌, inl, inr, refl, arith}
use Rattle.std.specs.Prelude.{All, AllPairs}
use Rattle.std.proofs.lemmas.List.Elements.{All-nil, All-cons}
use Rattle.std.proofs.lemmas.List.Kept.{AllPairs-cons}
use Rattle.rap_events.specs.Forest.{Forest, none, node, leaf, message, split}
use Rattle.rap_events.specs.History.{Call}
use Rattle.rap_events.specs.History as call
use Rattle.rap_events.specs.Machine.{Stack, floor, push, Config, merge, wrap, stretch, step, run, initial}
use Rattle.rap_events.specs.Interval.{Interval, Marked, newest, begin_of_last, with_last_from, marked, marked_from, unmarked, nodes_of, Nested}
use Rattle.rap_events.proofs.MachineLemmas.{sound-run}
use Rattle.rap_events.proofs.Ends.{Ended, ended-next, ended-moved}

-- each of these nodes was finished earlier, and stands before this one or inside it
abbrev Around : Interval → List Interval → Type 0
Around n [] = Unit {0}
Around n (m ∷ ms) = Nested n m × Around n ms

abbrev AllNested : List Interval → Type 0
AllNested [] = Unit {0}
AllNested (n ∷ ns) = Around n ns × AllNested ns

-- no node has ended and contains this number
abbrev Clear : ℕ → List Interval → Type 0
Clear p [] = Unit {0}
Clear p (m ∷ ms) = ((m.end < p) ⊎ (p ≤ m.begin)) × Clear p ms

abbrev AllClear : List ℕ → List Interval → Type 0
AllClear [] ns = Unit {0}
AllClear (p ∷ ps) ns = Clear p ns × AllClear ps ns

-- these markers begin no later than this number
abbrev Older : ℕ → List ℕ → Type 0
Older p [] = Unit {0}
Older p (q ∷ qs) = (q ≤ p) × Older p qs

abbrev AllOlder : List ℕ → Type 0
AllOlder [] = Unit {0}
AllOlder (p ∷ ps) = Older p ps × AllOlder ps

-- where markers and nodes stand after so many calls, the last of which may have finished a node
record Placed (closed : Bool) (l : ℕ) (m : Marked) : Type 0 where
  nested : AllNested m.nodes
  clear : AllClear m.markers m.nodes
  older : AllOlder m.markers
  early : Older l m.markers
  begun : begin_of_last m.nodes ≤ l
  ended : Ended l m.nodes
  last : closed ≡ true → Older (begin_of_last m.nodes) m.markers

clear-end : (l : ℕ) (ns : List Interval) → Ended l ns → Clear l ns
clear-end l [] h = tt
clear-end l (n ∷ ns) h = (inl h.0, clear-end l ns h.1)

clear-zero : (ns : List Interval) → Clear 0 ns
clear-zero [] = tt
clear-zero (n ∷ ns) = (inr (omega arith), clear-zero ns)

clear-around : (n : Interval) (ns : List Interval) → Around n ns → Clear n.begin ns
clear-around n [] h = tt
clear-around n (m ∷ ms) h = (h.0.place, clear-around n ms h.1)

clear-last : (ns : List Interval) → AllNested ns → Clear (begin_of_last ns) ns
clear-last [] h = tt
clear-last (n ∷ ns) h = (inr (omega arith), clear-around n ns h.0)

clear-newest : (ps : List ℕ) (ns : List Interval) → AllClear ps ns → Clear (newest ps) ns
clear-newest [] ns h = clear-zero ns
clear-newest (p ∷ ps) ns h = h.0

-- a node that ends now, and begins at a clear number
around-new : (n : Interval) (ns : List Interval) → Ended n.end ns → Clear n.begin ns → Around n ns
around-new n [] e h = tt
around-new n (m ∷ ms) e h = (record { end = e.0; place = h.0 }, around-new n ms e.1 h.1)

-- a node that begins elsewhere, at a clear number
around-moved : (p : ℕ) (n : Interval) (ns : List Interval) → Around n ns → Clear p ns → Around (record n { begin = p }) ns
around-moved p n [] a h = tt
around-moved p n (m ∷ ms) a h = (record { end = a.0.end; place = h.0 }, around-moved p n ms a.1 h.1)

-- older markers are clear of a node that begins no earlier
clear-new : (n : Interval) (ps : List ℕ) (ns : List Interval) → Older n.begin ps → AllClear ps ns → AllClear ps (n ∷ ns)
clear-new n [] ns o h = tt
clear-new n (p ∷ ps) ns o h = ((inr o.0, h.0), clear-new n ps ns o.1 h.1)

clear-others : (n : Interval) (ps : List ℕ) (ns : List Interval) → AllClear ps (n ∷ ns) → AllClear ps ns
clear-others n [] ns h = tt
clear-others n (p ∷ ps) ns h = (h.0.1, clear-others n ps ns h.1)

clear-tail : (ps : List ℕ) (ns : List Interval) → AllClear ps ns → AllClear (drop 1 ps) ns
clear-tail [] ns h = h
clear-tail (p ∷ ps) ns h = h.1

older-tail : (ps : List ℕ) → AllOlder ps → AllOlder (drop 1 ps)
older-tail [] h = h
older-tail (p ∷ ps) h = h.1

older-newest : (ps : List ℕ) → AllOlder ps → Older (newest ps) (drop 1 ps)
older-newest [] h = tt
older-newest (p ∷ ps) h = h.0

early-tail : (l : ℕ) (ps : List ℕ) → Older l ps → Older l (drop 1 ps)
early-tail l [] h = h
early-tail l (p ∷ ps) h = h.1

older-more : (l l' : ℕ) (ps : List ℕ) → l ≤ l' → Older l ps → Older l' ps
older-more l l' [] e h = tt
older-more l l' (p ∷ ps) e h = (omega (arith, h.0), older-more l l' ps e h.1)

newest-early : (l : ℕ) (ps : List ℕ) → Older l ps → newest ps ≤ l
newest-early l [] h = omega arith
newest-early l (p ∷ ps) h = h.0

-- a call that makes no node and no marker
placed-still : (closed : Bool) (l : ℕ) (m : Marked) → Placed closed l m → Placed false (l + 1) m
placed-still closed l m h = record {
  nested = h.nested;
  clear = h.clear;
  older = h.older;
  early = older-more l (l + 1) m.markers (omega arith) h.early;
  begun = omega (arith, h.begun);
  ended = ended-next l m.nodes h.ended;
  last = λ e. absurd cc;
}

placed-start : (closed : Bool) (l : ℕ) (m : Marked) → Placed closed l m → Placed false (l + 1) (marked l call.start m)
placed-start closed l m h = record {
  nested = h.nested;
  clear = (clear-end l m.nodes h.ended, h.clear);
  older = (h.early, h.older);
  early = (omega arith, older-more l (l + 1) m.markers (omega arith) h.early);
  begun = omega (arith, h.begun);
  ended = ended-next l m.nodes h.ended;
  last = λ e. absurd cc;
}

placed-precede : (l : ℕ) (m : Marked) → Placed true l m → Placed false (l + 1) (marked l call.precede m)
placed-precede l m h = record {
  nested = h.nested;
  clear = (clear-last m.nodes h.nested, h.clear);
  older = (h.last refl, h.older);
  early = (omega (arith, h.begun), older-more l (l + 1) m.markers (omega arith) h.early);
  begun = omega (arith, h.begun);
  ended = ended-next l m.nodes h.ended;
  last = λ e. absurd cc;
}

placed-abandon : (closed : Bool) (l : ℕ) (m : Marked) → Placed closed l m → Placed false (l + 1) (marked l call.abandon m)
placed-abandon closed l m h = record {
  nested = h.nested;
  clear = clear-tail m.markers m.nodes h.clear;
  older = older-tail m.markers h.older;
  early = early-tail (l + 1) m.markers (older-more l (l + 1) m.markers (omega arith) h.early);
  begun = omega (arith, h.begun);
  ended = ended-next l m.nodes h.ended;
  last = λ e. absurd cc;
}

placed-finish : (closed closed' : Bool) (k l : ℕ) (m : Marked) → Placed closed l m → Placed closed' (l + 1) (marked l (call.finish k) m)
placed-finish closed closed' k l m h =
    let n : Interval = record { kind = k; begin = newest m.markers; end = l } in
    let tail : AllClear (drop 1 m.markers) m.nodes = clear-tail m.markers m.nodes h.clear in
    let inside : Older (newest m.markers) (drop 1 m.markers) = older-newest m.markers h.older in record {
      nested = (around-new n m.nodes h.ended (clear-newest m.markers m.nodes h.clear), h.nested);
      clear = clear-new n (drop 1 m.markers) m.nodes inside tail;
      older = older-tail m.markers h.older;
      early = early-tail (l + 1) m.markers (older-more l (l + 1) m.markers (omega arith) h.early);
      begun = omega (arith, newest-early l m.markers h.early);
      ended = (omega arith, ended-next l m.nodes h.ended);
      last = λ e. inside;
    }

moved-nested : (p : ℕ) (ns : List Interval) → Clear p ns → AllNested ns → AllNested (with_last_from p ns)
moved-nested p [] c h = h
moved-nested p (n ∷ ns) c h = (around-moved p n ns h.0 c.1, h.1)

moved-clear : (p : ℕ) (ps : List ℕ) (ns : List Interval) → Older p ps → AllClear ps ns → AllClear ps (with_last_from p ns)
moved-clear p ps [] o h = h
moved-clear p ps (n ∷ ns) o h = clear-new (record n { begin = p }) ps ns o (clear-others n ps ns h)

moved-begun : (p l : ℕ) (ns : List Interval) → p ≤ l → begin_of_last (with_last_from p ns) ≤ l
moved-begun p l [] h = omega arith
moved-begun p l (n ∷ ns) h = h

moved-last : (p : ℕ) (ps : List ℕ) (ns : List Interval) → Older p ps → Older (begin_of_last ns) ps → Older (begin_of_last (with_last_from p ns)) ps
moved-last p ps [] o h = h
moved-last p ps (n ∷ ns) o h = o

older-drop : (p : ℕ) (ps : List ℕ) → Older p ps → Older p (drop 1 ps)
older-drop p [] h = h
older-drop p (q ∷ qs) h = h.1

placed-extend : (closed : Bool) (l : ℕ) (m : Marked) → Placed closed l m → Placed closed (l + 1) (marked l call.extend m)
placed-extend closed l m h =
    let p : ℕ = newest m.markers in
    let tail : AllClear (drop 1 m.markers) m.nodes = clear-tail m.markers m.nodes h.clear in
    let inside : Older p (drop 1 m.markers) = older-newest m.markers h.older in
    let soon : p ≤ l = newest-early l m.markers h.early in record {
      nested = moved-nested p m.nodes (clear-newest m.markers m.nodes h.clear) h.nested;
      clear = moved-clear p (drop 1 m.markers) m.nodes inside tail;
      older = older-tail m.markers h.older;
      early = early-tail (l + 1) m.markers (older-more l (l + 1) m.markers (omega arith) h.early);
      begun = moved-begun p (l + 1) m.nodes (omega (arith, soon));
      ended = ended-moved p (l + 1) m.nodes (ended-next l m.nodes h.ended);
      last = λ e. moved-last p (drop 1 m.markers) m.nodes inside (older-drop (begin_of_last m.nodes) m.markers (h.last e));
    }

-- only a node that was just finished is preceded
wrap-closed : (c : Config) (a : Bool) (f : Forest) → (wrap c a f).sound ≡ true → (a ≡ true) × ((wrap c a f).closed ≡ false)
wrap-closed c a none d = absurd cc
wrap-closed c a (leaf f k w) d = absurd cc
wrap-closed c a (message f m) d = absurd cc
wrap-closed c a (split f m) d = absurd cc
wrap-closed c false (node f k x) d = absurd cc
wrap-closed c true (node f k x) d = (refl, refl)

merge-closed : (c : Config) (s : Stack) → (merge c s).closed ≡ false
merge-closed c floor = refl
merge-closed c (push r m b) = refl

stretch-closed : (c : Config) (f : Forest) (s : Stack) → (stretch c f s).sound ≡ true → (stretch c f s).closed ≡ c.closed
stretch-closed c f floor d = absurd cc
stretch-closed c none (push r m b) d = absurd cc
stretch-closed c (leaf f k w) (push r m b) d = absurd cc
stretch-closed c (message f y) (push r m b) d = absurd cc
stretch-closed c (split f y) (push r m b) d = absurd cc
stretch-closed c (node f k x) (push r m b) d = refl

placed-step : (c : Config) (x : Call) (l : ℕ) (m : Marked) → (step c x).sound ≡ true → Placed c.closed l m → Placed (step c x).closed (l + 1) (marked l x m)
placed-step c call.start l m d h = placed-start c.closed l m h
placed-step c call.precede l m d h =
    let e = wrap-closed c c.closed c.forest d in
    rw e.1 (placed-precede l m (rw e.0 at h))
placed-step c (call.finish k) l m d h = placed-finish c.closed (step c (call.finish k)).closed k l m h
placed-step c call.extend l m d h = rw (stretch-closed c c.forest c.below d) (placed-extend c.closed l m h)
placed-step c call.abandon l m d h = rw (merge-closed c c.below) (placed-abandon c.closed l m h)
placed-step c (call.token k w) l m d h = placed-still c.closed l m h
placed-step c (call.float_split e) l m d h = placed-still c.closed l m h
placed-step c (call.error b) l m d h = placed-still c.closed l m h

placed-run : (c : Config) (xs : List Call) (l : ℕ) (m : Marked) → (run c xs).sound ≡ true → Placed c.closed l m → AllNested (marked_from l xs m).nodes
placed-run c [] l m d h = h.nested
placed-run c (x ∷ xs) l m d h = placed-run (step c x) xs (l + 1) (marked l x m) d (placed-step c x l m (sound-run (step c x) xs d) h)

all-around : (n : Interval) (ns : List Interval) → Around n ns → All (Nested n) ns
all-around n [] h = All-nil (Nested n)
all-around n (m ∷ ms) h = All-cons (Nested n) m ms h.0 (all-around n ms h.1)

all-pairs : (ns : List Interval) → AllNested ns → AllPairs Nested ns
all-pairs [] h = λ i j d p q. absurd (omega arith)
all-pairs (n ∷ ns) h = AllPairs-cons Nested n ns (all-around n ns h.0) (all-pairs ns h.1)

-- the intervals of a history are nested
pub nodes_nest : (xs : List Call) → (run initial xs).sound ≡ true → AllPairs Nested (nodes_of xs)
nodes_nest xs d =
    all-pairs (nodes_of xs) (placed-run initial xs 0 unmarked d (record { nested = tt; clear = tt; older = tt; early = tt; begun = omega arith; ended = tt; last = λ e. tt }))
