-- The calls at which nodes end.
use Rattle.std.proofs.Common.{◌≡◌, ◌≢◌, ℕ, ◌+◌, ◌<◌, ◌≤◌, List, [], ◌∷◌, ◌++◌, Bool, refl, sym, ap, ◌∙◌, append_assoc, append-nil, length, length-append, subst, arith}
use Rattle.std.specs.Prelude.{if◌then◌else◌}
use Rattle.std.proofs.lemmas.Bool.{eq-eqb, ne_eqb}
use Rattle.rap_events.specs.StepValue.{StepValue, exit}
use Rattle.rap_events.specs.History.{Call}
use Rattle.rap_events.specs.History as call
use Rattle.rap_events.specs.Interval.{Interval, Marked, newest, with_last_from, marked, marked_from, ends}

pub length-next : (h : List Call) (x : Call) → length (h ++ x ∷ []) ≡ length h + 1
length-next h x = length-append h (x ∷ [])

-- a finish ends a node
abbrev pub stop : Call → List StepValue
stop call.start = []
stop call.precede = []
stop (call.finish kind) = exit ∷ []
stop call.extend = []
stop call.abandon = []
stop (call.token kind width) = []
stop (call.float_split ends_in_dot) = []
stop (call.error bytes) = []

-- all nodes end before a number
abbrev pub Ended : ℕ → List Interval → Type 0
Ended l [] = Unit {0}
Ended l (n ∷ ns) = (n.end < l) × Ended l ns

pub ended-next : (l : ℕ) (ns : List Interval) → Ended l ns → Ended (l + 1) ns
ended-next l [] h = tt
ended-next l (n ∷ ns) h = (omega (arith, h.0), ended-next l ns h.1)

ends-other : (n : Interval) (ns : List Interval) (i : ℕ) → n.end ≢ i → ends (n ∷ ns) i ≡ ends ns i
ends-other n ns i h = ap (λ (b : Bool). if b then exit ∷ ends ns i else ends ns i) (ne_eqb n.end i h)

ends-here : (n : Interval) (ns : List Interval) (i : ℕ) → n.end ≡ i → ends (n ∷ ns) i ≡ exit ∷ ends ns i
ends-here n ns i h = ap (λ (b : Bool). if b then exit ∷ ends ns i else ends ns i) (eq-eqb n.end i h)

ends-none : (l : ℕ) (ns : List Interval) → Ended l ns → ends ns l ≡ []
ends-none l [] h = refl
ends-none l (n ∷ ns) h = ends-other n ns l (λ e. omega (arith, h.0)) ∙ ends-none l ns h.1

-- from a number on, nodes end where the calls say
abbrev pub EndFrom : List Interval → ℕ → List Call → Type 0
EndFrom ns i [] = Unit {0}
EndFrom ns i (x ∷ xs) = (ends ns i ≡ stop x) × EndFrom ns (i + 1) xs

-- one call more
end_from-call : (ns : List Interval) (i l : ℕ) (xs : List Call) (x : Call) → l ≡ i + length xs → ends ns l ≡ stop x → EndFrom ns i xs → EndFrom ns i (xs ++ x ∷ [])
end_from-call ns i l [] x e f h = (ap (ends ns) (omega (arith, e)) ∙ f, tt)
end_from-call ns i l (y ∷ xs) x e f h = (h.0, end_from-call ns (i + 1) l xs x (omega (arith, e)) f h.1)

-- a node that ends later
end_from-later : (n : Interval) (ns : List Interval) (i : ℕ) (xs : List Call) → i + length xs ≤ n.end → EndFrom ns i xs → EndFrom (n ∷ ns) i xs
end_from-later n ns i [] l h = tt
end_from-later n ns i (x ∷ xs) l h = (ends-other n ns i (λ e. omega arith) ∙ h.0, end_from-later n ns (i + 1) xs (omega arith) h.1)

-- a node that begins elsewhere
end_from-moved : (begin : ℕ) (ns : List Interval) (i : ℕ) (xs : List Call) → EndFrom ns i xs → EndFrom (with_last_from begin ns) i xs
end_from-moved begin [] i xs h = h
end_from-moved begin (n ∷ ns) i [] h = tt
end_from-moved begin (n ∷ ns) i (x ∷ xs) h = (h.0, end_from-moved begin (n ∷ ns) (i + 1) xs h.1)

pub ended-moved : (begin l : ℕ) (ns : List Interval) → Ended l ns → Ended l (with_last_from begin ns)
ended-moved begin l [] h = h
ended-moved begin l (n ∷ ns) h = h

-- Nodes end where calls say, and before this number. A call that finishes no node leaves that so.
quiet : (ns : List Interval) (l : ℕ) (h : List Call) (x : Call) → l ≡ length h → stop x ≡ [] → EndFrom ns 0 h × Ended l ns → EndFrom ns 0 (h ++ x ∷ []) × Ended (l + 1) ns
quiet ns l h x e s t = (end_from-call ns 0 l h x (omega (arith, e)) (ends-none l ns t.1 ∙ sym s) t.0, ended-next l ns t.1)

ends-step : (x : Call) (m : Marked) (l : ℕ) (h : List Call) → l ≡ length h → EndFrom m.nodes 0 h × Ended l m.nodes →
    EndFrom (marked l x m).nodes 0 (h ++ x ∷ []) × Ended (l + 1) (marked l x m).nodes
ends-step call.start m l h e t = quiet m.nodes l h call.start e refl t
ends-step call.precede m l h e t = quiet m.nodes l h call.precede e refl t
ends-step (call.finish k) m l h e t =
    let n : Interval = record { kind = k; begin = newest m.markers; end = l } in (
      end_from-call (n ∷ m.nodes) 0 l h (call.finish k) (omega (arith, e)) (ends-here n m.nodes l refl ∙ ap (λ (v : List StepValue). exit ∷ v) (ends-none l m.nodes t.1)) (end_from-later n m.nodes 0 h (omega (arith, e)) t.0),
      (omega arith, ended-next l m.nodes t.1),
    )
ends-step call.extend m l h e t =
    let b : ℕ = newest m.markers in
    quiet (with_last_from b m.nodes) l h call.extend e refl (end_from-moved b m.nodes 0 h t.0, ended-moved b l m.nodes t.1)
ends-step call.abandon m l h e t = quiet m.nodes l h call.abandon e refl t
ends-step (call.token k w) m l h e t = quiet m.nodes l h (call.token k w) e refl t
ends-step (call.float_split d) m l h e t = quiet m.nodes l h (call.float_split d) e refl t
ends-step (call.error b) m l h e t = quiet m.nodes l h (call.error b) e refl t

pub ends-run : (xs : List Call) (m : Marked) (l : ℕ) (h : List Call) → l ≡ length h → EndFrom m.nodes 0 h × Ended l m.nodes → EndFrom (marked_from l xs m).nodes 0 (h ++ xs)
ends-run [] m l h e t = rw (append-nil h) t.0
ends-run (x ∷ xs) m l h e t =
    subst (EndFrom (marked_from l (x ∷ xs) m).nodes 0) (append_assoc h (x ∷ []) xs)
    (ends-run xs (marked l x m) (l + 1) (h ++ x ∷ []) (omega (arith, e, length-next h x)) (ends-step x m l h e t))
