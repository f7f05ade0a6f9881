-- A float that is taken apart, and the field accesses that it ends.
use Rattle.std.proofs.Common.{◌≡◌, ℕ, ◌+◌, ◌≤◌, List, [], ◌∷◌, ◌++◌, length, length-drop, take, Option, Some, Bool, true, false, not, ◌||◌, ◌==◌, refl, sym, ap, ◌∙◌, append_assoc, drop, subst, arith}
use Rattle.std.specs.Prelude.{if◌then◌else◌}
use Rattle.std.proofs.lemmas.Bool.{eq-eqb}
use mathlib.Core.Logic.{∥∥₁_map}
use Rattle.rap_base.specs.TokenKind.{FLOAT_NUMBER}
use Rattle.rap_base.specs.NodeKind.{FIELD_EXPR}
use Rattle.rap_events.specs.Record.{Record, next_kind, joint_at}
use Rattle.rap_events.specs.Forest.{Forest, none, node, split, split_ends, is_ended, splits_last}
use Rattle.rap_events.specs.Cover.{Leaf, of_float, leaves, first_splits}
use Rattle.rap_events.specs.History.{Call, reported_by, history}
use Rattle.rap_events.specs.History as call
use Rattle.rap_events.specs.Machine.{Stack, floor, push, Config, close, step, run, initial, stack_leaves, all_leaves, stack_splits_placed}
use Rattle.rap_events.specs.Fit.{AllFitIn, StackFit, AllFit}
use Rattle.rap_events.specs.State.{view, but_last, last_children, IsLast, SplitFloat}
use Rattle.rap_events.specs.FloatSplit.{split_children, split_calls}
use Rattle.rap_events.specs.declared.event.Event.{Event}
use Rattle.rap_events.specs.declared.parser.CompletedMarker.{CompletedMarker}
use Rattle.rap_events.specs.declared.event.Event.TheVariants as event
use Rattle.rap_events.proofs.Calls.{Kept, Held, stand-push, widths-append, drop-plus, fit_of_plain}
use Rattle.rap_events.proofs.HistoryLemmas.{history-push, reported_by-append}
use Rattle.rap_events.proofs.HistoryLemmas as shows
use Rattle.rap_events.proofs.MachineLemmas.{Rooted, rooted, count_of}
use Rattle.rap_events.proofs.Splits.{Placed, placed, all_placed, Pushed, pushed, both_placed, before_none, node_last}
use Rattle.rap_events.proofs.StepLemmas.{Before}
use Rattle.rap_events.proofs.Truth.{and_both}

run-append : (c : Config) (xs ys : List Call) → run c (xs ++ ys) ≡ run (run c xs) ys
run-append c [] ys = refl
run-append c (x ∷ xs) ys = run-append (step c x) xs ys

-- there is a marker below
record Below (s : Stack) : Type 0 where
  rest : Stack
  marker : Option ℕ
  forest : Forest
  is : s ≡ push rest marker forest

below_of : (s : Stack) (m : Option ℕ) (n : ℕ) → Rooted s m → m ≡ Some n → Below s
below_of floor m n h e = absurd cc
below_of (push r m' b) m n h e = record { rest = r; marker = m'; forest = b; is = refl }

abbrev counted : Bool → ℕ → ℕ
counted true n = (n + 1) + 1
counted false n = (((n + 1) + 1) + 1) + 1

-- what was made then
abbrev after_split : Bool → Config → Stack → Option ℕ → Forest → Config
after_split d c r m b =
    record { count = counted d c.count; messages = c.messages; closed = true; marker = m; forest = node b FIELD_EXPR (split_children c.forest d); below = r; sound = c.sound }

run-split : (d : Bool) (c : Config) (r : Stack) (m : Option ℕ) (b : Forest) → c.below ≡ push r m b → run c (split_calls d) ≡ after_split d c r m b
run-split true c r m b e =
    let one : Config = step c (call.float_split true) in
    let P : Stack → Type 0 = λ s. close FIELD_EXPR one s ≡ after_split true c r m b in
    subst P (sym e) refl
run-split false c r m b e =
    let one : Config = step c (call.float_split false) in
    let P : Stack → Type 0 = λ s. step (step (close FIELD_EXPR one s) call.precede) (call.finish FIELD_EXPR) ≡ after_split false c r m b in
    subst P (sym e) refl

children-leaves : (f : Forest) (d : Bool) → leaves (split_children f d) ≡ leaves f ++ of_float d ∷ []
children-leaves f true = refl
children-leaves f false = refl

children-fit : (f : Forest) (d : Bool) → AllFitIn f → AllFitIn (node none FIELD_EXPR (split_children f d))
children-fit f true a = (tt, a, fit_of_plain FIELD_EXPR (split f true) refl)
children-fit f false a = (tt, (tt, a, fit_of_plain FIELD_EXPR (split f false) refl), fit_of_plain FIELD_EXPR (node none FIELD_EXPR (split f false)) refl)

-- what such a field access is
record Access (f : Forest) (d : Bool) : Type 0 where
  last : splits_last (split_children f d) ≡ true
  kind : (is_ended (split_children f d) || (FIELD_EXPR == FIELD_EXPR)) ≡ true
  ended : (b : Forest) → split_ends (node b FIELD_EXPR (split_children f d)) ≡ 0

access : (f : Forest) (d : Bool) → Before f → Access f d
access f true p = record { last = both_placed f p; kind = refl; ended = λ b. refl }
access f false p = record { last = node_last none FIELD_EXPR (split f false) before_none (both_placed f p) refl; kind = refl; ended = λ b. refl }

split-placed : (d : Bool) (c : Config) (r : Stack) (m : Option ℕ) (b : Forest) → c.below ≡ push r m b → Placed c → Placed (after_split d c r m b)
split-placed d c r m b e p =
    let q : Pushed r b = pushed r m b (ap stack_splits_placed (sym e) ∙ p.below) in
    let a : Access c.forest d = access c.forest d p.forest in
    record { below = q.below; forest = record { last = node_last b FIELD_EXPR (split_children c.forest d) q.forest a.last a.kind; ended = a.ended b } }

split-leaves : (d : Bool) (c : Config) (r : Stack) (m : Option ℕ) (b : Forest) → c.below ≡ push r m b → all_leaves (after_split d c r m b) ≡ all_leaves c ++ of_float d ∷ []
split-leaves d c r m b e =
    ap (λ (ls : List Leaf). stack_leaves r ++ (leaves b ++ ls)) (children-leaves c.forest d)
    ∙ sym (append_assoc (stack_leaves r) (leaves b) (leaves c.forest ++ of_float d ∷ []))
    ∙ sym (append_assoc (stack_leaves r ++ leaves b) (leaves c.forest) (of_float d ∷ []))
    ∙ ap (λ (s : Stack). (stack_leaves s ++ leaves c.forest) ++ of_float d ∷ []) (sym e)

split-fit : (d : Bool) (c : Config) (r : Stack) (m : Option ℕ) (b : Forest) → c.below ≡ push r m b → AllFit c → AllFit (after_split d c r m b)
split-fit d c r m b e a =
    let s : StackFit (push r m b) = subst StackFit e a.0 in
    let x = children-fit c.forest d a.1 in
    (s.0, (s.1, x.1, x.2))

-- a float comes first
splits_first : (rs : List Record) (d : Bool) → next_kind rs ≡ FLOAT_NUMBER → joint_at rs 0 ≡ not d → first_splits rs d ≡ true
splits_first [] d k j = absurd cc
splits_first (r ∷ rs) true k j = and_both (r.kind == FLOAT_NUMBER) (if r.joint then false else true) (eq-eqb r.kind FLOAT_NUMBER k) (ap (λ (b : Bool). if b then false else true) j)
splits_first (r ∷ rs) false k j = and_both (r.kind == FLOAT_NUMBER) (if r.joint then true else false) (eq-eqb r.kind FLOAT_NUMBER k) (ap (λ (b : Bool). if b then true else false) j)

pub float_within : (rs : List Record) → next_kind rs ≡ FLOAT_NUMBER → 1 ≤ length rs
float_within [] k = absurd cc
float_within (r ∷ rs) k = omega arith

module _ (input : List Record) (pos : ℕ) (xs : List Call) (d : Bool) (n : ℕ) (marker : (run initial xs).marker ≡ Some n) where
  abbrev c : Config
  c = run initial xs

  place : Below c.below
  place = below_of c.below c.marker n (rooted xs) marker

  done : run initial (xs ++ split_calls d) ≡ after_split d c place.rest place.marker place.forest
  done = run-append initial xs (split_calls d) ∙ run-split d c place.rest place.marker place.forest place.is

  pub kept-split : next_kind (drop pos input) ≡ FLOAT_NUMBER → joint_at (drop pos input) 0 ≡ not d → Kept c input pos → Kept (run initial (xs ++ split_calls d)) input (pos + 1)
  kept-split k j h =
      let e = split-leaves d c place.rest place.marker place.forest place.is in
      rw done (record {
        sound = h.sound;
        covers = rw e (stand-push (all_leaves c) (of_float d) input h.covers (rw h.place (splits_first (drop pos input) d k j)));
        place = rw e (omega (arith, widths-append (all_leaves c) (of_float d ∷ []), h.place));
        splits = all_placed _ (split-placed d c place.rest place.marker place.forest place.is (placed c h.splits));
        fit = λ z. ∥∥₁_map (h.fit z) (split-fit d c place.rest place.marker place.forest place.is);
      })

  many : counted d c.count ≡ c.count + length (split_calls d)
  many = elim d as (λ v. counted v c.count ≡ c.count + length (split_calls v)) [ true ↦ omega arith | false ↦ omega arith ]

  pub split_state : (cm : CompletedMarker) → next_kind (drop pos input) ≡ FLOAT_NUMBER → joint_at (drop pos input) 0 ≡ not d → cm.end.value ≡ length xs + length (split_calls d) → cm.kind.value ≡ FIELD_EXPR →
      SplitFloat (view input (drop pos input) c) (view input (drop (pos + 1) input) (run initial (xs ++ split_calls d))) d
      × IsLast (view input (drop (pos + 1) input) (run initial (xs ++ split_calls d))) cm FIELD_EXPR
  unfolding but_last last_children
  split_state cm k j e i = rw done (
    record {
      decided = j;
      input = refl;
      rest = drop-plus input pos 1;
      left = omega (arith, length-drop pos input, length-drop (pos + 1) input, float_within (drop pos input) k);
      count = many;
      messages = refl;
      below = place.is;
      forest = refl;
      children = refl;
    },
    record { kind = i; end = omega (arith, e, many, count_of xs); closed = refl; forest = refl },
  )

-- the events that show it
abbrev pub split_events : Bool → List Event
split_events true = event.FloatSplit true ∷ event.Finish FIELD_EXPR ∷ []
split_events false = event.FloatSplit false ∷ event.Finish FIELD_EXPR ∷ event.Precede ∷ event.Finish FIELD_EXPR ∷ []

history-two : (es : List Event) (ms : List (List ℕ)) (e f : Event) (x y : Call) → shows.Shows e x → shows.Shows f y → history (es ++ e ∷ f ∷ []) ms ≡ history es ms ++ x ∷ y ∷ []
history-two es ms e f x y s t =
    ap (λ (l : List Event). history l ms) (sym (append_assoc es (e ∷ []) (f ∷ [])))
    ∙ history-push (es ++ e ∷ []) ms f y t
    ∙ ap (λ (l : List Call). l ++ y ∷ []) (history-push es ms e x s)
    ∙ append_assoc (history es ms) (x ∷ []) (y ∷ [])

pub split_history : (es : List Event) (ms : List (List ℕ)) (d : Bool) → history (es ++ split_events d) ms ≡ history es ms ++ split_calls d
split_history es ms true = history-two es ms _ _ _ _ (shows.float_split true) (shows.finish FIELD_EXPR)
split_history es ms false =
    ap (λ (l : List Event). history l ms) (sym (append_assoc es (event.FloatSplit false ∷ event.Finish FIELD_EXPR ∷ []) (event.Precede ∷ event.Finish FIELD_EXPR ∷ [])))
    ∙ history-two (es ++ event.FloatSplit false ∷ event.Finish FIELD_EXPR ∷ []) ms _ _ _ _ shows.precede (shows.finish FIELD_EXPR)
    ∙ ap (λ (l : List Call). l ++ call.precede ∷ call.finish FIELD_EXPR ∷ []) (history-two es ms _ _ _ _ (shows.float_split false) (shows.finish FIELD_EXPR))
    ∙ append_assoc (history es ms) (call.float_split false ∷ call.finish FIELD_EXPR ∷ []) (call.precede ∷ call.finish FIELD_EXPR ∷ [])

split_silent : (d : Bool) → reported_by (split_events d) ≡ 0
split_silent true = refl
split_silent false = refl

pub held-split : (es : List Event) (ms : List (List ℕ)) (m : ℕ) (input : List Record) (pos : ℕ) (d : Bool) (n : ℕ) → (run initial (history es ms)).marker ≡ Some n →
    next_kind (drop pos input) ≡ FLOAT_NUMBER → joint_at (drop pos input) 0 ≡ not d → Held es ms m input pos → Held (es ++ split_events d) ms m input (pos + 1)
held-split es ms m input pos d n marker k j h = record {
  reported = omega (arith, reported_by-append es (split_events d), split_silent d, h.reported);
  kept = rw (split_history es ms d) (kept-split input pos (history es ms) d n marker k j h.kept);
}

pub split_taken : (d : Bool) (n : ℕ) → n ≡ length (split_events d) → take n (event.FloatSplit d ∷ event.Finish FIELD_EXPR ∷ event.Precede ∷ event.Finish FIELD_EXPR ∷ []) ≡ split_events d
split_taken true n e = rw e refl
split_taken false n e = rw e refl

pub split_lengths : (d : Bool) → length (split_events d) ≡ length (split_calls d)
split_lengths true = refl
split_lengths false = refl

pub not_not : (b : Bool) → b ≡ not (not b)
not_not true = refl
not_not false = refl
