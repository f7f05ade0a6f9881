-- Whether the last steps of an output show that it ends with a leaf of a kind, inside so many nodes.
use Rattle.std.proofs.Common.{◌≡◌, ℕ, zero, suc, ◌+◌, ◌-◌, ◌≤◌, ◌<◌, List, [], ◌∷◌, ◌++◌, false, inl, inr, refl, ap, sym, ◌∙◌, arith, append_assoc, append-nil, eq-eqb, length, drop}
use Rattle.std.specs.Prelude.{◌==◌}
use Rattle.std.proofs.lemmas.Bool.{cases_eq, ne_eqb, cond-true, cond-false, cases_Bool}
use Rattle.rap_events.specs.StepValue.{StepValue, enter, exit, token, float_split, error}
use Rattle.rap_events.specs.Forest.{Forest, none, node, leaf, message, split, flat, split_ends, exit_of, ends_in}
use Rattle.rap_events.specs.LastSteps.{at_token, left_behind}
use Rattle.rap_events.specs.Output.{values}
use Rattle.rap_events.specs.Reading.{forest_of}
use Rattle.rap_events.specs.declared.event.Event.{Event}
use Rattle.rap_events.specs.declared.event.Event.TheVariants as event
use Rattle.rap_events.proofs.Values.{values_length}

-- what is left behind a forest
left : ℕ → ℕ → ℕ → Forest → ℕ
left kind n m none = m
left kind n m (node before other children) = left kind n 0 children - 1
left kind n m (leaf before other width) = at_token kind n other
left kind n m (message before bytes) = 0
left kind n m (split before ends_in_dot) = 0

-- behind a float that is taken apart nothing is left
none_left : (kind n : ℕ) (f : Forest) → 0 < split_ends f → left kind n 0 f ≡ 0
unfolding left
none_left kind n none h = refl
none_left kind n (node b k x) h = omega (arith, none_left kind n x (omega arith))
none_left kind n (leaf b k w) h = absurd (omega arith)
none_left kind n (message b m) h = refl
none_left kind n (split b e) h = refl

past_end : (kind n m k : ℕ) (ss : List StepValue) → (0 < k → m ≡ 0) → left_behind kind n m (exit_of k ++ ss) ≡ left_behind kind n (m - 1) ss
past_end kind n m zero ss h = refl
past_end kind n m (suc k) ss h =
    let e : m ≡ 0 = h (omega arith) in
    let same : m ≡ m - 1 = omega (arith, e) in
    ap (λ (i : ℕ). left_behind kind n i ss) same

along : (kind n m : ℕ) (f : Forest) (ss : List StepValue) → left_behind kind n m (flat f ++ ss) ≡ left_behind kind n (left kind n m f) ss
unfolding left
along kind n m none ss = refl
along kind n m (node b k x) ss =
    rw (append_assoc (flat b) (enter k ∷ (flat x ++ exit_of (split_ends x))) ss, append_assoc (flat x) (exit_of (split_ends x)) ss)
    (along kind n m b (enter k ∷ (flat x ++ (exit_of (split_ends x) ++ ss)))
    ∙ (along kind n 0 x (exit_of (split_ends x) ++ ss) ∙ past_end kind n (left kind n 0 x) (split_ends x) ss (none_left kind n x)))
along kind n m (leaf b k w) ss = rw (append_assoc (flat b) (token k w ∷ []) ss) (along kind n m b (token k w ∷ ss))
along kind n m (message b e) ss = rw (append_assoc (flat b) (error e ∷ []) ss) (along kind n m b (error e ∷ ss))
along kind n m (split b d) ss = rw (append_assoc (flat b) (float_split d ∷ []) ss) (along kind n m b (float_split d ∷ ss))

at_most : (kind n other : ℕ) → at_token kind n other ≤ n + 1
at_most kind n other = elim (cases_Bool (other == kind)) [
  | inl h ↦ omega (arith, cond-true (other == kind) (n + 1) 0 h)
  | inr h ↦ omega (arith, cond-false (other == kind) (n + 1) 0 h)
]

few_left : (kind n : ℕ) (f : Forest) → left kind n 0 f ≤ n + 1
unfolding left
few_left kind n none = omega arith
few_left kind n (node b k x) = omega (arith, few_left kind n x)
few_left kind n (leaf b k w) = at_most kind n k
few_left kind n (message b m) = omega arith
few_left kind n (split b d) = omega arith

same_test : (a b c d : ℕ) → (a ≡ b → c ≡ d) → (c ≡ d → a ≡ b) → (a == b) ≡ (c == d)
same_test a b c d to from = elim (cases_eq c d) [
  | inl h ↦ eq-eqb a b (from h) ∙ sym (eq-eqb c d h)
  | inr h ↦ ne_eqb a b (λ e. h (to e)) ∙ sym (ne_eqb c d h)
]

at_kind : (kind e other : ℕ) → (at_token kind e other == (e + 1)) ≡ (other == kind)
at_kind kind e other = elim (cases_Bool (other == kind)) [
  | inl h ↦ eq-eqb (at_token kind e other) (e + 1) (cond-true (other == kind) (e + 1) 0 h) ∙ sym h
  | inr h ↦ ne_eqb (at_token kind e other) (e + 1) (λ same. absurd (omega (arith, same, cond-false (other == kind) (e + 1) 0 h))) ∙ sym h
]

past_kind : (kind n e other : ℕ) → e < n → (at_token kind n other == (e + 1)) ≡ false
past_kind kind n e other less = elim (cases_Bool (other == kind)) [
  | inl h ↦ ne_eqb (at_token kind n other) (e + 1) (λ same. absurd (omega (arith, less, same, cond-true (other == kind) (n + 1) 0 h)))
  | inr h ↦ ne_eqb (at_token kind n other) (e + 1) (λ same. absurd (omega (arith, less, same, cond-false (other == kind) (n + 1) 0 h)))
]

-- so many of the wanted ends being those of nodes around
shows : (kind n d e : ℕ) (f : Forest) → n ≡ d + e → (left kind n 0 f == (e + 1)) ≡ ends_in kind d f
unfolding left
shows kind n d e none sum = ne_eqb 0 (e + 1) (λ same. absurd (omega (arith, same)))
shows kind n zero e (node b k x) sum =
    ne_eqb (left kind n 0 x - 1) (e + 1) (λ same. absurd (omega (arith, same, sum, few_left kind n x)))
shows kind n (suc d) e (node b k x) sum =
    let inside : (left kind n 0 x == (suc e + 1)) ≡ ends_in kind d x = shows kind n d (suc e) x (omega (arith, sum)) in
    same_test (left kind n 0 x - 1) (e + 1) (left kind n 0 x) (suc e + 1) (λ h. omega (arith, h)) (λ h. omega (arith, h)) ∙ inside
shows kind n zero e (leaf b k w) sum =
    let same : n ≡ e = omega (arith, sum) in
    rw same (at_kind kind e k)
shows kind n (suc d) e (leaf b k w) sum = past_kind kind n e k (omega (arith, sum))
shows kind n d e (message b m) sum = ne_eqb 0 (e + 1) (λ same. absurd (omega (arith, same)))
shows kind n d e (split b m) sum = ne_eqb 0 (e + 1) (λ same. absurd (omega (arith, same)))

-- one is left behind the steps of a forest exactly where as many nodes as were wanted end at a leaf of the kind
closing_in_flat : (kind n : ℕ) (f : Forest) → (left_behind kind n 0 (flat f) == 1) ≡ ends_in kind n f
closing_in_flat kind n f =
    let behind : left_behind kind n 0 (flat f) ≡ left kind n 0 f = ap (left_behind kind n 0) (sym (append-nil (flat f))) ∙ along kind n 0 f [] in
    ap (λ (i : ℕ). i == 1) behind ∙ shows kind n n 0 f (omega arith)

-- the messages change nothing
any_messages : (kind n m : ℕ) (es : List Event) (ms others : List (List ℕ)) → left_behind kind n m (values es ms) ≡ left_behind kind n m (values es others)
any_messages kind n m [] ms others = refl
any_messages kind n m (event.Start ∷ es) ms others = any_messages kind n 0 es ms others
any_messages kind n m (event.Precede ∷ es) ms others = any_messages kind n 0 es ms others
any_messages kind n m (event.Finish k ∷ es) ms others = any_messages kind n 0 es ms others
any_messages kind n m (event.Extend ∷ es) ms others = any_messages kind n 0 es ms others
any_messages kind n m (event.Abandon ∷ es) ms others = any_messages kind n 0 es ms others
any_messages kind n m (event.Token w k ∷ es) ms others = any_messages kind n (at_token kind n k) es ms others
any_messages kind n m (event.FloatSplit d ∷ es) ms others = any_messages kind n 0 es ms others
any_messages kind n m (event.Error i ∷ es) ms others = any_messages kind n 0 es (drop 1 ms) (drop 1 others)
any_messages kind n m (event.Enter k ∷ es) ms others = any_messages kind n 0 es ms others
any_messages kind n m (event.Exit ∷ es) ms others = any_messages kind n (m - 1) es ms others

-- a count that is no more than the steps that follow has no bearing behind them
forgets : (kind n m : ℕ) (ss : List StepValue) → m ≤ length ss → left_behind kind n m ss ≡ left_behind kind n 0 ss
forgets kind n m [] h = omega (arith, h)
forgets kind n m (enter k ∷ ss) h = refl
forgets kind n m (exit ∷ ss) h = forgets kind n (m - 1) ss (omega (arith, h))
forgets kind n m (token k w ∷ ss) h = refl
forgets kind n m (float_split d ∷ ss) h = refl
forgets kind n m (error bytes ∷ ss) h = refl

-- what is left behind an event
after : ℕ → ℕ → ℕ → Event → ℕ
after kind n m event.Start = 0
after kind n m event.Precede = 0
after kind n m (event.Finish k) = 0
after kind n m event.Extend = 0
after kind n m event.Abandon = 0
after kind n m (event.Token w k) = at_token kind n k
after kind n m (event.FloatSplit d) = 0
after kind n m (event.Error i) = 0
after kind n m (event.Enter k) = 0
after kind n m event.Exit = m - 1

past_one : (kind n m : ℕ) (e : Event) (es : List Event) (ms : List (List ℕ)) → left_behind kind n m (values (e ∷ es) ms) ≡ left_behind kind n (after kind n m e) (values es ms)
unfolding after
past_one kind n m event.Start es ms = refl
past_one kind n m event.Precede es ms = refl
past_one kind n m (event.Finish k) es ms = refl
past_one kind n m event.Extend es ms = refl
past_one kind n m event.Abandon es ms = refl
past_one kind n m (event.Token w k) es ms = refl
past_one kind n m (event.FloatSplit d) es ms = refl
past_one kind n m (event.Error i) es ms = any_messages kind n 0 es (drop 1 ms) ms
past_one kind n m (event.Enter k) es ms = refl
past_one kind n m event.Exit es ms = refl

few_after : (kind n m : ℕ) (e : Event) → m ≤ n + 1 → after kind n m e ≤ n + 1
unfolding after
few_after kind n m event.Start h = omega arith
few_after kind n m event.Precede h = omega arith
few_after kind n m (event.Finish k) h = omega arith
few_after kind n m event.Extend h = omega arith
few_after kind n m event.Abandon h = omega arith
few_after kind n m (event.Token w k) h = at_most kind n k
few_after kind n m (event.FloatSplit d) h = omega arith
few_after kind n m (event.Error i) h = omega arith
few_after kind n m (event.Enter k) h = omega arith
few_after kind n m event.Exit h = omega (arith, h)

-- one more step than as many as are wanted decide
last_decide : (kind n first m : ℕ) (es : List Event) (ms : List (List ℕ)) → m ≤ n + 1 → first + (n + 1) ≤ length es → left_behind kind n m (values es ms) ≡ left_behind kind n 0 (values (drop first es) ms)
last_decide kind n zero m es ms few enough = forgets kind n m (values es ms) (omega (arith, few, enough, values_length es ms))
last_decide kind n (suc first) m [] ms few enough = absurd (omega (arith, enough))
last_decide kind n (suc first) m (e ∷ es) ms few enough =
    past_one kind n m e es ms ∙ last_decide kind n first (after kind n m e) es ms (few_after kind n m e few) (omega (arith, enough))

shown_by : (kind n first : ℕ) (es : List Event) (ms : List (List ℕ)) → flat (forest_of (values es ms)) ≡ values es ms → first ≡ length es - (n + 1) → (left_behind kind n 0 (values (drop first es) ms) == 1) ≡ ends_in kind n (forest_of (values es ms))
shown_by kind n zero es ms shown far = ap (λ (ss : List StepValue). left_behind kind n 0 ss == 1) (sym shown) ∙ closing_in_flat kind n (forest_of (values es ms))
shown_by kind n (suc first) es ms shown far =
    let last : left_behind kind n 0 (values es ms) ≡ left_behind kind n 0 (values (drop (suc first) es) ms) =
    last_decide kind n (suc first) 0 es ms (omega arith) (omega (arith, far)) in
    ap (λ (i : ℕ). i == 1) (sym last)
    ∙ (ap (λ (ss : List StepValue). left_behind kind n 0 ss == 1) (sym shown) ∙ closing_in_flat kind n (forest_of (values es ms)))

-- so the last steps show what an output ends with
pub last_show : (kind n : ℕ) (es : List Event) (ms : List (List ℕ)) → flat (forest_of (values es ms)) ≡ values es ms → (left_behind kind n 0 (values (drop (length es - (n + 1)) es) ms) == 1) ≡ ends_in kind n (forest_of (values es ms))
last_show kind n es ms shown = shown_by kind n (length es - (n + 1)) es ms shown refl
