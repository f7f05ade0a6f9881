-- What an automaton takes is of its shape: each state is what is left of the shape after some children.
use Rattle.std.proofs.Common.{◌≡◌, ◌==◌, ◌&&◌, ◌||◌, ℕ, zero, suc, Bool, true, false, List, [], ◌∷◌, ◌++◌, Option, Some, None, if◌then◌else◌, refl, sym, subst, ap}
use Rattle.rap_events.proofs.Truth.{and_left, and_right}
use Rattle.rap_grammar_table.proofs.Known.{by_or, every_so, same_number}
use Rattle.rap_grammar_table.specs.Known.{among, every_one}
use Rattle.rap_grammar_table.proofs.ShapedRows.{same_shape_so}
use Rattle.rap_grammar_table.specs.Shapes.{Child, leaf_child, node_child, message_child, float_child, same_shape, Shape, nothing, leaf_of, any_leaf, node_of, a_float, ◌⋅◌, ◌or◌, any_of, Spells, no_child, a_leaf, some_leaf, a_node, the_float, in_order, by_first, by_second, no_more, one_more}
use Rattle.rap_grammar_shapes.proofs.Automata.{Step, by_leaf, by_node, by_any, by_float, State, state, state_at, accepts, steps_of, step_leads, leads, Accepts, at_end, by_step}
use Rattle.rap_grammar_shapes.specs.Shapes.{shape_of}
use Rattle.rap_grammar_shapes.proofs.Models.{models, model_in, model}

-- whether no child is of a shape
abbrev pub can_end : Shape → Bool
can_end nothing = true
can_end (leaf_of ks) = false
can_end any_leaf = false
can_end (node_of ks) = false
can_end a_float = false
can_end (a ⋅ b) = can_end a && can_end b
can_end (a or b) = can_end a || can_end b
can_end (any_of a) = true

ends_so : (a : Shape) → can_end a ≡ true → Spells a []
ends_so nothing h = no_child
ends_so (leaf_of ks) h = absurd cc
ends_so any_leaf h = absurd cc
ends_so (node_of ks) h = absurd cc
ends_so a_float h = absurd cc
ends_so (a ⋅ b) h = in_order (ends_so a (and_left (can_end a) _ h)) (ends_so b (and_right (can_end a) _ h))
ends_so (a or b) h = by_or (can_end a) (can_end b) h (λ i. by_first (ends_so a i)) (λ i. by_second (ends_so b i))
ends_so (any_of a) h = no_more

-- One after another, written shortly; the same where the first may be none; and what is left by either way.
abbrev pub after : Shape → Shape → Shape
after nothing b = b
after a b = a ⋅ b

abbrev pub behind : Option Shape → Shape → Option Shape
behind None b = None
behind (Some r) b = Some (after r b)

abbrev pub either : Option Shape → Option Shape → Option Shape
either None o = o
either (Some r) None = Some r
either (Some r) (Some q) = Some (r or q)

-- What is left of a shape after a child by which a step leads. A step by any leaf goes on where the shape has any leaf,
-- and one by leaves of some kinds where it has these.
abbrev pub past : Step → Shape → Option Shape
past s nothing = None
past (by_leaf ks t) (leaf_of js) = if every_one (among js) ks then Some nothing else None
past (by_node ks t) (leaf_of js) = None
past (by_any t) (leaf_of js) = None
past (by_float t) (leaf_of js) = None
past (by_leaf ks t) any_leaf = None
past (by_node ks t) any_leaf = None
past (by_any t) any_leaf = Some nothing
past (by_float t) any_leaf = None
past (by_leaf ks t) (node_of js) = None
past (by_node ks t) (node_of js) = if every_one (among js) ks then Some nothing else None
past (by_any t) (node_of js) = None
past (by_float t) (node_of js) = None
past (by_leaf ks t) a_float = None
past (by_node ks t) a_float = None
past (by_any t) a_float = None
past (by_float t) a_float = Some nothing
past s (a ⋅ b) = either (behind (past s a) b) (if can_end a then past s b else None)
past s (a or b) = either (past s a) (past s b)
past s (any_of a) = behind (past s a) (any_of a)

-- what comes of such an option
by_behind : {A : Type 0} (o : Option Shape) (b r : Shape) → behind o b ≡ Some r →
    ((x : Shape) → o ≡ Some x → after x b ≡ r → A) → A
by_behind None b r e f = absurd cc
by_behind (Some x) b r e f = f x refl cc

by_either : {A : Type 0} (o z : Option Shape) (r : Shape) → either o z ≡ Some r → (o ≡ Some r → A) → (z ≡ Some r → A) →
    ((x y : Shape) → o ≡ Some x → z ≡ Some y → r ≡ (x or y) → A) → A
by_either None z r e f g h = g e
by_either (Some x) None r e f g h = f e
by_either (Some x) (Some y) r e f g h = h x y refl refl cc

by_if : {A : Type 0} (b : Bool) (o : Option Shape) (r : Shape) → (if b then o else None) ≡ Some r →
    (b ≡ true → o ≡ Some r → A) → A
by_if true o r e f = f refl e
by_if false o r e f = absurd cc

by_way : {A : Type 0} (x y : Shape) (cs : List Child) → Spells (x or y) cs → (Spells x cs → A) → (Spells y cs → A) → A
by_way x y cs (by_first s) f g = f s
by_way x y cs (by_second s) f g = g s

-- what is spelled by one shape after another, apart
record Apart (a b : Shape) (cs : List Child) : Type 0 where
  front : List Child
  back : List Child
  whole : cs ≡ front ++ back
  first : Spells a front
  second : Spells b back

apart_order : (a b : Shape) (cs : List Child) → Spells (a ⋅ b) cs → Apart a b cs
apart_order a b cs (in_order {cs = x} {ds = y} s t) =
    record { front = x; back = y; whole = refl; first = s; second = t }

apart : (a b : Shape) (cs : List Child) → Spells (after a b) cs → Apart a b cs
apart nothing b cs s = record { front = []; back = cs; whole = refl; first = no_child; second = s }
apart (leaf_of ks) b cs s = apart_order (leaf_of ks) b cs s
apart any_leaf b cs s = apart_order any_leaf b cs s
apart (node_of ks) b cs s = apart_order (node_of ks) b cs s
apart a_float b cs s = apart_order a_float b cs s
apart (x ⋅ y) b cs s = apart_order (x ⋅ y) b cs s
apart (x or y) b cs s = apart_order (x or y) b cs s
apart (any_of x) b cs s = apart_order (any_of x) b cs s

-- whether a step leads by a child, to whichever state
abbrev pub leads_by : Step → Child → Bool
leads_by (by_leaf ks t) (leaf_child k) = among ks k
leads_by (by_node ks t) (node_child k) = among ks k
leads_by (by_any t) (leaf_child k) = true
leads_by (by_float t) float_child = true
leads_by s c = false

no_more_children : (r : Shape) (cs : List Child) → Some nothing ≡ Some r → Spells r cs → cs ≡ []
no_more_children nothing cs e no_child = refl
no_more_children (leaf_of ks) cs e t = absurd cc
no_more_children any_leaf cs e t = absurd cc
no_more_children (node_of ks) cs e t = absurd cc
no_more_children a_float cs e t = absurd cc
no_more_children (a ⋅ b) cs e t = absurd cc
no_more_children (a or b) cs e t = absurd cc
no_more_children (any_of a) cs e t = absurd cc

-- one child of a letter
by_leaf_so : (ks js : List ℕ) (t : ℕ) (r : Shape) (c : Child) (cs : List Child) →
    (if every_one (among js) ks then Some nothing else None) ≡ Some r → leads_by (by_leaf ks t) c ≡ true → Spells r cs →
    Spells (leaf_of js) (c ∷ cs)
by_leaf_so ks js t r (leaf_child k) cs e m x =
    by_if (every_one (among js) ks) (Some nothing) r e
    (λ h i. rw (no_more_children r cs i x) (a_leaf (every_so (among js) ks k h m)))
by_leaf_so ks js t r (node_child k) cs e m x = absurd cc
by_leaf_so ks js t r message_child cs e m x = absurd cc
by_leaf_so ks js t r float_child cs e m x = absurd cc

by_node_so : (ks js : List ℕ) (t : ℕ) (r : Shape) (c : Child) (cs : List Child) →
    (if every_one (among js) ks then Some nothing else None) ≡ Some r → leads_by (by_node ks t) c ≡ true → Spells r cs →
    Spells (node_of js) (c ∷ cs)
by_node_so ks js t r (leaf_child k) cs e m x = absurd cc
by_node_so ks js t r (node_child k) cs e m x =
    by_if (every_one (among js) ks) (Some nothing) r e
    (λ h i. rw (no_more_children r cs i x) (a_node (every_so (among js) ks k h m)))
by_node_so ks js t r message_child cs e m x = absurd cc
by_node_so ks js t r float_child cs e m x = absurd cc

by_any_so : (t : ℕ) (r : Shape) (c : Child) (cs : List Child) → Some nothing ≡ Some r → leads_by (by_any t) c ≡ true →
    Spells r cs → Spells any_leaf (c ∷ cs)
by_any_so t r (leaf_child k) cs e m x = rw (no_more_children r cs e x) some_leaf
by_any_so t r (node_child k) cs e m x = absurd cc
by_any_so t r message_child cs e m x = absurd cc
by_any_so t r float_child cs e m x = absurd cc

by_float_so : (t : ℕ) (r : Shape) (c : Child) (cs : List Child) → Some nothing ≡ Some r → leads_by (by_float t) c ≡ true →
    Spells r cs → Spells a_float (c ∷ cs)
by_float_so t r (leaf_child k) cs e m x = absurd cc
by_float_so t r (node_child k) cs e m x = absurd cc
by_float_so t r message_child cs e m x = absurd cc
by_float_so t r float_child cs e m x = rw (no_more_children r cs e x) the_float

-- the child is of the first one of two
in_front : (s : Step) (a b r : Shape) (c : Child) (cs : List Child) → behind (past s a) b ≡ Some r →
    leads_by s c ≡ true → Spells r cs →
    ((x : Shape) (ds : List Child) → past s a ≡ Some x → Spells x ds → Spells a (c ∷ ds)) → Spells (a ⋅ b) (c ∷ cs)
in_front s a b r c cs e m t f =
    by_behind (past s a) b r e
    (λ x i j.
    let p = apart x b cs (subst (λ (y : Shape). Spells y cs) (sym j) t) in
    rw p.whole (in_order (f x p.front i p.first) p.second))

-- a child and what is left after it are of the shape
pub past_so : (s : Step) (a r : Shape) (c : Child) (cs : List Child) → past s a ≡ Some r → leads_by s c ≡ true →
    Spells r cs → Spells a (c ∷ cs)
past_so s nothing r c cs e m t = absurd cc
past_so (by_leaf ks u) (leaf_of js) r c cs e m t = by_leaf_so ks js u r c cs e m t
past_so (by_node ks u) (leaf_of js) r c cs e m t = absurd cc
past_so (by_any u) (leaf_of js) r c cs e m t = absurd cc
past_so (by_float u) (leaf_of js) r c cs e m t = absurd cc
past_so (by_leaf ks u) any_leaf r c cs e m t = absurd cc
past_so (by_node ks u) any_leaf r c cs e m t = absurd cc
past_so (by_any u) any_leaf r c cs e m t = by_any_so u r c cs e m t
past_so (by_float u) any_leaf r c cs e m t = absurd cc
past_so (by_leaf ks u) (node_of js) r c cs e m t = absurd cc
past_so (by_node ks u) (node_of js) r c cs e m t = by_node_so ks js u r c cs e m t
past_so (by_any u) (node_of js) r c cs e m t = absurd cc
past_so (by_float u) (node_of js) r c cs e m t = absurd cc
past_so (by_leaf ks u) a_float r c cs e m t = absurd cc
past_so (by_node ks u) a_float r c cs e m t = absurd cc
past_so (by_any u) a_float r c cs e m t = absurd cc
past_so (by_float u) a_float r c cs e m t = by_float_so u r c cs e m t
past_so s (a ⋅ b) r c cs e m t =
    by_either (behind (past s a) b) (if can_end a then past s b else None) r e
    (λ i. in_front s a b r c cs i m t (λ x ds j u. past_so s a x c ds j m u))
    (λ i.
    by_if (can_end a) (past s b) r i (λ h j. in_order {cs = []} (ends_so a h) (past_so s b r c cs j m t)))
    (λ x y i j q.
    by_way x y cs (subst (λ (z : Shape). Spells z cs) q t)
    (λ u. in_front s a b x c cs i m u (λ x ds j u. past_so s a x c ds j m u))
    (λ u.
    by_if (can_end a) (past s b) y j (λ h j. in_order {cs = []} (ends_so a h) (past_so s b y c cs j m u))))
past_so s (a or b) r c cs e m t =
    by_either (past s a) (past s b) r e (λ i. by_first (past_so s a r c cs i m t))
    (λ i. by_second (past_so s b r c cs i m t))
    (λ x y i j q.
    by_way x y cs (subst (λ (z : Shape). Spells z cs) q t) (λ u. by_first (past_so s a x c cs i m u))
    (λ u. by_second (past_so s b y c cs j m u)))
past_so s (any_of a) r c cs e m t =
    by_behind (past s a) (any_of a) r e
    (λ x i j.
    let p = apart x (any_of a) cs (subst (λ (y : Shape). Spells y cs) (sym j) t) in
    rw p.whole (one_more (past_so s a x c p.front i m p.first) p.second))

-- The shapes of the states, rest they are met: a state that is met first is put behind those before it.
abbrev pub on : {A B : Type 0} → Option A → B → (A → B) → B
on None z f = z
on (Some a) z f = f a

abbrev pub shape_at : List Shape → ℕ → Option Shape
shape_at [] n = None
shape_at (a ∷ shapes) zero = Some a
shape_at (a ∷ shapes) (suc n) = shape_at shapes n

abbrev pub target : Step → ℕ
target (by_leaf ks t) = t
target (by_node ks t) = t
target (by_any t) = t
target (by_float t) = t

abbrev pub met : List Shape → ℕ → Shape → List Shape
met [] n r = r ∷ []
met (a ∷ shapes) zero r = a ∷ shapes
met (a ∷ shapes) (suc n) r = a ∷ met shapes n r

abbrev pub met_by : Shape → List Step → List Shape → List Shape
met_by a [] shapes = shapes
met_by a (s ∷ steps) shapes = met_by a steps (on (past s a) shapes (met shapes (target s)))

abbrev pub met_in : ℕ → List State → List Shape → List Shape
met_in at [] shapes = shapes
met_in at (s ∷ states) shapes =
    met_in (suc at) states (on (shape_at shapes at) shapes (λ a. met_by a (steps_of s) shapes))

-- Whether each step leads to what is left of the shape of its state, and what ends may end: of all states.
abbrev pub steps_right : List Shape → Shape → List Step → Bool
steps_right shapes a [] = true
steps_right shapes a (s ∷ steps) =
    on (past s a) false (λ r. on (shape_at shapes (target s)) false (λ x. same_shape x r)) && steps_right shapes a steps

abbrev pub state_right : List Shape → State → Shape → Bool
state_right shapes (state b steps) a = (if b then can_end a else true) && steps_right shapes a steps

abbrev pub states_right : List Shape → List State → List Shape → Bool
states_right shapes [] rest = true
states_right shapes (s ∷ states) [] = false
states_right shapes (s ∷ states) (a ∷ rest) = state_right shapes s a && states_right shapes states rest

abbrev pub starts : Shape → List Shape → Bool
starts a [] = false
starts a (b ∷ shapes) = same_shape b a

abbrev pub is_along : Shape → List State → Bool
is_along a states =
    let shapes = met_in 0 states (a ∷ []) in starts a shapes && states_right shapes states shapes

abbrev pub all_along : List (ℕ × List State) → Bool
all_along [] = true
all_along (row ∷ rows) = is_along (shape_of row.0) row.1 && all_along rows

-- the state with a number, and its shape
state_found : (shapes : List Shape) (states : List State) (rest : List Shape) → states_right shapes states rest ≡ true →
    (q : ℕ) (a : Shape) → shape_at rest q ≡ Some a → state_right shapes (state_at states q) a ≡ true
state_found shapes [] rest h q a e = refl
state_found shapes (s ∷ states) [] h q a e = absurd cc
state_found shapes (s ∷ states) (b ∷ rest) h zero a e =
    subst (λ (x : Shape). state_right shapes s x ≡ true) (let z : b ≡ a = cc in z) (and_left (state_right shapes s b) _ h)
state_found shapes (s ∷ states) (b ∷ rest) h (suc q) a e =
    state_found shapes states rest (and_right (state_right shapes s b) _ h) q a e

ends_right : (shapes : List Shape) (s : State) (a : Shape) → state_right shapes s a ≡ true → accepts s ≡ true →
    can_end a ≡ true
ends_right shapes (state true steps) a h e = and_left (can_end a) _ h
ends_right shapes (state false steps) a h e = absurd cc

steps_are_right : (shapes : List Shape) (s : State) (a : Shape) → state_right shapes s a ≡ true →
    steps_right shapes a (steps_of s) ≡ true
steps_are_right shapes (state b steps) a h = and_right (if b then can_end a else true) _ h

-- a step that leads by a child to a state
record Led (shapes : List Shape) (a : Shape) (c : Child) (to : ℕ) : Type 0 where
  step : Step
  shape : Shape
  left : past step a ≡ Some shape
  by_child : leads_by step c ≡ true
  there : shape_at shapes to ≡ Some shape

step_by : (s : Step) (c : Child) (to : ℕ) → step_leads s c to ≡ true → leads_by s c ≡ true
step_by (by_leaf ks t) (leaf_child k) to h = and_left (among ks k) _ h
step_by (by_leaf ks t) (node_child k) to h = absurd cc
step_by (by_leaf ks t) message_child to h = absurd cc
step_by (by_leaf ks t) float_child to h = absurd cc
step_by (by_node ks t) (leaf_child k) to h = absurd cc
step_by (by_node ks t) (node_child k) to h = and_left (among ks k) _ h
step_by (by_node ks t) message_child to h = absurd cc
step_by (by_node ks t) float_child to h = absurd cc
step_by (by_any t) (leaf_child k) to h = refl
step_by (by_any t) (node_child k) to h = absurd cc
step_by (by_any t) message_child to h = absurd cc
step_by (by_any t) float_child to h = absurd cc
step_by (by_float t) (leaf_child k) to h = absurd cc
step_by (by_float t) (node_child k) to h = absurd cc
step_by (by_float t) message_child to h = absurd cc
step_by (by_float t) float_child to h = refl

step_to : (s : Step) (c : Child) (to : ℕ) → step_leads s c to ≡ true → target s ≡ to
step_to (by_leaf ks t) (leaf_child k) to h = same_number t to (and_right (among ks k) _ h)
step_to (by_leaf ks t) (node_child k) to h = absurd cc
step_to (by_leaf ks t) message_child to h = absurd cc
step_to (by_leaf ks t) float_child to h = absurd cc
step_to (by_node ks t) (leaf_child k) to h = absurd cc
step_to (by_node ks t) (node_child k) to h = same_number t to (and_right (among ks k) _ h)
step_to (by_node ks t) message_child to h = absurd cc
step_to (by_node ks t) float_child to h = absurd cc
step_to (by_any t) (leaf_child k) to h = same_number t to h
step_to (by_any t) (node_child k) to h = absurd cc
step_to (by_any t) message_child to h = absurd cc
step_to (by_any t) float_child to h = absurd cc
step_to (by_float t) (leaf_child k) to h = absurd cc
step_to (by_float t) (node_child k) to h = absurd cc
step_to (by_float t) message_child to h = absurd cc
step_to (by_float t) float_child to h = same_number t to h

led_at : (shapes : List Shape) (s : Step) (a : Shape) (c : Child) (to : ℕ) (o : Option Shape) (z : Option Shape) →
    past s a ≡ o → shape_at shapes (target s) ≡ z → on o false (λ r. on z false (λ x. same_shape x r)) ≡ true →
    step_leads s c to ≡ true → Led shapes a c to
led_at shapes s a c to None z e f h l = absurd cc
led_at shapes s a c to (Some r) None e f h l = absurd cc
led_at shapes s a c to (Some r) (Some x) e f h l =
    record {
      step = s;
      shape = r;
      left = e;
      by_child = step_by s c to l;
      there = subst (λ (y : Shape). shape_at shapes to ≡ Some y) (same_shape_so x r h)
          (subst (λ (n : ℕ). shape_at shapes n ≡ Some x) (step_to s c to l) f);
    }

led : (shapes : List Shape) (a : Shape) (steps : List Step) (c : Child) (to : ℕ) → steps_right shapes a steps ≡ true →
    leads steps c to ≡ true → Led shapes a c to
led shapes a [] c to h l = absurd cc
led shapes a (s ∷ steps) c to h l =
    by_or (step_leads s c to) (leads steps c to) l
    (λ i.
    led_at shapes s a c to (past s a) (shape_at shapes (target s)) refl refl
    (and_left (on (past s a) false (λ r. on (shape_at shapes (target s)) false (λ x. same_shape x r))) _ h) i)
    (λ i.
    led shapes a steps c to
    (and_right (on (past s a) false (λ r. on (shape_at shapes (target s)) false (λ x. same_shape x r))) _ h) i)

spelled_from : (shapes : List Shape) (states : List State) → states_right shapes states shapes ≡ true → (q : ℕ)
    (cs : List Child) → Accepts states q cs → (a : Shape) → shape_at shapes q ≡ Some a → Spells a cs
spelled_from shapes states h q cs (at_end e) a i =
    ends_so a (ends_right shapes (state_at states q) a (state_found shapes states shapes h q a i) e)
spelled_from shapes states h q cs (by_step {to = to} {c = c} {cs = ds} l t) a i =
    let d = led shapes a (steps_of (state_at states q)) c to
    (steps_are_right shapes (state_at states q) a (state_found shapes states shapes h q a i)) l in
    past_so d.step a d.shape c ds d.left d.by_child (spelled_from shapes states h to ds t d.shape d.there)

started : (a : Shape) (shapes : List Shape) → starts a shapes ≡ true → shape_at shapes 0 ≡ Some a
started a [] h = absurd cc
started a (b ∷ shapes) h = ap (λ (x : Shape). Some x) (same_shape_so b a h)

pub along_so : (a : Shape) (states : List State) → is_along a states ≡ true → (cs : List Child) → Accepts states 0 cs →
    Spells a cs
along_so a states h cs t =
    spelled_from (met_in 0 states (a ∷ [])) states (and_right (starts a (met_in 0 states (a ∷ []))) _ h) 0 cs t a
    (started a (met_in 0 states (a ∷ [])) (and_left (starts a (met_in 0 states (a ∷ []))) _ h))

-- an automaton without states takes nothing
nothing_taken : {A : Type 0} (cs : List Child) → Accepts [] 0 cs → A
nothing_taken cs (at_end e) = absurd cc
nothing_taken cs (by_step l t) = absurd cc

by_row : (b : Bool) (states rest : List State) (cs : List Child) → Accepts (if b then states else rest) 0 cs →
    {A : Type 0} → (b ≡ true → Accepts states 0 cs → A) → (Accepts rest 0 cs → A) → A
by_row true states rest cs t f g = f refl t
by_row false states rest cs t f g = g t

all_along_so : (rows : List (ℕ × List State)) → all_along rows ≡ true → (kind : ℕ) (cs : List Child) →
    Accepts (model_in rows kind) 0 cs → Spells (shape_of kind) cs
all_along_so [] h kind cs t = nothing_taken cs t
all_along_so (row ∷ rows) h kind cs t =
    by_row (row.0 == kind) row.1 (model_in rows kind) cs t
    (λ e u.
    subst (λ (k : ℕ). Spells (shape_of k) cs) (same_number row.0 kind e)
    (along_so (shape_of row.0) row.1 (and_left (is_along (shape_of row.0) row.1) _ h) cs u))
    (λ u. all_along_so rows (and_right (is_along (shape_of row.0) row.1) _ h) kind cs u)

models_along : all_along models ≡ true
models_along = refl

-- what the automaton of a kind takes is of its shape
pub spelled : (kind : ℕ) (cs : List Child) → Accepts (model kind) 0 cs → Spells (shape_of kind) cs
spelled kind cs t = all_along_so models models_along kind cs t
