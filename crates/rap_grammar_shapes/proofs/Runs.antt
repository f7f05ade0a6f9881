-- The states of an automaton to which the children of a content may lead, as sets.
use Rattle.std.proofs.Common.{◌≡◌, ◌==◌, ℕ, zero, suc, Bool, true, false, List, [], ◌∷◌, ◌++◌, append_assoc, append-nil, Option, Some, None, refl, sym, subst, ◌∙◌}
use Rattle.rap_events.proofs.Truth.{and_both, or_left, or_right}
use Rattle.rap_grammar_table.specs.Known.{among, every_one}
use Rattle.rap_grammar_table.specs.Shapes.{Child, leaf_child, node_child, float_child}
use Rattle.rap_grammar_table.proofs.Known.{by_or, every_so, same_number}
use Rattle.rap_grammar_table.proofs.LookLaws.{same_self}
use Rattle.rap_grammar_shapes.proofs.Automata.{Step, by_leaf, by_node, by_any, by_float, State, state_at, accepts, steps_of, step_leads, leads, Accepts, at_end, by_step}
use Rattle.rap_grammar_shapes.specs.Whole.{are_sound, IsWhole}
use Rattle.rap_grammar_shapes.proofs.Content.{Content, nothing, leaf_of, any_leaf, node_of, a_float, spoilt, owed, ◌⋅◌, ◌or◌, any_of, Holds, no_child, a_leaf, some_leaf, a_node, the_float, is_told, not_whole, in_order, by_first, by_second, no_more, one_more, choose, equal_kinds, added, united}
use Rattle.rap_grammar_shapes.proofs.ContentLaws.{equal_kinds_so, united_left, united_right, told_unsound, whole_left, whole_right}

-- a child: a leaf or a node
abbrev pub child_of : Bool → ℕ → Child
child_of true k = leaf_child k
child_of false k = node_child k

-- the kinds of leaves, or of nodes, by which a step leads on, and where it leads
abbrev pub kinds_by : Bool → Step → List ℕ
kinds_by true (by_leaf ks t) = ks
kinds_by true s = []
kinds_by false (by_node ks t) = ks
kinds_by false s = []

abbrev pub goal : Step → ℕ
goal (by_leaf ks t) = t
goal (by_node ks t) = t
goal (by_any t) = t
goal (by_float t) = t

-- where a child of this kind leads, by its kind or as any leaf
abbrev pub target : Bool → List Step → ℕ → Option ℕ
target l [] k = None
target l (s ∷ ss) k = let rest = target l ss k in choose (among (kinds_by l s) k) (Some (goal s)) rest

abbrev pub any_target : List Step → Option ℕ
any_target [] = None
any_target (by_any t ∷ ss) = Some t
any_target (s ∷ ss) = any_target ss

abbrev pub float_target : List Step → Option ℕ
float_target [] = None
float_target (by_float t ∷ ss) = Some t
float_target (s ∷ ss) = float_target ss

abbrev pub or_any : Bool → Option ℕ → List Step → Option ℕ
or_any l (Some t) ss = Some t
or_any true None ss = any_target ss
or_any false None ss = None

-- where children of all these kinds lead, if each leads somewhere
abbrev pub with_target : Option ℕ → Option (List ℕ) → Option (List ℕ)
with_target None o = None
with_target (Some t) None = None
with_target (Some t) (Some ts) = Some (added (among ts t) t ts)

abbrev pub each_target : Bool → List Step → List ℕ → Option (List ℕ)
each_target l ss [] = Some []
each_target l ss (k ∷ ks) = with_target (or_any l (target l ss k) ss) (each_target l ss ks)

-- one step for just these kinds
abbrev pub same_step : Bool → List Step → List ℕ → Option ℕ
same_step l [] ks = None
same_step l (s ∷ ss) ks = let rest = same_step l ss ks in choose (equal_kinds (kinds_by l s) ks) (Some (goal s)) rest

abbrev pub alone_or : Option ℕ → Option (List ℕ) → Option (List ℕ)
alone_or None o = o
alone_or (Some t) o = Some (t ∷ [])

abbrev pub kinds_lead : Bool → List ℕ → List Step → Option (List ℕ)
kinds_lead l ks ss = alone_or (same_step l ss ks) (each_target l ss ks)

abbrev pub any_leads : List Step → Option (List ℕ)
any_leads ss = alone_or (any_target ss) None

abbrev pub float_leads : List Step → Option (List ℕ)
float_leads ss = alone_or (float_target ss) None

-- two sets together, if both are known
abbrev pub both_sets : Option (List ℕ) → Option (List ℕ) → Option (List ℕ)
both_sets None o = None
both_sets (Some ts) None = None
both_sets (Some ts) (Some us) = Some (united ts us)

-- from each of these states
abbrev pub from_each : (List Step → Option (List ℕ)) → List State → List ℕ → Option (List ℕ)
from_each f m [] = Some []
from_each f m (q ∷ qs) = both_sets (f (steps_of (state_at m q))) (from_each f m qs)

abbrev pub on_set : Option (List ℕ) → (List ℕ → Option (List ℕ)) → Option (List ℕ)
on_set None f = None
on_set (Some ts) f = f ts

-- whether a set is known and within another
abbrev pub stays_in : Option (List ℕ) → List ℕ → Bool
stays_in None ts = false
stays_in (Some us) ts = every_one (among ts) us

-- turns from these states, until no state is new; at most so many
abbrev pub turns_run : ℕ → (List ℕ → Option (List ℕ)) → List ℕ → Option (List ℕ)
turns_run zero f ts = None
turns_run (suc n) f ts =
    let more = on_set (f ts) (λ us. turns_run n f (united us ts)) in choose (stays_in (f ts) ts) (Some ts) more

-- The states to which the whole children of a content lead from these; none where some of them lead nowhere.
abbrev pub run : List State → Content → List ℕ → Option (List ℕ)
run m nothing ts = Some ts
run m (leaf_of ks) ts = from_each (kinds_lead true ks) m ts
run m any_leaf ts = from_each any_leads m ts
run m (node_of ks) ts = from_each (kinds_lead false ks) m ts
run m a_float ts = from_each float_leads m ts
run m spoilt ts = Some []
run m owed ts = Some []
run m (a ⋅ b) ts = on_set (run m a ts) (λ us. run m b us)
run m (a or b) ts = both_sets (run m a ts) (run m b ts)
run m (any_of a) ts = turns_run 8 (λ us. run m a us) ts

-- whether all these states accept
abbrev pub all_accept : List State → Option (List ℕ) → Bool
all_accept m None = false
all_accept m (Some ts) = every_one (λ t. accepts (state_at m t)) ts

-- Whether the whole children of a content are accepted.
abbrev pub runs : List State → Content → Bool
runs m a = all_accept m (run m a (0 ∷ []))

-- Whether they lead from the first state back to it alone.
abbrev pub all_first : Option (List ℕ) → Bool
all_first None = false
all_first (Some ts) = every_one (λ t. t == 0) ts

abbrev pub comes_back : List State → Content → Bool
comes_back m a = all_first (run m a (0 ∷ []))

-- one of these steps leads by a child to one of these states
record Led (ss : List Step) (ts : List ℕ) (c : Child) : Type 0 where
  to : ℕ
  leads_to : leads ss c to ≡ true
  is : among ts to ≡ true

later : (s : Step) (ss : List Step) (c : Child) (t : ℕ) → leads ss c t ≡ true → leads (s ∷ ss) c t ≡ true
later s ss c t h = or_right (step_leads s c t) (leads ss c t) h

first : (s : Step) (ss : List Step) (c : Child) (t : ℕ) → step_leads s c t ≡ true → leads (s ∷ ss) c t ≡ true
first s ss c t h = or_left (step_leads s c t) (leads ss c t) h

kind_leads : (l : Bool) (s : Step) (k : ℕ) → among (kinds_by l s) k ≡ true → step_leads s (child_of l k) (goal s) ≡ true
kind_leads true (by_leaf ks t) k h = and_both (among ks k) (t == t) h (same_self t)
kind_leads true (by_node ks t) k h = absurd cc
kind_leads true (by_any t) k h = absurd cc
kind_leads true (by_float t) k h = absurd cc
kind_leads false (by_leaf ks t) k h = absurd cc
kind_leads false (by_node ks t) k h = and_both (among ks k) (t == t) h (same_self t)
kind_leads false (by_any t) k h = absurd cc
kind_leads false (by_float t) k h = absurd cc

some_is : {A : Type 0} {x y : A} → (let o : Option A = Some x in o) ≡ Some y → x ≡ y
some_is e = cc

by_some : {A B : Type 0} (t : Bool) (x : A) (o : Option A) (y : A) → choose t (Some x) o ≡ Some y →
    (t ≡ true → x ≡ y → B) → (o ≡ Some y → B) → B
by_some true x o y e f g = f refl (some_is e)
by_some false x o y e f g = g e

target_so : (l : Bool) (ss : List Step) (k t : ℕ) → target l ss k ≡ Some t → leads ss (child_of l k) t ≡ true
target_so l [] k t e = absurd cc
target_so l (s ∷ ss) k t e =
    by_some (among (kinds_by l s) k) (goal s) (target l ss k) t e
    (λ h i. subst (λ (u : ℕ). leads (s ∷ ss) (child_of l k) u ≡ true) i (first s ss (child_of l k) (goal s) (kind_leads l s k h)))
    (λ i. later s ss (child_of l k) t (target_so l ss k t i))

any_target_so : (ss : List Step) (k t : ℕ) → any_target ss ≡ Some t → leads ss (leaf_child k) t ≡ true
any_target_so [] k t e = absurd cc
any_target_so (by_any u ∷ ss) k t e =
    let i : u ≡ t = some_is e in
    first (by_any u) ss (leaf_child k) t (subst (λ (v : ℕ). (u == v) ≡ true) i (same_self u))
any_target_so (by_leaf ks u ∷ ss) k t e = later (by_leaf ks u) ss (leaf_child k) t (any_target_so ss k t e)
any_target_so (by_node ks u ∷ ss) k t e = later (by_node ks u) ss (leaf_child k) t (any_target_so ss k t e)
any_target_so (by_float u ∷ ss) k t e = later (by_float u) ss (leaf_child k) t (any_target_so ss k t e)

float_target_so : (ss : List Step) (t : ℕ) → float_target ss ≡ Some t → leads ss float_child t ≡ true
float_target_so [] t e = absurd cc
float_target_so (by_float u ∷ ss) t e =
    let i : u ≡ t = some_is e in
    first (by_float u) ss float_child t (subst (λ (v : ℕ). (u == v) ≡ true) i (same_self u))
float_target_so (by_leaf ks u ∷ ss) t e = later (by_leaf ks u) ss float_child t (float_target_so ss t e)
float_target_so (by_node ks u ∷ ss) t e = later (by_node ks u) ss float_child t (float_target_so ss t e)
float_target_so (by_any u ∷ ss) t e = later (by_any u) ss float_child t (float_target_so ss t e)

or_any_so : (l : Bool) (o : Option ℕ) (ss : List Step) (k t : ℕ) →
    ((u : ℕ) → o ≡ Some u → leads ss (child_of l k) u ≡ true) → or_any l o ss ≡ Some t → leads ss (child_of l k) t ≡ true
or_any_so l (Some u) ss k t h e = h t e
or_any_so true None ss k t h e = any_target_so ss k t e
or_any_so false None ss k t h e = absurd cc

by_target : {B : Type 0} (o : Option ℕ) (z : Option (List ℕ)) (ts : List ℕ) → with_target o z ≡ Some ts →
    ((t : ℕ) (us : List ℕ) → o ≡ Some t → z ≡ Some us → added (among us t) t us ≡ ts → B) → B
by_target None z ts e f = absurd cc
by_target (Some t) None ts e f = absurd cc
by_target (Some t) (Some us) ts e f = f t us refl refl (some_is e)

added_new : (b : Bool) (t : ℕ) (us : List ℕ) → (b ≡ true → among us t ≡ true) → among (added b t us) t ≡ true
added_new true t us h = h refl
added_new false t us h = or_left (t == t) (among us t) (same_self t)

added_old : (b : Bool) (t u : ℕ) (us : List ℕ) → among us u ≡ true → among (added b t us) u ≡ true
added_old true t u us h = h
added_old false t u us h = or_right (t == u) (among us u) h

each_so : (l : Bool) (ss : List Step) (ks ts : List ℕ) → each_target l ss ks ≡ Some ts → (k : ℕ) → among ks k ≡ true →
    Led ss ts (child_of l k)
each_so l ss [] ts e k m = absurd cc
each_so l ss (j ∷ ks) ts e k m =
    by_target (or_any l (target l ss j) ss) (each_target l ss ks) ts e
    (λ t us i z y.
    by_or (j == k) (among ks k) m
    (λ h.
    record {
      to = t;
      leads_to =
          subst (λ (x : ℕ). leads ss (child_of l x) t ≡ true) (same_number j k h)
          (or_any_so l (target l ss j) ss j t (λ u w. target_so l ss j u w) i);
      is = subst (λ (xs : List ℕ). among xs t ≡ true) y (added_new (among us t) t us (λ n. n));
    })
    (λ h.
    let r = each_so l ss ks us z k h in
    record {
      to = r.to;
      leads_to = r.leads_to;
      is = subst (λ (xs : List ℕ). among xs r.to ≡ true) y (added_old (among us t) t r.to us r.is);
    }))

same_step_so : (l : Bool) (ss : List Step) (ks : List ℕ) (t : ℕ) → same_step l ss ks ≡ Some t → (k : ℕ) →
    among ks k ≡ true → leads ss (child_of l k) t ≡ true
same_step_so l [] ks t e k m = absurd cc
same_step_so l (s ∷ ss) ks t e k m =
    by_some (equal_kinds (kinds_by l s) ks) (goal s) (same_step l ss ks) t e
    (λ h i.
    subst (λ (u : ℕ). leads (s ∷ ss) (child_of l k) u ≡ true) i
    (first s ss (child_of l k) (goal s)
    (kind_leads l s k (subst (λ (js : List ℕ). among js k ≡ true) (sym (equal_kinds_so (kinds_by l s) ks h)) m))))
    (λ i. later s ss (child_of l k) t (same_step_so l ss ks t i k m))

only : (ss : List Step) (c : Child) (t : ℕ) (ts : List ℕ) → leads ss c t ≡ true → t ∷ [] ≡ ts → Led ss ts c
only ss c t ts h e =
    record {
      to = t;
      leads_to = h;
      is = subst (λ (xs : List ℕ). among xs t ≡ true) e (or_left (t == t) false (same_self t));
    }

kinds_so : (l : Bool) (ss : List Step) (ks ts : List ℕ) (o : Option ℕ) (z : Option (List ℕ)) → same_step l ss ks ≡ o →
    each_target l ss ks ≡ z → alone_or o z ≡ Some ts → (k : ℕ) → among ks k ≡ true → Led ss ts (child_of l k)
kinds_so l ss ks ts None z e i h k m = each_so l ss ks ts (i ∙ h) k m
kinds_so l ss ks ts (Some t) z e i h k m =
    only ss (child_of l k) t ts (same_step_so l ss ks t e k m) (some_is h)

any_so : (ss : List Step) (ts : List ℕ) (k : ℕ) (o : Option ℕ) → any_target ss ≡ o → alone_or o None ≡ Some ts →
    Led ss ts (leaf_child k)
any_so ss ts k None e h = absurd cc
any_so ss ts k (Some t) e h = only ss (leaf_child k) t ts (any_target_so ss k t e) (some_is h)

float_so : (ss : List Step) (ts : List ℕ) (o : Option ℕ) → float_target ss ≡ o → alone_or o None ≡ Some ts →
    Led ss ts float_child
float_so ss ts None e h = absurd cc
float_so ss ts (Some t) e h = only ss float_child t ts (float_target_so ss t e) (some_is h)

by_sets : {B : Type 0} (o z : Option (List ℕ)) (ts : List ℕ) → both_sets o z ≡ Some ts →
    ((us vs : List ℕ) → o ≡ Some us → z ≡ Some vs → united us vs ≡ ts → B) → B
by_sets None z ts e f = absurd cc
by_sets (Some us) None ts e f = absurd cc
by_sets (Some us) (Some vs) ts e f = f us vs refl refl (some_is e)

wider : (ss : List Step) (us ts : List ℕ) (c : Child) → ((t : ℕ) → among us t ≡ true → among ts t ≡ true) → Led ss us c →
    Led ss ts c
wider ss us ts c w l = record { to = l.to; leads_to = l.leads_to; is = w l.to l.is }

from_so : (f : List Step → Option (List ℕ)) (c : Child) →
    ((ss : List Step) (us : List ℕ) → f ss ≡ Some us → Led ss us c) → (m : List State) (qs ts : List ℕ) →
    from_each f m qs ≡ Some ts → (q : ℕ) → among qs q ≡ true → Led (steps_of (state_at m q)) ts c
from_so f c g m [] ts e q i = absurd cc
from_so f c g m (p ∷ qs) ts e q i =
    by_sets (f (steps_of (state_at m p))) (from_each f m qs) ts e
    (λ us vs a b y.
    by_or (p == q) (among qs q) i
    (λ h.
    wider (steps_of (state_at m q)) us ts c
    (λ t j. subst (λ (xs : List ℕ). among xs t ≡ true) y (united_left us vs t j))
    (subst (λ (x : ℕ). Led (steps_of (state_at m x)) us c) (same_number p q h) (g (steps_of (state_at m p)) us a)))
    (λ h.
    wider (steps_of (state_at m q)) vs ts c
    (λ t j. subst (λ (xs : List ℕ). among xs t ≡ true) y (united_right us vs t j)) (from_so f c g m qs vs b q h)))

-- these children lead from a state to one of these
pub record Reach (m : List State) (ts : List ℕ) (q : ℕ) (cs : List Child) : Type 0 where
  pub left : ℕ
  pub is : among ts left ≡ true
  pub on : (ds : List Child) → Accepts m left ds → Accepts m q (cs ++ ds)

led_reach : (m : List State) (ts : List ℕ) (q : ℕ) (c : Child) → Led (steps_of (state_at m q)) ts c → Reach m ts q (c ∷ [])
led_reach m ts q c l = record { left = l.to; is = l.is; on = λ ds t. by_step l.leads_to t }

reach_wider : (m : List State) (us ts : List ℕ) (q : ℕ) (cs : List Child) →
    ((t : ℕ) → among us t ≡ true → among ts t ≡ true) → Reach m us q cs → Reach m ts q cs
reach_wider m us ts q cs w r = record { left = r.left; is = w r.left r.is; on = r.on }

by_set : {B : Type 0} (o : Option (List ℕ)) (f : List ℕ → Option (List ℕ)) (ts : List ℕ) → on_set o f ≡ Some ts →
    ((us : List ℕ) → o ≡ Some us → f us ≡ Some ts → B) → B
by_set None f ts e g = absurd cc
by_set (Some us) f ts e g = g us refl e

-- turns that lead nowhere else
record Turned (f : List ℕ → Option (List ℕ)) (qs ts : List ℕ) : Type 0 where
  more : (q : ℕ) → among qs q ≡ true → among ts q ≡ true
  new : List ℕ
  next : f ts ≡ Some new
  within : every_one (among ts) new ≡ true

by_stay : {B : Type 0} (o : Option (List ℕ)) (ts : List ℕ) → stays_in o ts ≡ true →
    ((us : List ℕ) → o ≡ Some us → every_one (among ts) us ≡ true → B) → B
by_stay None ts h f = absurd cc
by_stay (Some us) ts h f = f us refl h

turned_here : (f : List ℕ → Option (List ℕ)) (qs ts : List ℕ) → stays_in (f qs) qs ≡ true → qs ≡ ts → Turned f qs ts
turned_here f qs ts h e =
    subst (λ (xs : List ℕ). Turned f qs xs) e
    (by_stay (f qs) qs h (λ us i j. record { more = λ q m. m; new = us; next = i; within = j }))

turns_so : (n : ℕ) (f : List ℕ → Option (List ℕ)) (qs ts : List ℕ) → turns_run n f qs ≡ Some ts → Turned f qs ts
turns_so zero f qs ts e = absurd cc
turns_so (suc n) f qs ts e =
    by_some (stays_in (f qs) qs) qs (on_set (f qs) (λ us. turns_run n f (united us qs))) ts e
    (λ h i. turned_here f qs ts h i)
    (λ i.
    by_set (f qs) (λ us. turns_run n f (united us qs)) ts i
    (λ us j k.
    let r = turns_so n f (united us qs) ts k in
    record { more = λ q m. r.more q (united_right us qs q m); new = r.new; next = r.next; within = r.within }))

abbrev RunOf : List State → Content → Type 0
RunOf m a =
    (qs ts : List ℕ) → run m a qs ≡ Some ts → (q : ℕ) → among qs q ≡ true → (cs : List Child) → Holds a cs → IsWhole cs →
    Reach m ts q cs

turns_lead : (m : List State) (a : Content) → RunOf m a → (ts us : List ℕ) → run m a ts ≡ Some us →
    every_one (among ts) us ≡ true → (q : ℕ) → among ts q ≡ true → (cs : List Child) → Holds (any_of a) cs → IsWhole cs →
    Reach m ts q cs
turns_lead m a g ts us e h q i cs no_more w = record { left = q; is = i; on = λ ds t. t }
turns_lead m a g ts us e h q i cs (one_more {cs = xs} {ds = ys} s u) w =
    let x = g ts us e q i xs s (whole_left xs ys w) in
    let y = turns_lead m a g ts us e h x.left (every_so (among ts) us x.left h x.is) ys u (whole_right xs ys w) in
    record { left = y.left; is = y.is; on = λ ds t. rw (append_assoc xs ys ds) (x.on (ys ++ ds) (y.on ds t)) }

not_both : {A : Type 0} (cs : List Child) → are_sound cs ≡ false → IsWhole cs → A
not_both cs h w = absurd (let z : false ≡ true = sym h ∙ w in cc)

-- Whole children of a content lead to the states that are computed.
pub run_so : (m : List State) (a : Content) → RunOf m a
run_so m nothing qs ts e q i cs no_child w =
    record { left = q; is = subst (λ (xs : List ℕ). among xs q ≡ true) (some_is e) i; on = λ ds t. t }
run_so m (leaf_of ks) qs ts e q i cs (a_leaf {kind = k} j) w =
    led_reach m ts q (leaf_child k)
    (from_so (kinds_lead true ks) (leaf_child k)
    (λ ss us h. kinds_so true ss ks us (same_step true ss ks) (each_target true ss ks) refl refl h k j) m qs ts e q i)
run_so m any_leaf qs ts e q i cs (some_leaf {kind = k}) w =
    led_reach m ts q (leaf_child k)
    (from_so any_leads (leaf_child k) (λ ss us h. any_so ss us k (any_target ss) refl h) m qs ts e q i)
run_so m (node_of ks) qs ts e q i cs (a_node {kind = k} j) w =
    led_reach m ts q (node_child k)
    (from_so (kinds_lead false ks) (node_child k)
    (λ ss us h. kinds_so false ss ks us (same_step false ss ks) (each_target false ss ks) refl refl h k j) m qs ts e q i)
run_so m a_float qs ts e q i cs the_float w =
    led_reach m ts q float_child
    (from_so float_leads float_child (λ ss us h. float_so ss us (float_target ss) refl h) m qs ts e q i)
run_so m spoilt qs ts e q i cs (is_told h) w = not_both cs (told_unsound cs h) w
run_so m owed qs ts e q i cs (not_whole h) w = not_both cs h w
run_so m (a ⋅ b) qs ts e q i cs (in_order {cs = xs} {ds = ys} s t) w =
    by_set (run m a qs) (λ us. run m b us) ts e
    (λ us j k.
    let x = run_so m a qs us j q i xs s (whole_left xs ys w) in
    let y = run_so m b us ts k x.left x.is ys t (whole_right xs ys w) in
    record { left = y.left; is = y.is; on = λ ds u. rw (append_assoc xs ys ds) (x.on (ys ++ ds) (y.on ds u)) })
run_so m (a or b) qs ts e q i cs (by_first s) w =
    by_sets (run m a qs) (run m b qs) ts e
    (λ us vs j k y.
    reach_wider m us ts q cs (λ t n. subst (λ (xs : List ℕ). among xs t ≡ true) y (united_left us vs t n))
    (run_so m a qs us j q i cs s w))
run_so m (a or b) qs ts e q i cs (by_second s) w =
    by_sets (run m a qs) (run m b qs) ts e
    (λ us vs j k y.
    reach_wider m vs ts q cs (λ t n. subst (λ (xs : List ℕ). among xs t ≡ true) y (united_right us vs t n))
    (run_so m b qs vs k q i cs s w))
run_so m (any_of a) qs ts e q i cs s w =
    let r = turns_so 8 (λ us. run m a us) qs ts e in
    turns_lead m a (run_so m a) ts r.new r.next r.within q (r.more q i) cs s w

by_accept : {B : Type 0} (m : List State) (o : Option (List ℕ)) → all_accept m o ≡ true →
    ((ts : List ℕ) → o ≡ Some ts → every_one (λ t. accepts (state_at m t)) ts ≡ true → B) → B
by_accept m None h f = absurd cc
by_accept m (Some ts) h f = f ts refl h

by_first_state : {B : Type 0} (o : Option (List ℕ)) → all_first o ≡ true →
    ((ts : List ℕ) → o ≡ Some ts → every_one (λ t. t == 0) ts ≡ true → B) → B
by_first_state None h f = absurd cc
by_first_state (Some ts) h f = f ts refl h

start_is : among (0 ∷ []) 0 ≡ true
start_is = or_left (0 == 0) false (same_self 0)

-- What runs is accepted, if it is whole.
pub runs_so : (m : List State) (a : Content) → runs m a ≡ true → (cs : List Child) → Holds a cs → IsWhole cs →
    Accepts m 0 cs
runs_so m a h cs s w =
    by_accept m (run m a (0 ∷ [])) h
    (λ ts e i.
    let x = run_so m a (0 ∷ []) ts e 0 start_is cs s w in
    subst (λ (ds : List Child). Accepts m 0 ds) (append-nil cs)
    (x.on [] (at_end (every_so (λ t. accepts (state_at m t)) ts x.left i x.is))))

-- What comes back may stand before all that is accepted.
pub back_so : (m : List State) (a : Content) → comes_back m a ≡ true → (cs ds : List Child) → Holds a cs → IsWhole cs →
    Accepts m 0 ds → Accepts m 0 (cs ++ ds)
back_so m a h cs ds s w t =
    by_first_state (run m a (0 ∷ [])) h
    (λ ts e i.
    let x = run_so m a (0 ∷ []) ts e 0 start_is cs s w in
    x.on ds
    (subst (λ (z : ℕ). Accepts m z ds) (sym (same_number x.left 0 (every_so (λ t. t == 0) ts x.left i x.is))) t))
