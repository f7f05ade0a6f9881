-- A walk through steps finds whether they are those of one tree.
use Rattle.std.proofs.Common.{◌≡◌, ℕ, List, [], ◌∷◌, ◌++◌, Bool, true, false, not, ◌==◌, Some, None, refl, sym, ap, subst, ◌∙◌, append_assoc, append-nil, arith}
use Rattle.std.specs.Prelude.{if◌then◌else◌, ◌↔◌, IsTrue}
use Rattle.std.proofs.lemmas.Bool.{eq-eqb}
use Rattle.rap_base.specs.NodeKind.{FIELD_EXPR}
use Rattle.rap_events.specs.StepValue.{StepValue, enter, exit, token, float_split, error}
use Rattle.rap_events.specs.Forest.{Forest, none, node, leaf, message, split, flat, split_ends, exit_of, is_ended, splits_last, ends_in_dot, one_tree}
use Rattle.rap_events.specs.Reading.{Begun, read, with_ends, forest_of}
use Rattle.rap_events.specs.Reading as reading
use Rattle.rap_events.proofs.StepLemmas.{Before, before, Parts, node_parts}
use Rattle.rap_events.proofs.Splits.{both_placed, before_none, node_last}
use Rattle.rap_events.proofs.Trees.{Tree, nothing, a_node, a_leaf, a_message, dotted, apart, tree}
use Rattle.rap_events.proofs.Truth.{or_left}
use Rattle.rap_steps.specs.Steps.{IsTreeSteps}
use Rattle.rap_steps.specs.Walk.{and_then, closes, makes_tree}

-- the steps of a node
node-steps : (b : Forest) (k : ℕ) (x : Forest) (ss : List StepValue) → split_ends x ≡ 0 → flat (node b k x) ++ ss ≡ flat b ++ (enter k ∷ (flat x ++ (exit ∷ ss)))
node-steps b k x ss e =
    ap (λ n. (flat b ++ (enter k ∷ (flat x ++ exit_of n))) ++ ss) e
    ∙ append_assoc (flat b) (enter k ∷ (flat x ++ exit ∷ [])) ss
    ∙ ap (λ l. flat b ++ (enter k ∷ l)) (append_assoc (flat x) (exit ∷ []) ss)

dotted-steps : (b : Forest) (k : ℕ) (y : Forest) (ss : List StepValue) → flat (node b k (split y true)) ++ ss ≡ flat b ++ (enter k ∷ (flat y ++ (float_split true ∷ ss)))
dotted-steps b k y ss = simp append_assoc

apart-steps : (b : Forest) (k : ℕ) (c : Forest) (j : ℕ) (y : Forest) (ss : List StepValue)
    → flat (node b k (node c j (split y false))) ++ ss ≡ flat b ++ (enter k ∷ (flat c ++ (enter j ∷ (flat y ++ (float_split false ∷ ss)))))
apart-steps b k c j y ss = simp append_assoc

-- a float ends the newest node, or the two newest
dot_closes : (k : ℕ) (ks : List ℕ) (ss : List StepValue) → (k == FIELD_EXPR) ≡ true → and_then (if k == FIELD_EXPR then Some ks else None) (λ next. closes ss next) ≡ closes ss ks
dot_closes k ks ss field = ap (λ (b : Bool). and_then (if b then Some ks else None) (λ next. closes ss next)) field

both_close : (j k : ℕ) (ks : List ℕ) (ss : List StepValue) → (j == FIELD_EXPR) ≡ true → (k == FIELD_EXPR) ≡ true
    → and_then (if j == FIELD_EXPR then (if k == FIELD_EXPR then Some ks else None) else None) (λ next. closes ss next) ≡ closes ss ks
both_close j k ks ss inner outer =
    ap (λ (b : Bool). and_then (if b then (if k == FIELD_EXPR then Some ks else None) else None) (λ next. closes ss next)) inner
    ∙ dot_closes k ks ss outer

-- after a forest in an open node, the same nodes are open
past : (f : Forest) (j : ℕ) (ks : List ℕ) (ss : List StepValue) → Tree f → splits_last f ≡ true → closes (flat f ++ ss) (j ∷ ks) ≡ closes ss (j ∷ ks)
past none j ks ss nothing h = refl
past (split b d) j ks ss t h = elim t [ ]
past (node b k x) j ks ss (a_node t u e) h =
    let p : Parts b k x = node_parts b k x h in
    ap (λ l. closes l (j ∷ ks)) (node-steps b k x ss e)
    ∙ past b j ks (enter k ∷ (flat x ++ (exit ∷ ss))) t p.before.last
    ∙ past x k (j ∷ ks) (exit ∷ ss) u p.last
past (node b k (split y true)) j ks ss (dotted t u) h =
    let p : Parts b k (split y true) = node_parts b k (split y true) h in
    let q : Before y = before y p.last in
    ap (λ l. closes l (j ∷ ks)) (dotted-steps b k y ss)
    ∙ past b j ks (enter k ∷ (flat y ++ (float_split true ∷ ss))) t p.before.last
    ∙ past y k (j ∷ ks) (float_split true ∷ ss) u q.last
    ∙ dot_closes k (j ∷ ks) ss p.kind
past (node b k (node c i (split y false))) j ks ss (apart t u v) h =
    let p : Parts b k (node c i (split y false)) = node_parts b k (node c i (split y false)) h in
    let q : Parts c i (split y false) = node_parts c i (split y false) p.last in
    let r : Before y = before y q.last in
    ap (λ l. closes l (j ∷ ks)) (apart-steps b k c i y ss)
    ∙ past b j ks (enter k ∷ (flat c ++ (enter i ∷ (flat y ++ (float_split false ∷ ss))))) t p.before.last
    ∙ past c k (j ∷ ks) (enter i ∷ (flat y ++ (float_split false ∷ ss))) u q.before.last
    ∙ past y i (k ∷ j ∷ ks) (float_split false ∷ ss) v r.last
    ∙ both_close i k (j ∷ ks) ss q.kind p.kind
past (leaf b k w) j ks ss (a_leaf t) h =
    ap (λ l. closes l (j ∷ ks)) (append_assoc (flat b) (token k w ∷ []) ss) ∙ past b j ks (token k w ∷ ss) t (before b h).last
past (message b m) j ks ss (a_message t) h =
    ap (λ l. closes l (j ∷ ks)) (append_assoc (flat b) (error m ∷ []) ss) ∙ past b j ks (error m ∷ ss) t (before b h).last

-- a tree's steps are those of one
made_by_tree : (f : Forest) → one_tree f ≡ true → Tree f → splits_last f ≡ true → makes_tree (flat f) ≡ true
made_by_tree (node none k x) o (a_node t u e) h =
    ap (λ n. closes (flat x ++ exit_of n) (k ∷ [])) e ∙ past x k [] (exit ∷ []) u (node_parts none k x h).last
made_by_tree (node none k (split y true)) o (dotted t u) h = absurd cc
made_by_tree (node none k (node c j (split y false))) o (apart t u v) h =
    let p : Parts none k (node c j (split y false)) = node_parts none k (node c j (split y false)) h in
    let q : Parts c j (split y false) = node_parts c j (split y false) p.last in
    let r : Before y = before y q.last in
    ap makes_tree (sym (append-nil (flat (node none k (node c j (split y false))))) ∙ apart-steps none k c j y [])
    ∙ past c k [] (enter j ∷ (flat y ++ (float_split false ∷ []))) u q.before.last
    ∙ past y j (k ∷ []) (float_split false ∷ []) v r.last
    ∙ both_close j k [] [] q.kind p.kind
made_by_tree (node (node f l y) k x) o t h = absurd cc
made_by_tree (node (leaf f l w) k x) o t h = absurd cc
made_by_tree (node (message f m) k x) o t h = absurd cc
made_by_tree (node (split f d) k x) o t h = absurd cc
made_by_tree none o t h = absurd cc
made_by_tree (leaf b k w) o t h = absurd cc
made_by_tree (message b m) o t h = absurd cc
made_by_tree (split b d) o t h = elim t [ ]

pub makes : (ss : List StepValue) → IsTreeSteps ss → makes_tree ss ≡ true
makes ss h =
    let f : Forest = forest_of ss in
    ap makes_tree (sym h.shown) ∙ made_by_tree f h.one (tree f h.placed) (before f h.placed).last

-- the kinds of nodes that have begun, the newest first
abbrev kinds : Begun → List ℕ
kinds reading.nothing = []
kinds (reading.inside begun b k) = k ∷ kinds begun

-- the steps up to the newest one's beginning
abbrev begun_steps : Begun → List StepValue
begun_steps reading.nothing = []
begun_steps (reading.inside begun b k) = begun_steps begun ++ (flat b ++ enter k ∷ [])

-- a forest inside nodes that have begun; nothing is beside the oldest of them
abbrev Stands : Begun → Forest → Type 0
Stands reading.nothing b = b ≡ none
Stands (reading.inside begun c j) b = Stands begun c × Before b

-- the same, or it is the whole tree
abbrev Standing : Begun → Forest → Type 0
Standing reading.nothing f = (one_tree f ≡ true) × Before f
Standing (reading.inside begun b k) f = Stands begun b × Before f

record Made (ss : List StepValue) (f : Forest) : Type 0 where
  pub shown : flat f ≡ ss
  pub placed : Before f
  pub one : one_tree f ≡ true

moved : (ss tt : List StepValue) (f : Forest) → ss ≡ tt → Made ss f → Made tt f
moved ss tt f e m = record { shown = m.shown ∙ e; placed = m.placed; one = m.one }

before_of : (begun : Begun) (b : Forest) → Stands begun b → Before b
before_of reading.nothing b s = subst Before (sym s) before_none
before_of (reading.inside begun c j) b s = s.1

closed : (begun : Begun) (b : Forest) (k : ℕ) (x : Forest) → Stands begun b → Before (node b k x) → not (ends_in_dot x) ≡ true → Standing begun (node b k x)
closed reading.nothing b k x s p d = (subst (λ (f : Forest). one_tree (node f k x) ≡ true) (sym s) d, p)
closed (reading.inside begun c j) b k x s p d = (s.0, p)

no_dot : (f : Forest) → split_ends f ≡ 0 → not (ends_in_dot f) ≡ true
no_dot none e = refl
no_dot (node b k x) e = refl
no_dot (leaf b k w) e = refl
no_dot (message b m) e = refl
no_dot (split b true) e = absurd (omega (arith, e))
no_dot (split b false) e = refl

if_some : (b : Bool) (ks : List ℕ) (ss : List StepValue) → and_then (if b then Some ks else None) (λ next. closes ss next) ≡ true → (b ≡ true) × (closes ss ks ≡ true)
if_some true ks ss h = (refl, h)
if_some false ks ss h = absurd cc

if_both : (a b : Bool) (ks : List ℕ) (ss : List StepValue) → and_then (if a then (if b then Some ks else None) else None) (λ next. closes ss next) ≡ true
    → (a ≡ true) × ((b ≡ true) × (closes ss ks ≡ true))
if_both true b ks ss h = (refl, if_some b ks ss h)
if_both false b ks ss h = absurd cc

-- the tree of steps that end all nodes that have begun
sound : (ss : List StepValue) (begun : Begun) (f : Forest) → closes ss (kinds begun) ≡ true → Standing begun f → Made (begun_steps begun ++ (flat f ++ ss)) (read (with_ends ss) begun f)
sound [] reading.nothing f h s = record { shown = sym (append-nil (flat f)); placed = s.1; one = s.0 }
sound [] (reading.inside begun b k) f h s = absurd cc
sound (enter k ∷ ss) reading.nothing f h s = absurd cc
sound (exit ∷ ss) reading.nothing f h s = absurd cc
sound (token k w ∷ ss) reading.nothing f h s = absurd cc
sound (float_split d ∷ ss) reading.nothing f h s = absurd cc
sound (error m ∷ ss) reading.nothing f h s = absurd cc
sound (enter k ∷ ss) (reading.inside begun b j) f h s =
    let more : Begun = reading.inside (reading.inside begun b j) f k in
    moved (begun_steps more ++ (flat none ++ ss)) (begun_steps (reading.inside begun b j) ++ (flat f ++ (enter k ∷ ss))) (read (with_ends ss) more none)
    (simp append_assoc) (sound ss more none h (s, before_none))
sound (exit ∷ ss) (reading.inside begun b k) f h s =
    let x : Forest = node b k f in
    let p : Before x = record { last = node_last b k f (before_of begun b s.0) s.1.last (or_left (is_ended f) (k == FIELD_EXPR) (eq-eqb (split_ends f) 0 s.1.ended)); ended = omega (arith, s.1.ended) } in
    moved (begun_steps begun ++ (flat x ++ ss)) (begun_steps (reading.inside begun b k) ++ (flat f ++ (exit ∷ ss))) (read (with_ends ss) begun x)
    (ap (λ l. begun_steps begun ++ l) (node-steps b k f ss s.1.ended) ∙ simp append_assoc)
    (sound ss begun x h (closed begun b k f s.0 p (no_dot f s.1.ended)))
sound (token k w ∷ ss) (reading.inside begun b j) f h s =
    let x : Forest = leaf f k w in
    moved (begun_steps (reading.inside begun b j) ++ (flat x ++ ss)) (begun_steps (reading.inside begun b j) ++ (flat f ++ (token k w ∷ ss))) (read (with_ends ss) (reading.inside begun b j) x)
    (simp append_assoc) (sound ss (reading.inside begun b j) x h (s.0, record { last = both_placed f s.1; ended = refl }))
sound (error m ∷ ss) (reading.inside begun b j) f h s =
    let x : Forest = message f m in
    moved (begun_steps (reading.inside begun b j) ++ (flat x ++ ss)) (begun_steps (reading.inside begun b j) ++ (flat f ++ (error m ∷ ss))) (read (with_ends ss) (reading.inside begun b j) x)
    (simp append_assoc) (sound ss (reading.inside begun b j) x h (s.0, record { last = both_placed f s.1; ended = refl }))
sound (float_split d ∷ ss) (reading.inside reading.nothing b j) f h s = absurd cc
sound (float_split true ∷ ss) (reading.inside (reading.inside begun c i) b j) f h s =
    let x : Forest = node b j (split f true) in
    let t = if_some (j == FIELD_EXPR) (i ∷ kinds begun) ss h in
    let p : Before x = record { last = node_last b j (split f true) s.0.1 (both_placed f s.1) t.0; ended = refl } in
    moved (begun_steps (reading.inside begun c i) ++ (flat x ++ ss)) (begun_steps (reading.inside (reading.inside begun c i) b j) ++ (flat f ++ (float_split true ∷ ss)))
    (read (with_ends ss) (reading.inside begun c i) x)
    (ap (λ l. begun_steps (reading.inside begun c i) ++ l) (dotted-steps b j f ss) ∙ simp append_assoc)
    (sound ss (reading.inside begun c i) x t.1 (s.0.0, p))
sound (float_split false ∷ ss) (reading.inside (reading.inside begun c i) b j) f h s =
    let y : Forest = node b j (split f false) in
    let x : Forest = node c i y in
    let t = if_both (j == FIELD_EXPR) (i == FIELD_EXPR) (kinds begun) ss h in
    let q : splits_last y ≡ true = node_last b j (split f false) s.0.1 (both_placed f s.1) t.0 in
    let p : Before x = record { last = node_last c i y (before_of begun c s.0.0) q t.1.0; ended = refl } in
    moved (begun_steps begun ++ (flat x ++ ss)) (begun_steps (reading.inside (reading.inside begun c i) b j) ++ (flat f ++ (float_split false ∷ ss)))
    (read (with_ends ss) begun x)
    (ap (λ l. begun_steps begun ++ l) (apart-steps c i b j f ss) ∙ simp append_assoc)
    (sound ss begun x t.1.1 (closed begun c i y s.0.0 p refl))

pub made : (ss : List StepValue) → makes_tree ss ≡ true → IsTreeSteps ss
made [] h = absurd cc
made (exit ∷ ss) h = absurd cc
made (token k w ∷ ss) h = absurd cc
made (float_split d ∷ ss) h = absurd cc
made (error m ∷ ss) h = absurd cc
made (enter k ∷ ss) h =
    let m = sound ss (reading.inside reading.nothing none k) none h (refl, before_none) in
    record { shown = m.shown; placed = both_placed (forest_of (enter k ∷ ss)) m.placed; one = m.one }

pub decides : (ss : List StepValue) (b : Bool) → b ≡ makes_tree ss → IsTrue b ↔ IsTreeSteps ss
decides ss b e = (λ t. made ss (sym e ∙ t), λ h. e ∙ makes ss h)
