-- Shapes that are put together, and children that spell them.
use Rattle.std.proofs.Common.{◌≡◌, ◌==◌, ℕ, Bool, true, false, List, [], ◌∷◌, ◌++◌, append_assoc, append-nil, refl, sym, subst}
use Rattle.rap_events.proofs.Truth.{or_left, or_right}
use Rattle.rap_events.specs.Forest.{Forest, none, node, leaf, message, split, ◌⧺◌}
use Rattle.rap_grammar_table.specs.Known.{among, every_one}
use Rattle.rap_grammar_table.specs.Shapes.{Child, leaf_child, node_child, message_child, float_child, children_of, Shape, nothing, leaf_of, node_of, ◌⋅◌, Spells, no_child, a_leaf, a_node, in_order, by_first, by_second, no_more, one_more, added_if, joined, after, either_of, turns, last_of, with_last}
use Rattle.rap_grammar_table.proofs.Known.{by_or, every_so, same_number}

-- kinds of two lists
added_keeps : (b : Bool) (x k : ℕ) (js : List ℕ) → among js k ≡ true → among (added_if b x js) k ≡ true
added_keeps true x k js m = m
added_keeps false x k js m = or_right (x == k) (among js k) m

added_one : (b : Bool) (x k : ℕ) (js : List ℕ) → (b ≡ true → among js k ≡ true) → (x == k) ≡ true →
    among (added_if b x js) k ≡ true
added_one true x k js m h = m refl
added_one false x k js m h = or_left (x == k) (among js k) h

joined_right : (ks js : List ℕ) (k : ℕ) → among js k ≡ true → among (joined ks js) k ≡ true
joined_right [] js k m = m
joined_right (x ∷ ks) js k m = added_keeps (among js x) x k (joined ks js) (joined_right ks js k m)

joined_left : (ks js : List ℕ) (k : ℕ) → among ks k ≡ true → among (joined ks js) k ≡ true
joined_left [] js k m = absurd cc
joined_left (x ∷ ks) js k m =
    by_or (x == k) (among ks k) m
    (λ h. added_one (among js x) x k (joined ks js)
    (λ n. joined_right ks js k (subst (λ (y : ℕ). among js y ≡ true) (same_number x k h) n)) h)
    (λ h. added_keeps (among js x) x k (joined ks js) (joined_left ks js k h))

-- what is put together
pub spells_after : {a b : Shape} {cs ds : List Child} → Spells a cs → Spells b ds → Spells (after a b) (cs ++ ds)
spells_after no_child t = t
spells_after s t = in_order s t

pub spells_first : (a b : Shape) {cs : List Child} → Spells a cs → Spells (either_of a b) cs
spells_first (leaf_of ks) (leaf_of js) (a_leaf {kind = k} m) = a_leaf (joined_left ks js k m)
spells_first (node_of ks) (node_of js) (a_node {kind = k} m) = a_node (joined_left ks js k m)
spells_first a b s = by_first s

pub spells_second : (a b : Shape) {cs : List Child} → Spells b cs → Spells (either_of a b) cs
spells_second (leaf_of ks) (leaf_of js) (a_leaf {kind = k} m) = a_leaf (joined_right ks js k m)
spells_second (node_of ks) (node_of js) (a_node {kind = k} m) = a_node (joined_right ks js k m)
spells_second a b s = by_second s

pub spells_turn : (a z : Shape) {cs ds : List Child} → Spells a cs → Spells (turns a z) ds →
    Spells (turns a z) (cs ++ ds)
spells_turn a nothing s t = one_more s t
spells_turn a z {cs = cs} s (in_order {cs = ds} {ds = es} t u) =
    rw (← append_assoc cs ds es) (in_order (one_more s t) u)

pub spells_last : (a z : Shape) {cs : List Child} → Spells z cs → Spells (turns a z) cs
spells_last a nothing no_child = no_more
spells_last a z s = in_order no_more s

-- kinds that are among others
abbrev pub within : Shape → Shape → Bool
within (leaf_of ks) (leaf_of js) = every_one (among js) ks
within (node_of ks) (node_of js) = every_one (among js) ks
within a b = false

pub within_so : (a b : Shape) {cs : List Child} → within a b ≡ true → Spells a cs → Spells b cs
within_so (leaf_of ks) (leaf_of js) h (a_leaf {kind = k} m) = a_leaf (every_so (among js) ks k h m)
within_so (node_of ks) (node_of js) h (a_node {kind = k} m) = a_node (every_so (among js) ks k h m)
within_so a b h s = absurd cc

-- children of trees in a row
pub children-⧺ : (x u : Forest) → children_of (x ⧺ u) ≡ children_of x ++ children_of u
children-⧺ x none = sym (append-nil (children_of x))
children-⧺ x (node u k c) =
    rw (children-⧺ x u) (append_assoc (children_of x) (children_of u) (node_child k ∷ []))
children-⧺ x (leaf u k w) =
    rw (children-⧺ x u) (append_assoc (children_of x) (children_of u) (leaf_child k ∷ []))
children-⧺ x (message u m) =
    rw (children-⧺ x u) (append_assoc (children_of x) (children_of u) (message_child ∷ []))
children-⧺ x (split u d) =
    rw (children-⧺ x u) (append_assoc (children_of x) (children_of u) (float_child ∷ []))

pub spells_on : {a b : Shape} (x u : Forest) → Spells a (children_of x) → Spells b (children_of u) →
    Spells (after a b) (children_of (x ⧺ u))
spells_on x u s t = rw (children-⧺ x u) (spells_after s t)

-- the last of some children
no_snoc : (ds : List Child) (d : Child) → [] ≡ ds ++ d ∷ [] → ⊥
no_snoc [] d e = absurd cc
no_snoc (y ∷ ds) d e = absurd cc

pub same_last : (cs ds : List Child) {c d : Child} → cs ++ c ∷ [] ≡ ds ++ d ∷ [] → (cs ≡ ds) × (c ≡ d)
same_last [] [] e = (refl, cc)
same_last [] (y ∷ ds) {d = d} e = let t : [] ≡ ds ++ d ∷ [] = cc in absurd (no_snoc ds d t)
same_last (x ∷ cs) [] {c = c} e = let t : [] ≡ cs ++ c ∷ [] = cc in absurd (no_snoc cs c t)
same_last (x ∷ cs) (y ∷ ds) {c = c} {d = d} e =
    let t : cs ++ c ∷ [] ≡ ds ++ d ∷ [] = cc in let r = same_last cs ds t in
    let h : x ≡ y = cc in (rw (h, r.0) refl, r.1)

abbrev pub is_node : Shape → Bool
is_node (node_of ks) = true
is_node a = false

-- The last child of a forest of a shape that ends with a node: the forests that have others in its place are of the
-- shape that has their shape there.
pub record LastIn (x : Shape) (u : Forest) : Type 0 where
  pub before : Forest
  pub kind : ℕ
  pub inside : Forest
  pub tree_is : u ≡ node before kind inside
  pub is_last : Spells (last_of x) (node_child kind ∷ [])
  pub others : {l : Shape} (w : Forest) → Spells l (children_of w) →
      Spells (with_last x l) (children_of (before ⧺ w))

same_node : {k j : ℕ} → node_child k ≡ node_child j → k ≡ j
same_node e = cc

alone_in : (ks : List ℕ) (k : ℕ) → among ks k ≡ true → (u : Forest) → node_child k ∷ [] ≡ children_of u →
    LastIn (node_of ks) u
alone_in ks k m none e = absurd cc
alone_in ks k m (node u j c) e =
    let r = same_last [] (children_of u) e in
    record {
      before = u;
      kind = j;
      inside = c;
      tree_is = refl;
      is_last = a_node (subst (λ (n : ℕ). among ks n ≡ true) (same_node r.1) m);
      others = λ w s. rw (children-⧺ u w, ← r.0) s;
    }
alone_in ks k m (leaf u j w) e = let r = same_last [] (children_of u) e in absurd cc
alone_in ks k m (message u b) e = let r = same_last [] (children_of u) e in absurd cc
alone_in ks k m (split u d) e = let r = same_last [] (children_of u) e in absurd cc

behind_in : {a : Shape} {cs : List Child} (ks : List ℕ) (k : ℕ) → Spells a cs → among ks k ≡ true → (u : Forest) →
    cs ++ node_child k ∷ [] ≡ children_of u → LastIn (a ⋅ node_of ks) u
behind_in {cs = cs} ks k s m none e = absurd (no_snoc cs _ (sym e))
behind_in {a = a} {cs = cs} ks k s m (node u j c) e =
    let r = same_last cs (children_of u) e in
    record {
      before = u;
      kind = j;
      inside = c;
      tree_is = refl;
      is_last = a_node (subst (λ (n : ℕ). among ks n ≡ true) (same_node r.1) m);
      others = λ w t. rw (children-⧺ u w) (in_order (subst (λ (ds : List Child). Spells a ds) r.0 s) t);
    }
behind_in {cs = cs} ks k s m (leaf u j w) e = let r = same_last cs (children_of u) e in absurd cc
behind_in {cs = cs} ks k s m (message u b) e = let r = same_last cs (children_of u) e in absurd cc
behind_in {cs = cs} ks k s m (split u d) e = let r = same_last cs (children_of u) e in absurd cc

pub last_in : {x : Shape} {cs : List Child} → Spells x cs → is_node (last_of x) ≡ true → (u : Forest) →
    cs ≡ children_of u → LastIn x u
last_in (a_node {kinds = ks} {kind = k} m) h u e = alone_in ks k m u e
last_in (in_order s (a_node {kinds = ks} {kind = k} m)) h u e = behind_in ks k s m u e
last_in s h u e = absurd cc
