-- Nodes that end while the steps of a tree are followed are nodes of the tree.
use Rattle.std.proofs.Common.{◌≡◌, ℕ, ◌+◌, List, [], ◌∷◌, ◌++◌, length, length-append, get_or, Bool, true, false, refl, sym, ap, subst, ◌∙◌, inl, inr, arith}
use Rattle.std.specs.Prelude.{◌⊎◌, zero, suc, All}
use Rattle.std.proofs.lemmas.List.{same_from_push}
use Rattle.std.proofs.lemmas.List.Elements.{All-nil}
use Rattle.rap_events.specs.StepValue.{StepValue, enter, exit, token, float_split, error}
use Rattle.rap_events.specs.Forest.{Forest, none, node, leaf, message, split, ◌⧺◌, used, flat, exit_of, split_ends, splits_placed, ended_by}
use Rattle.rap_events.specs.Reading.{Begun, nothing, inside, read, with_ends, exits}
use Rattle.rap_events.proofs.StepLemmas.{forest_of-flat}
use Rattle.rap_grammar_ends.specs.StandsIn.{NodeAt, last_node, in_last_node, before_node, before_leaf, before_message, before_split}
use Rattle.rap_core.specs.Nodes.{IsNode}
use Rattle.rap_core.specs.Walked.{widths_of, finished, open_nodes, IsAt}
use Rattle.rap_core.specs.declared.nodes.OpenNode.{OpenNode}
use Rattle.rap_core.specs.declared.nodes.Walk.{Walk}
use Rattle.rap_grammar_rows.specs.declared.search.outside.Outside.{Outside}

used-⧺ : (f g : Forest) → used (f ⧺ g) ≡ used f + used g
used-⧺ f none = omega arith
used-⧺ f (node b k x) = omega (arith, used-⧺ f b)
used-⧺ f (leaf b k w) = omega (arith, used-⧺ f b)
used-⧺ f (message b m) = used-⧺ f b
used-⧺ f (split b d) = omega (arith, used-⧺ f b)

-- a node of one forest after another is a node of the first one, or of the second one
apart : (g f : Forest) {place kind : ℕ} {children : Forest} → NodeAt (g ⧺ f) place kind children →
    NodeAt g place kind children ⊎ ((n : ℕ) × (place ≡ used g + n) × NodeAt f n kind children)
apart g none h = inl h
apart g (node b k x) last_node = inr (used b, used-⧺ g b, last_node)
apart g (node b k x) (in_last_node {tokens = n} h) = inr (used b + n, omega (arith, used-⧺ g b), in_last_node h)
apart g (node b k x) (before_node h) = elim (apart g b h) [ inl i ↦ inl i | inr j ↦ inr (j.0, j.1, before_node j.2) ]
apart g (leaf b k w) (before_leaf h) = elim (apart g b h) [ inl i ↦ inl i | inr j ↦ inr (j.0, j.1, before_leaf j.2) ]
apart g (message b m) (before_message h) =
    elim (apart g b h) [ inl i ↦ inl i | inr j ↦ inr (j.0, j.1, before_message j.2) ]
apart g (split b d) (before_split h) = elim (apart g b h) [ inl i ↦ inl i | inr j ↦ inr (j.0, j.1, before_split j.2) ]

-- it stays one where a node is put around the second one
around : (g f : Forest) (k place kind : ℕ) (children : Forest) → NodeAt (g ⧺ f) place kind children →
    NodeAt (node g k f) place kind children
around g f k place kind children h = elim (apart g f h) [
  | inl i ↦ before_node i
  | inr j ↦ subst (λ (n : ℕ). NodeAt (node g k f) n kind children) (sym j.1) (in_last_node j.2)
]

-- a thing more at the end
finished-node : (begun : Begun) (f : Forest) (k : ℕ) (x : Forest) →
    finished begun (node f k x) ≡ node (finished begun f) k x
finished-node nothing f k x = refl
finished-node (inside begun b j) f k x = refl

finished-leaf : (begun : Begun) (f : Forest) (k w : ℕ) → finished begun (leaf f k w) ≡ leaf (finished begun f) k w
finished-leaf nothing f k w = refl
finished-leaf (inside begun b j) f k w = refl

finished-message : (begun : Begun) (f : Forest) (m : List ℕ) →
    finished begun (message f m) ≡ message (finished begun f) m
finished-message nothing f m = refl
finished-message (inside begun b j) f m = refl

finished-split : (begun : Begun) (f : Forest) (d : Bool) → finished begun (split f d) ≡ split (finished begun f) d
finished-split nothing f d = refl
finished-split (inside begun b j) f d = refl

-- the nodes of one forest are those of another
abbrev Grows : Forest → Forest → Type 0
Grows f g = (place kind : ℕ) (children : Forest) → NodeAt f place kind children → NodeAt g place kind children

kept : (s t : Forest) → Grows s t → (ns : List Outside) → All (IsNode s) ns → All (IsNode t) ns
kept s t on ns a k d h = let i : IsNode s (get_or ns k d) = a k d h in
    record { children = i.children; stands = on _ _ _ i.stands; end = i.end }

-- nothing was followed yet
widths-append : (xs ys : List StepValue) → widths_of (xs ++ ys) ≡ widths_of xs + widths_of ys
widths-append [] ys = omega arith
widths-append (x ∷ xs) ys = omega (arith, widths-append xs ys)

widths-exits : (n : ℕ) (ss : List StepValue) → widths_of (exits n ++ ss) ≡ widths_of ss
widths-exits zero ss = refl
widths-exits (suc n) ss = omega (arith, widths-exits n ss)

widths-exit_of : (n : ℕ) → widths_of (exit_of n) ≡ 0
widths-exit_of zero = refl
widths-exit_of (suc n) = refl

widths-with_ends : (ss : List StepValue) → widths_of (with_ends ss) ≡ widths_of ss
widths-with_ends [] = refl
widths-with_ends (enter k ∷ ss) = omega (arith, widths-with_ends ss)
widths-with_ends (exit ∷ ss) = omega (arith, widths-with_ends ss)
widths-with_ends (token k w ∷ ss) = omega (arith, widths-with_ends ss)
widths-with_ends (float_split d ∷ ss) = omega (arith, widths-exits (ended_by d) (with_ends ss), widths-with_ends ss)
widths-with_ends (error m ∷ ss) = omega (arith, widths-with_ends ss)

widths-flat : (f : Forest) → widths_of (flat f) ≡ used f
widths-flat none = refl
widths-flat (node b k x) =
    omega (
      arith,
      widths-append (flat b) (enter k ∷ (flat x ++ exit_of (split_ends x))),
      widths-append (flat x) (exit_of (split_ends x)),
      widths-exit_of (split_ends x),
      widths-flat b,
      widths-flat x,
    )
widths-flat (leaf b k w) = omega (arith, widths-append (flat b) (token k w ∷ []), widths-flat b)
widths-flat (message b m) = omega (arith, widths-append (flat b) (error m ∷ []), widths-flat b)
widths-flat (split b d) = omega (arith, widths-append (flat b) (float_split d ∷ []), widths-flat b)

begin_walk : (tree : Forest) (v : Walk) → splits_placed tree ≡ true → v.begun.items ≡ [] → v.tokens ≡ 0 →
    v.found.items ≡ [] → IsAt tree (with_ends (flat tree)) v
begin_walk tree v placed no_nodes no_tokens not_found = record {
  begun = nothing;
  forest = none;
  reads = forest_of-flat tree placed;
  nodes = no_nodes;
  tokens = no_tokens;
  left = omega (arith, no_tokens, widths-with_ends (flat tree), widths-flat tree);
  found = subst (All (IsNode none)) (sym not_found) (All-nil (IsNode none));
}

pub starts : (tree : Forest) (ss : List StepValue) (v : Walk) → ss ≡ flat tree → splits_placed tree ≡ true →
    v.begun.items ≡ [] → v.tokens ≡ 0 → v.found.items ≡ [] → IsAt tree (with_ends ss) v
starts tree ss v e placed no_nodes no_tokens not_found =
    subst (λ (ss : List StepValue). IsAt tree (with_ends ss) v) (sym e)
    (begin_walk tree v placed no_nodes no_tokens not_found)

-- tokens are taken
taken : (tree : Forest) (ss : List StepValue) (k width : ℕ) (v : Walk) → IsAt tree (token k width ∷ ss) v →
    IsAt tree ss (record v { tokens = v.tokens + width })
taken tree ss k width v a = record {
  begun = a.begun;
  forest = leaf a.forest k width;
  reads = a.reads;
  nodes = a.nodes;
  tokens = omega (arith, a.tokens, ap used (finished-leaf a.begun a.forest k width));
  left = omega (arith, a.left);
  found = rw (finished-leaf a.begun a.forest k width)
      (kept (finished a.begun a.forest) (leaf (finished a.begun a.forest) k width) (λ p j c i. before_leaf i)
      v.found.items a.found);
}

pub takes : (tree : Forest) (ss : List StepValue) (k width : ℕ) (v w : Walk) →
    w ≡ record v { tokens = v.tokens + width } → IsAt tree (token k width ∷ ss) v → IsAt tree ss w
takes tree ss k width v w e a = subst (IsAt tree ss) (sym e) (taken tree ss k width v a)

-- a float is taken apart
split_off : (tree : Forest) (ss : List StepValue) (d : Bool) (v : Walk) → IsAt tree (float_split d ∷ ss) v →
    IsAt tree ss (record v { tokens = v.tokens + 1 })
split_off tree ss d v a = record {
  begun = a.begun;
  forest = split a.forest d;
  reads = a.reads;
  nodes = a.nodes;
  tokens = omega (arith, a.tokens, ap used (finished-split a.begun a.forest d));
  left = omega (arith, a.left);
  found = rw (finished-split a.begun a.forest d)
      (kept (finished a.begun a.forest) (split (finished a.begun a.forest) d) (λ p j c i. before_split i)
      v.found.items a.found);
}

pub splits_one : (tree : Forest) (ss : List StepValue) (d : Bool) (v w : Walk) → w ≡ record v { tokens = v.tokens + 1 } →
    d ≡ true → IsAt tree (with_ends (float_split d ∷ ss)) v → IsAt tree (exit ∷ with_ends ss) w
splits_one tree ss d v w e dot a =
    let P : Bool → Type 0 = λ d. IsAt tree (float_split d ∷ (exits (ended_by d) ++ with_ends ss)) v in
    let at : IsAt tree (float_split true ∷ (exit ∷ with_ends ss)) v = subst P dot a in
    subst (IsAt tree (exit ∷ with_ends ss)) (sym e) (split_off tree (exit ∷ with_ends ss) true v at)

pub splits_two : (tree : Forest) (ss : List StepValue) (d : Bool) (v w : Walk) → w ≡ record v { tokens = v.tokens + 1 } →
    d ≡ false → IsAt tree (with_ends (float_split d ∷ ss)) v → IsAt tree (exit ∷ (exit ∷ with_ends ss)) w
splits_two tree ss d v w e no_dot a =
    let P : Bool → Type 0 = λ d. IsAt tree (float_split d ∷ (exits (ended_by d) ++ with_ends ss)) v in
    let at : IsAt tree (float_split false ∷ (exit ∷ (exit ∷ with_ends ss))) v = subst P no_dot a in
    subst (IsAt tree (exit ∷ (exit ∷ with_ends ss))) (sym e) (split_off tree (exit ∷ (exit ∷ with_ends ss)) false v at)

-- a message
pub reports : (tree : Forest) (ss : List StepValue) (m : List ℕ) (v : Walk) → IsAt tree (error m ∷ ss) v →
    IsAt tree ss v
reports tree ss m v a = record {
  begun = a.begun;
  forest = message a.forest m;
  reads = a.reads;
  nodes = a.nodes;
  tokens = omega (arith, a.tokens, ap used (finished-message a.begun a.forest m));
  left = omega (arith, a.left);
  found = rw (finished-message a.begun a.forest m)
      (kept (finished a.begun a.forest) (message (finished a.begun a.forest) m) (λ p j c i. before_message i)
      v.found.items a.found);
}

-- a node ends
no_last : (xs : List OpenNode) (x : OpenNode) → xs ++ x ∷ [] ≡ [] → ⊥
no_last xs x e = absurd (omega (arith, ap length e, length-append xs (x ∷ [])))

-- what is known of a node that ends, and of what was found
abbrev pub Keeps : Walk → Walk → OpenNode → Type 0
Keeps v w n = (tree : Forest) → All (IsNode tree) v.found.items →
    IsNode tree (record { kind = n.kind; start = n.start; end = v.tokens }) → All (IsNode tree) w.found.items

newest_ends : (tree : Forest) (ss : List StepValue) (v w : Walk) (newest : OpenNode) (begun : Begun) (f : Forest) →
    read (exit ∷ ss) begun f ≡ tree → w.begun.items ++ newest ∷ [] ≡ open_nodes begun →
    v.tokens ≡ used (finished begun f) → v.tokens + widths_of ss ≡ used tree →
    All (IsNode (finished begun f)) v.found.items → w.tokens ≡ v.tokens → Keeps v w newest → IsAt tree ss w
newest_ends tree ss v w newest nothing f r n t l a e keeps = absurd (no_last w.begun.items newest n)
newest_ends tree ss v w newest (inside begun b k) f r n t l a e keeps =
    let before : Forest = finished begun b in
    let same = same_from_push w.begun.items (open_nodes begun) newest (record { kind = k; start = used before }) n in
    let sum : used (before ⧺ f) ≡ used before + used f = used-⧺ before f in
    let one : IsNode (node before k f) (record { kind = k; start = used before; end = v.tokens }) =
    record { children = f; stands = last_node; end = omega (arith, t, sum) } in
    record {
      begun = begun;
      forest = node b k f;
      reads = r;
      nodes = same.0;
      tokens = omega (arith, e, t, sum, ap used (finished-node begun b k f));
      left = omega (arith, e, l);
      found = rw (finished-node begun b k f) (keeps (node before k f)
          (kept (before ⧺ f) (node before k f) (around before f k) v.found.items a)
          (subst (λ (n : OpenNode). IsNode (node before k f) (record { kind = n.kind; start = n.start; end = v.tokens }))
          (sym same.1) one));
    }

pub ends : (tree : Forest) (ss : List StepValue) (v w : Walk) (newest : OpenNode) →
    v.begun.items ≡ w.begun.items ++ newest ∷ [] → w.tokens ≡ v.tokens → Keeps v w newest →
    IsAt tree (exit ∷ ss) v → IsAt tree ss w
ends tree ss v w newest last tokens keeps a =
    newest_ends tree ss v w newest a.begun a.forest a.reads (sym last ∙ a.nodes) a.tokens (omega (arith, a.left)) a.found
    tokens keeps

none_begun : (begun : Begun) → [] ≡ open_nodes begun → begun ≡ nothing
none_begun nothing e = refl
none_begun (inside begun b k) e = absurd (no_last (open_nodes begun) _ (sym e))

-- all steps were followed
no_items : (xs : List OpenNode) → length xs ≡ 0 → xs ≡ []
no_items [] e = refl
no_items (x ∷ xs) e = absurd (omega (arith, e))

pub done : (tree : Forest) (v : Walk) → length v.begun.items ≡ 0 → IsAt tree [] v → All (IsNode tree) v.found.items
done tree v no_nodes a =
    let is : a.begun ≡ nothing = none_begun a.begun (sym (no_items v.begun.items no_nodes) ∙ a.nodes) in
    subst (λ (f : Forest). All (IsNode f) v.found.items)
    (subst (λ (b : Begun). read [] b a.forest ≡ tree) is a.reads)
    (subst (λ (b : Begun). All (IsNode (finished b a.forest)) v.found.items) is a.found)
