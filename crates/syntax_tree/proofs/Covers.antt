-- The last node or leaf that holds a range.
use Rattle.std.proofs.Common.{◌≡◌, ℕ, zero, suc, ◌+◌, ◌-◌, ◌<◌, ◌≤◌, Bool, true, false, cond, ◌&&◌, nat_le, List, [], ◌∷◌, ◌++◌, Option, Some, None, length, reverse, refl, ap, subst, sym, ◌∙◌, arith, inl, inr}
use Rattle.std.specs.List.{find, slice_get}
use Rattle.std.specs.Option.{option_or}
use Rattle.std.specs.declared.ops.Range.{Range}
use Rattle.std.proofs.lemmas.Bool.{cases_lt, lt-ltb, le-ltb}
use Rattle.std.proofs.lemmas.Bool.Decides.{nat_tests}
use Rattle.std.proofs.lemmas.List.{reverse-append}
use Rattle.std.proofs.lemmas.List.Folds.{find-append}
use Rattle.syntax_tree.specs.ChildEnds.{child_end, ends_after, reaching}
use Rattle.syntax_tree.specs.Children.{with_child, with_children, children_of}
use Rattle.syntax_tree.specs.Covering.{holds, smallest_holding}
use Rattle.syntax_tree.specs.Elements.{RangedElement, node_element, leaf_element, elements_of}
use Rattle.syntax_tree.specs.InRow.{InRow}
use Rattle.syntax_tree.specs.RangedForest.{RangedForest, RangedNode, ranged_none, ranged_node, ranged_leaf, forest_size}
use Rattle.syntax_tree.specs.ChildSizes.{size-with_children}
use Rattle.syntax_tree.specs.declared.node.Child.{Child}
use Rattle.syntax_tree.specs.declared.node.Child.TheVariants.{Node as a_node, Leaf as a_leaf}
use Rattle.syntax_tree.proofs.ChildRows.{only, Follow, follow, child_smaller}
use Rattle.rap_ranged.proofs.InRowLemmas.{rises}
use Rattle.syntax_tree.proofs.Walks.{elements-first}

-- two places and a range
begins_after : (a b s e : ℕ) → s < a → (nat_le a s && nat_le e b) ≡ false
begins_after a b s e p = grind (arith, nat_tests)

ends_before : (a b s e : ℕ) → b < e → (nat_le a s && nat_le e b) ≡ false
ends_before a b s e p = grind (arith, nat_tests)

reaches_over : (a b s e : ℕ) → a ≤ s → e ≤ b → (nat_le a s && nat_le e b) ≡ true
reaches_over a b s e p q = grind (arith, nat_tests)

-- the first of two answers
or_none : {A : Type 0} (o : Option A) → option_or o None ≡ o
or_none None = refl
or_none (Some x) = refl

or_some : {A : Type 0} (o : Option A) (x : A) (r : Option A) → option_or (option_or o (Some x)) r ≡ option_or o (Some x)
or_some None x r = refl
or_some (Some y) x r = refl

some_or : {A : Type 0} (o : Option A) (x : A) → (y : A) × (option_or o (Some x) ≡ Some y)
some_or None x = (x, refl)
some_or (Some y) x = (y, refl)

-- the last of two lists
found-append : (p : RangedElement → Bool) (xs ys : List RangedElement) → find p (reverse (xs ++ ys)) ≡ option_or (find p (reverse ys)) (find p (reverse xs))
found-append p xs ys = ap (find p) (reverse-append xs ys) ∙ find-append p (reverse ys) (reverse xs)

-- one node or leaf
abbrev pub found_one : ℕ → ℕ → RangedElement → Option RangedElement
found_one s e x = cond (holds s e x) (Some x) None

found-node : (before : RangedForest) (kind start end : ℕ) (children : RangedForest) (s e : ℕ)
    → smallest_holding s e (ranged_node before kind start end children)
    ≡ option_or (option_or (smallest_holding s e children) (found_one s e (node_element (record { kind = kind; start = start; end = end; children = children })))) (smallest_holding s e before)
found-node before kind start end children s e =
    let n : RangedNode = record { kind = kind; start = start; end = end; children = children } in
    found-append (holds s e) (elements_of before) (node_element n ∷ elements_of children)
    ∙ ap (λ o. option_or o (smallest_holding s e before)) (found-append (holds s e) (node_element n ∷ []) (elements_of children))

found-leaf : (before : RangedForest) (kind start end s e : ℕ)
    → smallest_holding s e (ranged_leaf before kind start end)
    ≡ option_or (found_one s e (leaf_element (record { kind = kind; start = start; end = end }))) (smallest_holding s e before)
found-leaf before kind start end s e =
    found-append (holds s e) (elements_of before) (leaf_element (record { kind = kind; start = start; end = end }) ∷ [])

none_of_node : (before : RangedForest) (kind start end : ℕ) (children : RangedForest) (s e : ℕ)
    → smallest_holding s e children ≡ None → (nat_le start s && nat_le e end) ≡ false → smallest_holding s e before ≡ None
    → smallest_holding s e (ranged_node before kind start end children) ≡ None
none_of_node before kind start end children s e inner not outer =
    let n : RangedElement = node_element (record { kind = kind; start = start; end = end; children = children }) in
    found-node before kind start end children s e
    ∙ ap (λ o. option_or (option_or o (found_one s e n)) (smallest_holding s e before)) inner
    ∙ ap (λ t. option_or (cond t (Some n) None) (smallest_holding s e before)) not
    ∙ outer

none_of_leaf : (before : RangedForest) (kind start end s e : ℕ)
    → (nat_le start s && nat_le e end) ≡ false → smallest_holding s e before ≡ None
    → smallest_holding s e (ranged_leaf before kind start end) ≡ None
none_of_leaf before kind start end s e not outer =
    let l : RangedElement = leaf_element (record { kind = kind; start = start; end = end }) in
    found-leaf before kind start end s e
    ∙ ap (λ t. option_or (cond t (Some l) None) (smallest_holding s e before)) not
    ∙ outer

-- a node or leaf that begins after the range's start does not hold it
none_after : (f : RangedForest) (a b s e : ℕ) → InRow a f b → s < a → smallest_holding s e f ≡ None
none_after ranged_none a b s e h p = refl
none_after (ranged_node before kind start end children) a b s e h p =
    let q : s < start = omega (arith, rises before a start h.0) in
    none_of_node before kind start end children s e
    (none_after children start end s e h.1 q) (begins_after start end s e q) (none_after before a start s e h.0 p)
none_after (ranged_leaf before kind start end) a b s e h p =
    let q : s < start = omega (arith, rises before a start h.0) in
    none_of_leaf before kind start end s e (begins_after start end s e q) (none_after before a start s e h.0 p)

-- nor does one that ends before its end
none_short : (f : RangedForest) (a b s e : ℕ) → InRow a f b → b < e → smallest_holding s e f ≡ None
none_short ranged_none a b s e h p = refl
none_short (ranged_node before kind start end children) a b s e h p =
    let q : end < e = omega (arith, h.2) in
    let r : start < e = omega (arith, rises children start end h.1) in
    none_of_node before kind start end children s e
    (none_short children start end s e h.1 q) (ends_before start end s e q) (none_short before a start s e h.0 r)
none_short (ranged_leaf before kind start end) a b s e h p =
    let q : end < e = omega (arith, h.2) in
    let r : start < e = omega (arith, h.1) in
    none_of_leaf before kind start end s e (ends_before start end s e q) (none_short before a start s e h.0 r)

-- a node that holds the range
pub in_node : (n : RangedNode) (s e : ℕ) → n.start ≤ s → e ≤ n.end → smallest_holding s e (only (a_node n)) ≡ option_or (smallest_holding s e n.children) (Some (node_element n))
in_node n s e p q =
    found-node ranged_none n.kind n.start n.end n.children s e
    ∙ (or_none (option_or (smallest_holding s e n.children) (found_one s e (node_element n)))
    ∙ ap (λ t. option_or (smallest_holding s e n.children) (cond t (Some (node_element n)) None)) (reaches_over n.start n.end s e p q))

-- a child that holds it
holds_child : (c : Child) (a s e : ℕ) → InRow a (only c) (child_end c) → a ≤ s → e ≤ child_end c → (x : RangedElement) × (smallest_holding s e (only c) ≡ Some x)
holds_child (a_node n) a s e h p q =
    let begins : n.start ≤ s = omega (arith, h.0) in
    let some = some_or (smallest_holding s e n.children) (node_element n) in
    (some.0, in_node n s e begins q ∙ some.1)
holds_child (a_leaf kind range) a s e h p q =
    let begins : range.start ≤ s = omega (arith, h.0) in
    let l : RangedElement = leaf_element (record { kind = kind; start = range.start; end = range.end }) in
    (l, found-leaf ranged_none kind range.start range.end s e ∙ ap (λ t. option_or (cond t (Some l) None) None) (reaches_over range.start range.end s e begins q))

-- the last of children
found-first : (c : Child) (cs : List Child) (s e : ℕ) → smallest_holding s e (children_of (c ∷ cs)) ≡ option_or (smallest_holding s e (children_of cs)) (smallest_holding s e (only c))
found-first c cs s e =
    ap (λ l. find (holds s e) (reverse l)) (elements-first c cs)
    ∙ found-append (holds s e) (elements_of (only c)) (elements_of (children_of cs))

none_after_all : (cs : List Child) (a b s e : ℕ) → Follow a cs b → s < a → smallest_holding s e (children_of cs) ≡ None
none_after_all [] a b s e h p = refl
none_after_all (c ∷ cs) a b s e h p =
    let q : s < child_end c = omega (arith, rises (only c) a (child_end c) h.0) in
    found-first c cs s e
    ∙ ap (λ o. option_or o (smallest_holding s e (only c))) (none_after_all cs (child_end c) b s e h.1 q)
    ∙ none_after (only c) a (child_end c) s e h.0 p

-- the child in whose place the range begins
reach_here : (c : Child) (cs : List Child) (s : ℕ) → s < child_end c → reaching s (c ∷ cs) ≡ Some c
reach_here c cs s q =
    ap (λ t. option_or (cond t (Some c) (find (ends_after s) cs)) (slice_get (c ∷ cs) (length (c ∷ cs) - 1))) (lt-ltb s (child_end c) q)

reach_only : (c : Child) (s : ℕ) → child_end c ≤ s → reaching s (c ∷ []) ≡ Some c
reach_only c s q =
    let first : length (c ∷ []) - 1 ≡ 0 = omega arith in
    ap (λ t. option_or (cond t (Some c) None) (slice_get (c ∷ []) (length (c ∷ []) - 1))) (le-ltb s (child_end c) q)
    ∙ ap (slice_get (c ∷ [])) first

reach_later : (c x : Child) (xs : List Child) (s : ℕ) → child_end c ≤ s → reaching s (c ∷ x ∷ xs) ≡ reaching s (x ∷ xs)
reach_later c x xs s q =
    let found : Option Child = find (ends_after s) (x ∷ xs) in
    let next : length (c ∷ x ∷ xs) - 1 ≡ suc (length (x ∷ xs) - 1) = omega arith in
    ap (λ t. option_or (cond t (Some c) found) (slice_get (c ∷ x ∷ xs) (length (c ∷ x ∷ xs) - 1))) (le-ltb s (child_end c) q)
    ∙ ap (λ i. option_or found (slice_get (c ∷ x ∷ xs) i)) next

pub record Reached (s e a : ℕ) (cs : List Child) (d : Child) : Type 0 where
  pub is : reaching s cs ≡ Some d
  pub from : ℕ
  pub begins : from ≤ s
  pub row : InRow from (only d) (child_end d)
  pub ends : a ≤ child_end d
  pub same : smallest_holding s e (children_of cs) ≡ smallest_holding s e (only d)

-- what the last of two children holds, where the other ends no later
last_one : (c d : Child) (a from s e : ℕ) → InRow a (only c) (child_end c) → InRow from (only d) (child_end d) → from ≤ s → child_end c ≤ child_end d
    → option_or (smallest_holding s e (only d)) (smallest_holding s e (only c)) ≡ smallest_holding s e (only d)
last_one c d a from s e h i p q = elim (cases_lt (child_end d) e) [
  | inl short ↦
      let none = none_short (only c) a (child_end c) s e h (omega (arith, short, q)) in
      ap (λ o. option_or (smallest_holding s e (only d)) o) none ∙ or_none (smallest_holding s e (only d))
  | inr long ↦
      let some = holds_child d from s e i p long in
      ap (λ o. option_or o (smallest_holding s e (only c))) some.1 ∙ sym some.1
]

reached_from : (c : Child) (cs : List Child) (a b s e : ℕ) → Follow a (c ∷ cs) b → a ≤ s → (d : Child) × Reached s e a (c ∷ cs) d
reached_from c [] a b s e h p = elim (cases_lt s (child_end c)) [
  | inl q ↦ (c, record { is = reach_here c [] s q; from = a; begins = p; row = h.0; ends = rises (only c) a (child_end c) h.0; same = found-first c [] s e })
  | inr q ↦ (c, record { is = reach_only c s q; from = a; begins = p; row = h.0; ends = rises (only c) a (child_end c) h.0; same = found-first c [] s e })
]
reached_from c (x ∷ xs) a b s e h p = elim (cases_lt s (child_end c)) [
  | inl q ↦ (
    c,
    record {
      is = reach_here c (x ∷ xs) s q;
      from = a;
      begins = p;
      row = h.0;
      ends = rises (only c) a (child_end c) h.0;
      same =
          found-first c (x ∷ xs) s e
          ∙ ap (λ o. option_or o (smallest_holding s e (only c))) (none_after_all (x ∷ xs) (child_end c) b s e h.1 q);
    },
  )
  | inr q ↦
      let r = reached_from x xs (child_end c) b s e h.1 q in (
        r.0,
        record {
          is = reach_later c x xs s q ∙ r.1.is;
          from = r.1.from;
          begins = r.1.begins;
          row = r.1.row;
          ends = omega (arith, rises (only c) a (child_end c) h.0, r.1.ends);
          same =
              found-first c (x ∷ xs) s e
              ∙ ap (λ o. option_or o (smallest_holding s e (only c))) r.1.same
              ∙ last_one c r.0 a r.1.from s e h.0 r.1.row r.1.begins r.1.ends;
        },
      )
]

-- what the child holds that the search gives, the forest's children hold
pub at_child : (cs : List Child) (f : RangedForest) (a b s e : ℕ) (d : Child) → children_of cs ≡ f → InRow a f b → a ≤ s → reaching s cs ≡ Some d
    → (from : ℕ) × ((from ≤ s) × InRow from (only d) (child_end d) × (smallest_holding s e f ≡ smallest_holding s e (only d)))
at_child [] f a b s e d same h p is = absurd (cc)
at_child (c ∷ cs) f a b s e d same h p is =
    let r = reached_from c cs a b s e (follow (c ∷ cs) f a b same h) p in
    let one : Some r.0 ≡ Some d = sym r.1.is ∙ is in
    let it : r.0 ≡ d = cc in
    let P : Child → Type 0 = λ x. (from : ℕ) × ((from ≤ s) × InRow from (only x) (child_end x) × (smallest_holding s e f ≡ smallest_holding s e (only x))) in
    subst P it (r.1.from, (r.1.begins, r.1.row, ap (smallest_holding s e) (sym same) ∙ r.1.same))

pub at_none : (cs : List Child) (f : RangedForest) (a b s e : ℕ) → children_of cs ≡ f → InRow a f b → a ≤ s → reaching s cs ≡ None → smallest_holding s e f ≡ None
at_none [] f a b s e same h p is = ap (smallest_holding s e) (sym same)
at_none (c ∷ cs) f a b s e same h p is =
    let r = reached_from c cs a b s e (follow (c ∷ cs) f a b same h) p in
    let clash : Some r.0 ≡ None = sym r.1.is ∙ is in
    absurd (cc)

-- if that child ends before the range does, none holds it
pub at_short : (cs : List Child) (f : RangedForest) (a b s e : ℕ) (d : Child) → children_of cs ≡ f → InRow a f b → a ≤ s → reaching s cs ≡ Some d → child_end d < e → smallest_holding s e f ≡ None
at_short cs f a b s e d same h p is short =
    let r = at_child cs f a b s e d same h p is in
    r.1.2 ∙ none_short (only d) r.0 (child_end d) s e r.1.1 short

-- if it is a node that ends no earlier, what holds the range is in it, or is that node
pub at_node : (cs : List Child) (f : RangedForest) (a b s e : ℕ) (n : RangedNode) (x : RangedElement) → children_of cs ≡ f → InRow a f b → a ≤ s → reaching s cs ≡ Some (a_node n) → e ≤ n.end
    → (option_or (smallest_holding s e f) (Some x) ≡ option_or (smallest_holding s e n.children) (Some (node_element n))) × InRow n.start n.children n.end × (n.start ≤ s)
at_node cs f a b s e n x same h p is long =
    let r = at_child cs f a b s e (a_node n) same h p is in
    let begins : n.start ≤ s = omega (arith, r.1.0, r.1.1.0) in (
      ap (λ o. option_or o (Some x)) (r.1.2 ∙ in_node n s e begins long) ∙ or_some (smallest_holding s e n.children) (node_element n) (Some x),
      r.1.1.1,
      begins,
    )

-- if it is a leaf that ends no earlier, it is that leaf
pub at_leaf : (cs : List Child) (f : RangedForest) (a b s e : ℕ) (kind : ℕ) (range : Range ℕ) (x : RangedElement) → children_of cs ≡ f → InRow a f b → a ≤ s → reaching s cs ≡ Some (a_leaf kind range) → e ≤ range.end
    → option_or (smallest_holding s e f) (Some x) ≡ Some (leaf_element (record { kind = kind; start = range.start; end = range.end }))
at_leaf cs f a b s e kind range x same h p is long =
    let r = at_child cs f a b s e (a_leaf kind range) same h p is in
    let begins : range.start ≤ s = omega (arith, r.1.0, r.1.1.0) in
    let l : RangedElement = leaf_element (record { kind = kind; start = range.start; end = range.end }) in
    ap (λ o. option_or o (Some x))
    (r.1.2
    ∙ (found-leaf ranged_none kind range.start range.end s e
    ∙ ap (λ t. option_or (cond t (Some l) None) None) (reaches_over range.start range.end s e begins long)))

-- the child is smaller than all children
got_smaller : (cs : List Child) (f : RangedForest) (i : ℕ) (n : RangedNode) → slice_get cs i ≡ Some (a_node n) → forest_size n.children + 1 ≤ forest_size (with_children f cs)
got_smaller [] f i n e = absurd (cc)
got_smaller (x ∷ xs) f zero n e =
    let is : x ≡ a_node n = cc in
    let P : Child → Type 0 = λ d. forest_size n.children + 1 ≤ forest_size (with_children f (d ∷ xs)) in
    subst P (sym is) (omega (arith, size-with_children xs (with_child f (a_node n))))
got_smaller (x ∷ xs) f (suc i) n e = got_smaller xs (with_child f x) i n e

smaller_by : (cs : List Child) (f : RangedForest) (s : ℕ) (n : RangedNode) (o : Option Child) → children_of cs ≡ f → find (ends_after s) cs ≡ o
    → option_or o (slice_get cs (length cs - 1)) ≡ Some (a_node n) → forest_size n.children < forest_size f
smaller_by cs f s n None same is e = omega (arith, ap forest_size same, got_smaller cs ranged_none (length cs - 1) n e)
smaller_by cs f s n (Some d) same is e = child_smaller cs f (ends_after s) n same (is ∙ e)

pub reached_smaller : (cs : List Child) (f : RangedForest) (s : ℕ) (n : RangedNode) → children_of cs ≡ f → reaching s cs ≡ Some (a_node n) → forest_size n.children < forest_size f
reached_smaller cs f s n same is = smaller_by cs f s n (find (ends_after s) cs) same refl is

-- the root of a text's tree
pub from_root : (n : RangedNode) (s e : ℕ) (x : RangedElement) → n.start ≤ s → e ≤ n.end → Some x ≡ option_or (smallest_holding s e n.children) (Some (node_element n)) → Some x ≡ smallest_holding s e (only (a_node n))
from_root n s e x p q is = is ∙ sym (in_node n s e p q)

pub beside_root : (n : RangedNode) (s e : ℕ) → InRow n.start n.children n.end → n.end < e → smallest_holding s e (only (a_node n)) ≡ None
beside_root n s e h short = none_short (only (a_node n)) n.start n.end s e (refl, h, refl) short
