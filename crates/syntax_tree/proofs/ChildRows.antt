-- Children whose places follow one another, and the child whose range holds a byte.
use Rattle.std.proofs.Common.{◌≡◌, ℕ, zero, suc, ◌+◌, ◌<◌, ◌≤◌, Bool, true, false, cond, ◌&&◌, nat_lt, leb, ◌⊎◌, List, [], ◌∷◌, ◌++◌, Option, Some, None, length, get_or, refl, ap, subst, sym, ◌∙◌, append_assoc, append-nil, arith, inl, inr}
use Rattle.std.specs.List.{find}
use Rattle.std.specs.Option.{option_or}
use Rattle.std.specs.List.Sorted.{IsNonDecreasingBy, IsPartitionPoint}
use Rattle.std.specs.declared.ops.Range.{Range}
use Rattle.std.proofs.lemmas.Bool.{cases_lt, lt-ltb, le-ltb, le-leb, leb-true, leb-false}
use Rattle.std.proofs.lemmas.List.Folds.{find-append}
use Rattle.syntax_tree.specs.ChildEnds.{child_end, ends_after}
use Rattle.syntax_tree.specs.ChildSizes.{size-with_children}
use Rattle.syntax_tree.specs.Children.{with_child, with_children, children_of}
use Rattle.syntax_tree.specs.InRow.{InRow}
use Rattle.syntax_tree.specs.Leaves.{RangedLeaf, leaves_of, has_byte, leaf_of_byte}
use Rattle.syntax_tree.specs.RangedForest.{RangedForest, RangedNode, ranged_none, forest_size}
use Rattle.syntax_tree.specs.declared.node.Child.{Child}
use Rattle.syntax_tree.specs.declared.node.Child.TheVariants.{Node as a_node, Leaf as a_leaf}
use Rattle.rap_ranged.proofs.InRowLemmas.{rises, byte_after, byte_inside}

-- a child alone
abbrev pub only : Child → RangedForest
only c = with_child ranged_none c

abbrev pub child_start : Child → ℕ
child_start (a_node n) = n.start
child_start (a_leaf kind range) = range.start

-- children from a place to another
abbrev pub Follow : ℕ → List Child → ℕ → Type 0
Follow a [] b = a ≡ b
Follow a (c ∷ cs) b = InRow a (only c) (child_end c) × Follow (child_end c) cs b

with_one : (c : Child) (f : RangedForest) (a b : ℕ) → InRow a (with_child f c) b → (m : ℕ) × (InRow a f m × InRow m (only c) (child_end c) × (child_end c ≡ b))
with_one (a_node n) f a b h = (n.start, (h.0, (refl, h.1, refl), h.2))
with_one (a_leaf kind range) f a b h = (range.start, (h.0, (refl, h.1, refl), h.2))

follow_with : (cs : List Child) (f : RangedForest) (a b : ℕ) → InRow a (with_children f cs) b → (m : ℕ) × (InRow a f m × Follow m cs b)
follow_with [] f a b h = (b, (h, refl))
follow_with (c ∷ cs) f a b h =
    let rest = follow_with cs (with_child f c) a b h in
    let one = with_one c f a rest.0 rest.1.0 in
    let P : ℕ → Type 0 = λ m. Follow m cs b in
    (one.0, (one.1.0, (one.1.1, subst P (sym one.1.2) rest.1.1)))

pub follow : (cs : List Child) (f : RangedForest) (a b : ℕ) → children_of cs ≡ f → InRow a f b → Follow a cs b
follow cs f a b e h =
    let P : RangedForest → Type 0 = λ g. InRow a g b in
    let r = follow_with cs ranged_none a b (subst P (sym e) h) in
    let Q : ℕ → Type 0 = λ m. Follow m cs b in
    subst Q (sym r.1.0) r.1.1

below : (cs : List Child) (a b : ℕ) → Follow a cs b → (j : ℕ) (d : Child) → j < length cs → a ≤ child_end (get_or cs j d)
below [] a b h j d p = absurd (omega arith)
below (c ∷ cs) a b h zero d p = rises (only c) a (child_end c) h.0
below (c ∷ cs) a b h (suc j) d p =
    let q : j < length cs = omega arith in
    omega (arith, rises (only c) a (child_end c) h.0, below cs (child_end c) b h.1 j d q)

-- each ends no earlier than the ones before it
pub ends_rise : (cs : List Child) (a b : ℕ) → Follow a cs b → IsNonDecreasingBy child_end cs
ends_rise [] a b h i j d p q = absurd (omega arith)
ends_rise (c ∷ cs) a b h zero zero d p q = omega arith
ends_rise (c ∷ cs) a b h zero (suc j) d p q =
    let r : j < length cs = omega arith in
    below cs (child_end c) b h.1 j d r
ends_rise (c ∷ cs) a b h (suc i) zero d p q = absurd (omega arith)
ends_rise (c ∷ cs) a b h (suc i) (suc j) d p q =
    let s : i ≤ j = omega arith in
    let r : j < length cs = omega arith in
    ends_rise cs (child_end c) b h.1 i j d s r

leaves-with_child : (c : Child) (f : RangedForest) → leaves_of (with_child f c) ≡ leaves_of f ++ leaves_of (only c)
leaves-with_child (a_node n) f = refl
leaves-with_child (a_leaf kind range) f = refl

-- the leaves of children
abbrev pub child_leaves : List Child → List RangedLeaf
child_leaves [] = []
child_leaves (c ∷ cs) = leaves_of (only c) ++ child_leaves cs

leaves-with_children : (cs : List Child) (f : RangedForest) → leaves_of (with_children f cs) ≡ leaves_of f ++ child_leaves cs
leaves-with_children [] f = sym (append-nil (leaves_of f))
leaves-with_children (c ∷ cs) f =
    leaves-with_children cs (with_child f c)
    ∙ ap (λ l. l ++ child_leaves cs) (leaves-with_child c f)
    ∙ append_assoc (leaves_of f) (leaves_of (only c)) (child_leaves cs)

-- what the search for a byte finds in a child
abbrev pub in_child : ℕ → Option Child → Option RangedLeaf
in_child offset None = None
in_child offset (Some c) = leaf_of_byte offset (only c)

find_in_child : (cs : List Child) (a b offset : ℕ) → Follow a cs b → a ≤ offset → find (has_byte offset) (child_leaves cs) ≡ in_child offset (find (ends_after offset) cs)
find_in_child [] a b offset h p = refl
find_in_child (c ∷ cs) a b offset h p =
    let cut = find-append (has_byte offset) (leaves_of (only c)) (child_leaves cs) in
    elim (cases_lt offset (child_end c)) [
      | inl q ↦
          let first = byte_inside (only c) a (child_end c) offset h.0 p q in
          rw (lt-ltb offset (child_end c) q)
          (cut ∙ ap (λ o. option_or o (find (has_byte offset) (child_leaves cs))) first.1 ∙ sym first.1)
      | inr q ↦
          let first = byte_after (only c) a (child_end c) offset h.0 q in
          rw (le-ltb offset (child_end c) q)
          (cut ∙ ap (λ o. option_or o (find (has_byte offset) (child_leaves cs))) first ∙ find_in_child cs (child_end c) b offset h.1 q)
    ]

-- the leaf of a byte is in the first child that ends after the byte
pub byte_in_child : (cs : List Child) (f : RangedForest) (a b offset : ℕ) → children_of cs ≡ f → InRow a f b → a ≤ offset → leaf_of_byte offset f ≡ in_child offset (find (ends_after offset) cs)
byte_in_child cs f a b offset e h p =
    ap (leaf_of_byte offset) (sym e)
    ∙ ap (find (has_byte offset)) (leaves-with_children cs ranged_none)
    ∙ find_in_child cs a b offset (follow cs f a b e h) p

-- a child that has the byte in its place, which begins at this one
pub record Reaches (offset : ℕ) (c : Child) : Type 0 where
  pub from : ℕ
  pub begins : from ≤ offset
  pub row : InRow from (only c) (child_end c)
  pub ends : offset < child_end c

found_from : (cs : List Child) (a b offset : ℕ) (c : Child) → Follow a cs b → a ≤ offset → find (ends_after offset) cs ≡ Some c → Reaches offset c
found_from [] a b offset c h p e = absurd (cc)
found_from (x ∷ xs) a b offset c h p e = elim (cases_lt offset (child_end x)) [
  | inl q ↦
      let same : Some x ≡ Some c = sym (ap (λ t. cond t (Some x) (find (ends_after offset) xs)) (lt-ltb offset (child_end x) q)) ∙ e in
      let is : x ≡ c = cc in
      subst (Reaches offset) is (record { from = a; begins = p; row = h.0; ends = q })
  | inr q ↦
      let same : find (ends_after offset) xs ≡ Some c = sym (ap (λ t. cond t (Some x) (find (ends_after offset) xs)) (le-ltb offset (child_end x) q)) ∙ e in
      found_from xs (child_end x) b offset c h.1 q same
]

-- the leaf of the byte, if that child is a leaf
pub at_leaf : (cs : List Child) (f : RangedForest) (a b offset : ℕ) (kind : ℕ) (range : Range ℕ) → children_of cs ≡ f → InRow a f b → a ≤ offset → find (ends_after offset) cs ≡ Some (a_leaf kind range)
    → let l : RangedLeaf = record { kind = kind; start = range.start; end = range.end } in leaf_of_byte offset f ≡ Some l
at_leaf cs f a b offset kind range e h p is =
    let r = found_from cs a b offset (a_leaf kind range) (follow cs f a b e h) p is in
    let begins : range.start ≤ offset = omega (arith, r.begins, r.row.0) in
    let l : RangedLeaf = record { kind = kind; start = range.start; end = range.end } in
    let here : in_child offset (Some (a_leaf kind range)) ≡ Some l =
    ap (λ t. cond (t && nat_lt offset range.end) (Some l) None) (le-leb range.start offset begins)
    ∙ ap (λ t. cond t (Some l) None) (lt-ltb offset range.end r.ends) in
    byte_in_child cs f a b offset e h p ∙ ap (in_child offset) is ∙ here

-- if it is a node, the leaf of the byte is in that node
pub at_node : (cs : List Child) (f : RangedForest) (a b offset : ℕ) (n : RangedNode) → children_of cs ≡ f → InRow a f b → a ≤ offset → find (ends_after offset) cs ≡ Some (a_node n)
    → (leaf_of_byte offset f ≡ leaf_of_byte offset n.children) × InRow n.start n.children n.end × (n.start ≤ offset)
at_node cs f a b offset n e h p is =
    let r = found_from cs a b offset (a_node n) (follow cs f a b e h) p is in
    let begins : n.start ≤ offset = omega (arith, r.begins, r.row.0) in
    (byte_in_child cs f a b offset e h p ∙ ap (in_child offset) is, r.row.1, begins)

-- and without such a child no leaf has the byte
pub at_none : (cs : List Child) (f : RangedForest) (a b offset : ℕ) → children_of cs ≡ f → InRow a f b → a ≤ offset → find (ends_after offset) cs ≡ None → leaf_of_byte offset f ≡ None
at_none cs f a b offset e h p is = byte_in_child cs f a b offset e h p ∙ ap (in_child offset) is

-- a child that a search finds is smaller than all children
found_first : (x c : Child) (t : Bool) (r : Option Child) → cond t (Some x) r ≡ Some c → (x ≡ c) ⊎ (r ≡ Some c)
found_first x c true r e = let is : x ≡ c = cc in inl is
found_first x c false r e = inr e

found_smaller : (cs : List Child) (f : RangedForest) (p : Child → Bool) (n : RangedNode) → find p cs ≡ Some (a_node n) → forest_size n.children + 1 ≤ forest_size (with_children f cs)
found_smaller [] f p n e = absurd (cc)
found_smaller (x ∷ xs) f p n e = elim (found_first x (a_node n) (p x) (find p xs) e) [
  | inl is ↦
      let P : Child → Type 0 = λ d. forest_size n.children + 1 ≤ forest_size (with_children f (d ∷ xs)) in
      subst P (sym is) (omega (arith, size-with_children xs (with_child f (a_node n))))
  | inr same ↦ found_smaller xs (with_child f x) p n same
]

pub child_smaller : (cs : List Child) (f : RangedForest) (p : Child → Bool) (n : RangedNode) → children_of cs ≡ f → find p cs ≡ Some (a_node n) → forest_size n.children < forest_size f
child_smaller cs f p n e is = omega (arith, ap forest_size e, found_smaller cs ranged_none p n is)

-- what a binary search by their ends finds
found_at : (p : Child → Bool) (cs : List Child) (i : ℕ) (d : Child) → i < length cs → ((k : ℕ) → k < i → p (get_or cs k d) ≡ false) → p (get_or cs i d) ≡ true → find p cs ≡ Some (get_or cs i d)
found_at p [] i d h before at = absurd (omega arith)
found_at p (c ∷ cs) zero d h before at = ap (λ t. cond t (Some c) (find p cs)) at
found_at p (c ∷ cs) (suc i) d h before at =
    let less : i < length cs = omega arith in
    let first : 0 < suc i = omega arith in
    ap (λ t. cond t (Some c) (find p cs)) (before 0 first)
    ∙ found_at p cs i d less (λ k q. let r : suc k < suc i = omega arith in before (suc k) r) at

found_none : (p : Child → Bool) (cs : List Child) → ((k : ℕ) (d : Child) → k < length cs → p (get_or cs k d) ≡ false) → find p cs ≡ None
found_none p [] all = refl
found_none p (c ∷ cs) all =
    let first : 0 < length (c ∷ cs) = omega arith in
    ap (λ t. cond t (Some c) (find p cs)) (all 0 c first)
    ∙ found_none p cs (λ k d q. let r : suc k < length (c ∷ cs) = omega arith in all (suc k) d r)

abbrev pub EndsPart : List Child → ℕ → ℕ → Type 0
EndsPart cs offset i = IsPartitionPoint (λ c. leb (child_end c) offset ≡ true) (λ c. leb (child_end c) offset ≡ false) cs i

before_point : (cs : List Child) (offset i : ℕ) → EndsPart cs offset i → (k : ℕ) (d : Child) → k < i → ends_after offset (get_or cs k d) ≡ false
before_point cs offset i h k d q =
    let zero_le : 0 ≤ k = omega arith in
    le-ltb offset (child_end (get_or cs k d)) (leb-true (child_end (get_or cs k d)) offset (h.0 k d zero_le q))

pub ends_after_at : (cs : List Child) (offset i : ℕ) (d : Child) → EndsPart cs offset i → i < length cs → find (ends_after offset) cs ≡ Some (get_or cs i d)
ends_after_at cs offset i d h q =
    let same : i ≤ i = omega arith in
    found_at (ends_after offset) cs i d q (λ k r. before_point cs offset i h k d r)
    (lt-ltb offset (child_end (get_or cs i d)) (leb-false (child_end (get_or cs i d)) offset (h.1 i d same q)))

pub ends_after_none : (cs : List Child) (offset i : ℕ) → EndsPart cs offset i → length cs ≤ i → find (ends_after offset) cs ≡ None
ends_after_none cs offset i h q = found_none (ends_after offset) cs (λ k d r. let s : k < i = omega arith in before_point cs offset i h k d s)
