-- The leaves of a node are those of the tree that lie in its range.
use Rattle.std.proofs.Common.{◌≡◌, ℕ, ◌≤◌, Bool, false, cond, ◌&&◌, List, [], ◌∷◌, ◌++◌, filter, refl, ap, subst, sym, ◌∙◌, append-nil, arith, inl, inr, nat_le, nat_lt}
use Rattle.std.proofs.lemmas.Bool.Decides.{nat_tests}
use Rattle.std.proofs.lemmas.List.Elements.{filter-append}
use Rattle.syntax_tree.specs.InRange.{StandsIn, has_text, lies_in, HasLeavesInRange}
use Rattle.syntax_tree.specs.InRow.{InRow}
use Rattle.syntax_tree.specs.Leaves.{RangedLeaf, leaves_of}
use Rattle.syntax_tree.specs.Ranged.{end_from}
use Rattle.syntax_tree.specs.RangedForest.{RangedForest, RangedNode, ranged_none, ranged_node, ranged_leaf, alone}
use Rattle.rap_ranged.proofs.InRowLemmas.{rises}
use Rattle.rap_ranged.proofs.TreeRows.{ranged_row}

leaf_inside : (s e a b : ℕ) → s ≤ a → b ≤ e → ((nat_le s a && nat_le b e) && nat_lt a b) ≡ nat_lt a b
leaf_inside s e a b p q = grind (arith, nat_tests)

leaf_before : (s e a b : ℕ) → b ≤ s → ((nat_le s a && nat_le b e) && nat_lt a b) ≡ false
leaf_before s e a b p = grind (arith, nat_tests)

leaf_after : (s e a b : ℕ) → e ≤ a → ((nat_le s a && nat_le b e) && nat_lt a b) ≡ false
leaf_after s e a b p = grind (arith, nat_tests)

-- a filter of two lists joined
both : (p : RangedLeaf → Bool) (xs ys us vs : List RangedLeaf) → filter p xs ≡ us → filter p ys ≡ vs → filter p (xs ++ ys) ≡ us ++ vs
both p xs ys us vs d e = filter-append p xs ys ∙ ap (λ l. l ++ filter p ys) d ∙ ap (λ l. us ++ l) e

one : (p : RangedLeaf → Bool) (x : RangedLeaf) (t : Bool) → p x ≡ t → filter p (x ∷ []) ≡ cond t (x ∷ []) []
one p x t e = ap (λ u. cond u (x ∷ []) []) e

all_inside : (f : RangedForest) (a b s e : ℕ) → InRow a f b → s ≤ a → b ≤ e → filter (lies_in s e) (leaves_of f) ≡ filter has_text (leaves_of f)
all_inside ranged_none a b s e h p q = refl
all_inside (ranged_node before kind start end children) a b s e h p q =
    let low : s ≤ start = omega (arith, rises before a start h.0) in
    let high : end ≤ e = omega (arith, h.2) in
    let mid : start ≤ e = omega (arith, rises children start end h.1) in
    both (lies_in s e) (leaves_of before) (leaves_of children) (filter has_text (leaves_of before)) (filter has_text (leaves_of children))
    (all_inside before a start s e h.0 p mid) (all_inside children start end s e h.1 low high)
    ∙ sym (filter-append has_text (leaves_of before) (leaves_of children))
all_inside (ranged_leaf before kind start end) a b s e h p q =
    let leaf : RangedLeaf = record { kind = kind; start = start; end = end } in
    let low : s ≤ start = omega (arith, rises before a start h.0) in
    let high : end ≤ e = omega (arith, h.2) in
    let mid : start ≤ e = omega (arith, h.1) in
    both (lies_in s e) (leaves_of before) (leaf ∷ []) (filter has_text (leaves_of before)) (filter has_text (leaf ∷ []))
    (all_inside before a start s e h.0 p mid) (one (lies_in s e) leaf (has_text leaf) (leaf_inside s e start end low high))
    ∙ sym (filter-append has_text (leaves_of before) (leaf ∷ []))

none_before : (f : RangedForest) (a b s e : ℕ) → InRow a f b → b ≤ s → filter (lies_in s e) (leaves_of f) ≡ []
none_before ranged_none a b s e h p = refl
none_before (ranged_node before kind start end children) a b s e h p =
    let high : end ≤ s = omega (arith, h.2) in
    let mid : start ≤ s = omega (arith, rises children start end h.1) in
    both (lies_in s e) (leaves_of before) (leaves_of children) [] [] (none_before before a start s e h.0 mid) (none_before children start end s e h.1 high)
none_before (ranged_leaf before kind start end) a b s e h p =
    let leaf : RangedLeaf = record { kind = kind; start = start; end = end } in
    let high : end ≤ s = omega (arith, h.2) in
    let mid : start ≤ s = omega (arith, h.1) in
    both (lies_in s e) (leaves_of before) (leaf ∷ []) [] [] (none_before before a start s e h.0 mid) (one (lies_in s e) leaf false (leaf_before s e start end high))

none_after : (f : RangedForest) (a b s e : ℕ) → InRow a f b → e ≤ a → filter (lies_in s e) (leaves_of f) ≡ []
none_after ranged_none a b s e h p = refl
none_after (ranged_node before kind start end children) a b s e h p =
    let low : e ≤ start = omega (arith, rises before a start h.0) in
    both (lies_in s e) (leaves_of before) (leaves_of children) [] [] (none_after before a start s e h.0 p) (none_after children start end s e h.1 low)
none_after (ranged_leaf before kind start end) a b s e h p =
    let leaf : RangedLeaf = record { kind = kind; start = start; end = end } in
    let low : e ≤ start = omega (arith, rises before a start h.0) in
    both (lies_in s e) (leaves_of before) (leaf ∷ []) [] [] (none_after before a start s e h.0 p) (one (lies_in s e) leaf false (leaf_after s e start end low))

-- the range of a node, and the leaves of the forest in it
pub record Stands (n : RangedNode) (a b : ℕ) (all : List RangedLeaf) : Type 0 where
  pub low : a ≤ n.start
  pub high : n.end ≤ b
  pub leaves : filter (lies_in n.start n.end) all ≡ filter has_text (leaves_of n.children)

stands : (f : RangedForest) (a b : ℕ) (n : RangedNode) → InRow a f b → StandsIn n f → Stands n a b (leaves_of f)
stands ranged_none a b n h i = absurd i
stands (ranged_node before kind start end children) a b n h (inl i) =
    let r = stands before a start n h.0 i in record {
      low = r.low;
      high = omega (arith, r.high, rises children start end h.1, h.2);
      leaves =
          both (lies_in n.start n.end) (leaves_of before) (leaves_of children) (filter has_text (leaves_of n.children)) []
          r.leaves (none_after children start end n.start n.end h.1 r.high)
          ∙ append-nil (filter has_text (leaves_of n.children));
    }
stands (ranged_node before kind start end children) a b n h (inr (inl is)) =
    let m : RangedNode = record { kind = kind; start = start; end = end; children = children } in
    let P : RangedNode → Type 0 = λ k. Stands k a b (leaves_of before ++ leaves_of children) in
    let same_start : start ≤ start = omega arith in
    let same_end : end ≤ end = omega arith in
    let here : Stands m a b (leaves_of before ++ leaves_of children) = record {
      low = rises before a start h.0;
      high = omega (arith, h.2);
      leaves =
          both (lies_in start end) (leaves_of before) (leaves_of children) [] (filter has_text (leaves_of children))
          (none_before before a start start end h.0 same_start) (all_inside children start end start end h.1 same_start same_end);
    } in
    subst P is here
stands (ranged_node before kind start end children) a b n h (inr (inr i)) =
    let r = stands children start end n h.1 i in record {
      low = omega (arith, r.low, rises before a start h.0);
      high = omega (arith, r.high, h.2);
      leaves =
          both (lies_in n.start n.end) (leaves_of before) (leaves_of children) [] (filter has_text (leaves_of n.children))
          (none_before before a start n.start n.end h.0 r.low) r.leaves;
    }
stands (ranged_leaf before kind start end) a b n h i =
    let leaf : RangedLeaf = record { kind = kind; start = start; end = end } in
    let r = stands before a start n h.0 i in record {
      low = r.low;
      high = omega (arith, r.high, h.1, h.2);
      leaves =
          both (lies_in n.start n.end) (leaves_of before) (leaf ∷ []) (filter has_text (leaves_of n.children)) []
          r.leaves (one (lies_in n.start n.end) leaf false (leaf_after n.start n.end start end r.high))
          ∙ append-nil (filter has_text (leaves_of n.children));
    }

pub leaves_in_range : HasLeavesInRange
leaves_in_range f root n e i =
    let P : RangedForest → Type 0 = λ g. InRow 0 g (end_from 0 f) in
    (stands (alone root) 0 (end_from 0 f) n (subst P (sym e) (ranged_row f 0)) i).leaves
