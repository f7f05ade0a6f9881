-- Lists of children as trees in a row.
use Rattle.std.proofs.Common.{◌≡◌, List, [], ◌∷◌, ◌++◌, length, refl, ap, ◌∙◌, arith}
use Rattle.syntax_tree.specs.Children.{with_child, with_children, children_of}
use Rattle.syntax_tree.specs.RangedForest.{RangedForest, ranged_none}
use Rattle.syntax_tree.specs.declared.node.Child.{Child}

-- one list of children after another
pub with_children-append : (cs ds : List Child) (f : RangedForest) → with_children f (cs ++ ds) ≡ with_children (with_children f cs) ds
with_children-append [] ds f = refl
with_children-append (c ∷ cs) ds f = with_children-append cs ds (with_child f c)

-- one child more
pub children-snoc : (cs ds : List Child) (c : Child) → ds ≡ cs ++ c ∷ [] → children_of ds ≡ with_child (children_of cs) c
children-snoc cs ds c e = ap children_of e ∙ with_children-append cs (c ∷ []) ranged_none

-- no child
pub children-none : (cs : List Child) → length cs ≡ 0 → children_of cs ≡ ranged_none
children-none [] e = refl
children-none (c ∷ cs) e = absurd (omega (arith, e))
