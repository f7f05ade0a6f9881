-- The places of leaves and of nodes.
use Rattle.std.proofs.Common.{ℕ, List, [], ◌∷◌, ◌++◌, inl, inr, subst}
use Rattle.syntax_tree.specs.InRange.{StandsIn}
use Rattle.syntax_tree.specs.Leaves.{RangedLeaf, leaves_of}
use Rattle.syntax_tree.specs.Places.{IsPlace, HavePlaces}
use Rattle.syntax_tree.specs.RangedForest.{RangedForest, RangedNode, ranged_none, ranged_node, ranged_leaf}

-- each leaf stands at a place
abbrev pub ArePlaced : List ℕ → List RangedLeaf → Type 0
ArePlaced text [] = Unit {0}
ArePlaced text (l ∷ ls) = IsPlace text l.start l.end × ArePlaced text ls

both_placed : (text : List ℕ) (ls ms : List RangedLeaf) → ArePlaced text ls → ArePlaced text ms → ArePlaced text (ls ++ ms)
both_placed text [] ms h i = i
both_placed text (l ∷ ls) ms h i = (h.0, both_placed text ls ms h.1 i)

pub leaves_placed : (text : List ℕ) (f : RangedForest) → HavePlaces text f → ArePlaced text (leaves_of f)
leaves_placed text ranged_none h = tt
leaves_placed text (ranged_node before kind start end children) h =
    both_placed text (leaves_of before) (leaves_of children) (leaves_placed text before h.0) (leaves_placed text children h.2)
leaves_placed text (ranged_leaf before kind start end) h =
    both_placed text (leaves_of before) (record { kind = kind; start = start; end = end } ∷ []) (leaves_placed text before h.0) (h.1, tt)

-- a node of a forest, at its top or further inside
pub node_placed : (text : List ℕ) (f : RangedForest) (n : RangedNode) → HavePlaces text f → StandsIn n f → IsPlace text n.start n.end × HavePlaces text n.children
node_placed text ranged_none n h s = absurd s
node_placed text (ranged_node before kind start end children) n h s = elim s [
  | inl b ↦ node_placed text before n h.0 b
  | inr r ↦ elim r [
    | inl e ↦
        let P : RangedNode → Type 0 = λ m. IsPlace text m.start m.end × HavePlaces text m.children in
        subst P e (h.1, h.2)
    | inr c ↦ node_placed text children n h.2 c
  ]
]
node_placed text (ranged_leaf before kind start end) n h s = node_placed text before n h.0 s
