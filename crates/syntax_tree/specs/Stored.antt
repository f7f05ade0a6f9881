-- Nodes as lists of numbers, by which the prover distinguishes them.
-- (Used in contracts between internal functions only; no public contract rests on it.)
use Rattle.std.specs.Prelude.{◌≡◌, ℕ, zero, suc, List, [], ◌∷◌, ◌++◌, refl}
use Rattle.std.specs.Coded.{Coded, code_by, coded×, coded_ℕ, coded_list}
use Rattle.std.proofs.Common.{◌∙◌, ap, sym, append_assoc, append-nil}
use Rattle.syntax_tree.specs.Elements.{RangedElement, node_element, leaf_element}
use Rattle.syntax_tree.specs.RangedForest.{RangedForest, RangedNode, ranged_none, ranged_node, ranged_leaf}

-- a leaf, and where a node begins and ends
pub data Mark : Type 0 where
  leaf_mark : ℕ → ℕ → ℕ → Mark
  begin_mark : Mark
  end_mark : ℕ → ℕ → ℕ → Mark

abbrev pub marks : RangedForest → List Mark
marks ranged_none = []
marks (ranged_node before kind start end children) =
    marks before ++ begin_mark ∷ (marks children ++ end_mark kind start end ∷ [])
marks (ranged_leaf before kind start end) = marks before ++ leaf_mark kind start end ∷ []

-- the forests before the open nodes, the newest on top
pub data Begun : Type 0 where
  nothing : Begun
  inside : Begun → RangedForest → Begun

-- the forest that marks make after this one
abbrev pub read : List Mark → Begun → RangedForest → RangedForest
read [] begun f = f
read (leaf_mark kind start end ∷ ms) begun f = read ms begun (ranged_leaf f kind start end)
read (begin_mark ∷ ms) begun f = read ms (inside begun f) ranged_none
read (end_mark kind start end ∷ ms) nothing f = read ms nothing f
read (end_mark kind start end ∷ ms) (inside begun before) f = read ms begun (ranged_node before kind start end f)

pub read-marks : (f : RangedForest) (ms : List Mark) (begun : Begun) → read (marks f ++ ms) begun ranged_none ≡ read ms begun f
read-marks ranged_none ms begun = refl
read-marks (ranged_node before kind start end children) ms begun =
    let regroup : marks (ranged_node before kind start end children) ++ ms ≡ marks before ++ (begin_mark ∷ (marks children ++ end_mark kind start end ∷ ms)) = simp append_assoc in
    rw regroup
    (read-marks before (begin_mark ∷ (marks children ++ end_mark kind start end ∷ ms)) begun
    ∙ read-marks children (end_mark kind start end ∷ ms) (inside begun before))
read-marks (ranged_leaf before kind start end) ms begun =
    rw append_assoc (read-marks before (leaf_mark kind start end ∷ ms) begun)

abbrev pub read_whole : List Mark → RangedForest
read_whole ms = read ms nothing ranged_none

pub read_whole-marks : (f : RangedForest) → read_whole (marks f) ≡ f
read_whole-marks f = ap read_whole (sym (append-nil (marks f))) ∙ read-marks f [] nothing

-- a mark by a number and three more
abbrev pub parts_of : Mark → ℕ × (ℕ × (ℕ × ℕ))
parts_of (leaf_mark kind start end) = (0, (kind, (start, end)))
parts_of begin_mark = (1, (0, (0, 0)))
parts_of (end_mark kind start end) = (2, (kind, (start, end)))

abbrev pub mark_by : ℕ → ℕ → ℕ → ℕ → Mark
mark_by zero kind start end = leaf_mark kind start end
mark_by (suc zero) kind start end = begin_mark
mark_by (suc (suc n)) kind start end = end_mark kind start end

abbrev pub mark_of : ℕ × (ℕ × (ℕ × ℕ)) → Mark
mark_of p = mark_by p.0 p.1.0 p.1.1.0 p.1.1.1

pub mark_of-parts_of : (m : Mark) → mark_of (parts_of m) ≡ m
mark_of-parts_of (leaf_mark kind start end) = refl
mark_of-parts_of begin_mark = refl
mark_of-parts_of (end_mark kind start end) = refl

abbrev pub mark_code : Coded Mark
mark_code = code_by (ℕ × (ℕ × (ℕ × ℕ))) (coded× coded_ℕ (coded× coded_ℕ (coded× coded_ℕ coded_ℕ))) parts_of mark_of mark_of-parts_of

-- a forest is stored as its marks
abbrev pub forest_code : Coded RangedForest
forest_code = code_by (List Mark) (coded_list mark_code) marks read_whole read_whole-marks

-- a node is stored as its kind, its place and the marks of what stands in it
abbrev pub node_code : Coded RangedNode
node_code =
    code_by (ℕ × (ℕ × (ℕ × RangedForest))) (coded× coded_ℕ (coded× coded_ℕ (coded× coded_ℕ forest_code)))
    (λ n. (n.kind, (n.start, (n.end, n.children))))
    (λ p. record { kind = p.0; start = p.1.0; end = p.1.1.0; children = p.1.1.1 })
    (λ _. refl)

-- a node or a leaf is stored as a number that says which, and a node
abbrev pub element_parts : RangedElement → ℕ × RangedNode
element_parts (node_element n) = (0, n)
element_parts (leaf_element l) = (1, record { kind = l.kind; start = l.start; end = l.end; children = ranged_none })

abbrev pub element_by : ℕ → RangedNode → RangedElement
element_by zero n = node_element n
element_by (suc i) n = leaf_element (record { kind = n.kind; start = n.start; end = n.end })

abbrev pub element_with : ℕ × RangedNode → RangedElement
element_with p = element_by p.0 p.1

pub element_with-parts : (e : RangedElement) → element_with (element_parts e) ≡ e
element_with-parts (node_element n) = refl
element_with-parts (leaf_element l) = refl

abbrev pub element_code : Coded RangedElement
element_code = code_by (ℕ × RangedNode) (coded× coded_ℕ node_code) element_parts element_with element_with-parts

abbrev pub elements_code : Coded (List RangedElement)
elements_code = coded_list element_code

abbrev pub nodes_code : Coded (List RangedNode)
nodes_code = coded_list node_code
