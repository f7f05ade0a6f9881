-- Messages with their places.
use Rattle.std.proofs.Common.{◌≡◌, ℕ, List, [], ◌∷◌, ◌++◌, Some, ap, sym, ◌∙◌, append_assoc, append-nil, map}
use Rattle.std.specs.List.{slice_get}
use Rattle.rap_lexed.specs.StrForest.{StrForest}
use Rattle.rap_ranged.specs.Elements.{leaf_element}
use Rattle.rap_ranged.specs.Leaves.{RangedLeaf, leaf_of_byte}
use Rattle.rap_ranged.specs.RangedForest.{RangedNode}
use Rattle.rap_ranged.specs.RangedMessages.{RangedMessage, ranged_at, ranged_message}
use Rattle.rap_ranged.specs.Reports.{ReportValue}
use Rattle.flat_tree.specs.ByteLeaf.{IsLeafAt}
use Rattle.flat_tree.specs.FlatTree.{elements_of_tree}
use Rattle.flat_tree.specs.declared.element.Element.{Element}
use Rattle.flat_tree.proofs.ByteLeaves.{there}

abbrev pub message : List ℕ → ℕ → ℕ → ℕ → RangedMessage
message text at start end = record { text = text; at = at; start = start; end = end }

-- a message at the leaf that was found
pub placed_at : (root : RangedNode) (es : List Element) (at index start end : ℕ) (r : ReportValue) (m : RangedMessage) → es ≡ elements_of_tree root → at ≡ r.at → IsLeafAt root at (Some index)
    → ((e : Element) → slice_get es index ≡ Some e → start ≡ e.start) → ((e : Element) → slice_get es index ≡ Some e → end ≡ e.end)
    → m ≡ message r.text r.at start end → m ≡ ranged_message root.children r
placed_at root es at index start end r m is there_at h starts ends same =
    let l : RangedLeaf = h.0 in
    let t = there root es index (leaf_element l) is h.2 in
    same
    ∙ (ap (λ n. message r.text r.at n end) (starts t.0 t.1 ∙ t.2)
    ∙ (ap (λ n. message r.text r.at l.start n) (ends t.0 t.1 ∙ t.3)
    ∙ ap (ranged_at r) (sym h.1 ∙ ap (λ n. leaf_of_byte n root.children) there_at)))

-- one message more
pub placed_more : (f : ReportValue → RangedMessage) (ms ns all : List RangedMessage) (x : ReportValue) (y : RangedMessage) (xs ys : List ReportValue)
    → ms ++ map f xs ≡ all → xs ≡ x ∷ ys → ns ≡ ms ++ y ∷ [] → y ≡ f x → ns ++ map f ys ≡ all
placed_more f ms ns all x y xs ys h first more is =
    ap (λ l. l ++ map f ys) more
    ∙ (append_assoc ms (y ∷ []) (map f ys)
    ∙ (ap (λ z. ms ++ z ∷ map f ys) is ∙ (ap (λ l. ms ++ map f l) (sym first) ∙ h)))

pub placed_all : (f : ReportValue → RangedMessage) (ms all : List RangedMessage) (xs : List ReportValue) → ms ++ map f xs ≡ all → xs ≡ [] → ms ≡ all
placed_all f ms all xs h none = sym (append-nil ms) ∙ (ap (λ l. ms ++ map f l) (sym none) ∙ h)
