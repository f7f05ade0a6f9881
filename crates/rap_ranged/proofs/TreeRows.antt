-- A tree's places follow one another.
use Rattle.std.proofs.Common.{◌≡◌, ℕ, ◌+◌, ◌≤◌, ◌↔◌, List, ◌++◌, Option, Some, None, length, length-append, add-zero, subst, sym, ◌∙◌, arith, inl, inr}
use Rattle.rap_lexed.specs.StrForest.{StrForest, str_none, str_node, str_leaf, str_message, str_joined}
use Rattle.std.proofs.lemmas.Bool.{cases_lt}
use Rattle.rap_ranged.specs.InRow.{InRow}
use Rattle.rap_ranged.specs.Leaves.{RangedLeaf, leaf_of_byte}
use Rattle.rap_ranged.specs.Ranged.{Ranged, end_from, ranged}
use Rattle.rap_ranged.specs.RangedForest.{RangedForest, RangedNode}
use Rattle.rap_ranged.proofs.InRowLemmas.{byte_after, byte_inside}

end_of_both : (at : ℕ) (xs ys : List ℕ) → (at + length xs) + length ys ≡ at + length (xs ++ ys)
end_of_both at xs ys = omega (arith, length-append xs ys)

pub ranged_row : (f : StrForest) (at : ℕ) → InRow at (ranged at f) (end_from at f)
ranged_row str_none at = sym (add-zero at)
ranged_row (str_node before kind children) at =
    (ranged_row before at, ranged_row children (end_from at before), end_of_both at (str_joined before) (str_joined children))
ranged_row (str_leaf before kind text) at =
    let rising : end_from at before ≤ end_from at before + length text = omega arith in
    (ranged_row before at, rising, end_of_both at (str_joined before) text)
ranged_row (str_message before bytes pos) at = ranged_row before at

-- what stands in the root of a tree with the places of a text
pub root_row : (f : StrForest) (n : RangedNode) → Ranged f n → InRow n.start n.children n.end × (n.start ≡ 0)
root_row f n e =
    let P : RangedForest → Type 0 = λ g. InRow 0 g (end_from 0 f) in
    let h = subst P (sym e) (ranged_row f 0) in
    (h.1, sym h.0)

-- exactly the bytes at the end and after it are in no leaf
pub none_from_end : (f : StrForest) (n : RangedNode) (offset : ℕ) (r : Option RangedLeaf) → Ranged f n → r ≡ leaf_of_byte offset n.children → (r ≡ None) ↔ (n.end ≤ offset)
none_from_end f n offset r e is =
    let row = root_row f n e in
    let start : n.start ≤ offset = omega (arith, row.1) in (
      λ none. elim (cases_lt offset n.end) [
        | inl q ↦
            let some = byte_inside n.children n.start n.end offset row.0 start q in
            let clash : Some some.0 ≡ None = sym some.1 ∙ (sym is ∙ none) in
            absurd (cc)
        | inr q ↦ q
      ],
      λ q. is ∙ byte_after n.children n.start n.end offset row.0 q,
    )
