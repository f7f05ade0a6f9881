-- Forests whose places follow one another, and the leaf that has a byte.
use Rattle.std.proofs.Common.{◌≡◌, ℕ, ◌<◌, ◌≤◌, [], ◌∷◌, Some, None, refl, ap, ◌∙◌, arith, inl, inr}
use Rattle.std.specs.List.{find}
use Rattle.std.specs.Option.{option_or}
use Rattle.std.proofs.lemmas.Bool.{cases_lt, lt-ltb, le-ltb, le-leb}
use Rattle.std.proofs.lemmas.List.Folds.{find-append}
use Rattle.rap_ranged.specs.InRow.{InRow}
use Rattle.rap_ranged.specs.Leaves.{RangedLeaf, leaves_of, has_byte, leaf_of_byte}
use Rattle.rap_ranged.specs.RangedForest.{RangedForest, ranged_none, ranged_node, ranged_leaf}

pub rises : (f : RangedForest) (a b : ℕ) → InRow a f b → a ≤ b
rises ranged_none a b h = omega (arith, h)
rises (ranged_node before kind start end children) a b h = omega (arith, rises before a start h.0, rises children start end h.1, h.2)
rises (ranged_leaf before kind start end) a b h = omega (arith, rises before a start h.0, h.1, h.2)

-- a byte after the end of a forest is in none of its leaves
pub byte_after : (f : RangedForest) (a b offset : ℕ) → InRow a f b → b ≤ offset → leaf_of_byte offset f ≡ None
byte_after ranged_none a b offset h p = refl
byte_after (ranged_node before kind start end children) a b offset h p =
    let q : end ≤ offset = omega (arith, h.2) in
    let r : start ≤ offset = omega (arith, rises children start end h.1) in
    let first = byte_after before a start offset h.0 r in
    let second = byte_after children start end offset h.1 q in
    find-append (has_byte offset) (leaves_of before) (leaves_of children)
    ∙ ap (λ o. option_or o (leaf_of_byte offset children)) first ∙ second
byte_after (ranged_leaf before kind start end) a b offset h p =
    let q : end ≤ offset = omega (arith, h.2) in
    let r : start ≤ offset = omega (arith, h.1) in
    let leaf : RangedLeaf = record { kind = kind; start = start; end = end } in
    let first = byte_after before a start offset h.0 r in
    let second : find (has_byte offset) (leaf ∷ []) ≡ None = rw (le-leb start offset r, le-ltb offset end q) refl in
    find-append (has_byte offset) (leaves_of before) (leaf ∷ [])
    ∙ ap (λ o. option_or o (find (has_byte offset) (leaf ∷ []))) first ∙ second

-- a byte in the range of a forest is in one of its leaves
pub byte_inside : (f : RangedForest) (a b offset : ℕ) → InRow a f b → a ≤ offset → offset < b → (l : RangedLeaf) × (leaf_of_byte offset f ≡ Some l)
byte_inside ranged_none a b offset h p q = absurd (omega (arith, h))
byte_inside (ranged_node before kind start end children) a b offset h p q = elim (cases_lt offset start) [
  | inl r ↦
      let first = byte_inside before a start offset h.0 p r in (
        first.0,
        find-append (has_byte offset) (leaves_of before) (leaves_of children)
            ∙ ap (λ o. option_or o (leaf_of_byte offset children)) first.1,
      )
  | inr r ↦
      let s : offset < end = omega (arith, h.2) in
      let second = byte_inside children start end offset h.1 r s in (
        second.0,
        find-append (has_byte offset) (leaves_of before) (leaves_of children)
            ∙ ap (λ o. option_or o (leaf_of_byte offset children)) (byte_after before a start offset h.0 r) ∙ second.1,
      )
]
byte_inside (ranged_leaf before kind start end) a b offset h p q =
    let leaf : RangedLeaf = record { kind = kind; start = start; end = end } in
    elim (cases_lt offset start) [
      | inl r ↦
          let first = byte_inside before a start offset h.0 p r in (
            first.0,
            find-append (has_byte offset) (leaves_of before) (leaf ∷ [])
                ∙ ap (λ o. option_or o (find (has_byte offset) (leaf ∷ []))) first.1,
          )
      | inr r ↦
          let s : offset < end = omega (arith, h.2) in
          let second : find (has_byte offset) (leaf ∷ []) ≡ Some leaf = rw (le-leb start offset r, lt-ltb offset end s) refl in (
            leaf,
            find-append (has_byte offset) (leaves_of before) (leaf ∷ [])
                ∙ ap (λ o. option_or o (find (has_byte offset) (leaf ∷ []))) (byte_after before a start offset h.0 r) ∙ second,
          )
    ]
