-- The caller's room, filled.
use Rattle.std.specs.Prelude.{ℕ, zero, suc, ◌+◌, List, [], ◌∷◌, length, slice_set}
use Rattle.rap_c.specs.Item.{Item, row, width_of, said_by, counted}
use Rattle.rap_c.specs.declared.step.RapStep.{RapStep}

-- Room with these in it, from its start and as many as fit. What is after them does not change.
abbrev pub overwritten : {A : Type 0} → List A → List A → List A
overwritten [] new = []
overwritten (x ∷ xs) [] = x ∷ xs
overwritten (x ∷ xs) (y ∷ ys) = y ∷ overwritten xs ys

-- the same from a place on
abbrev pub write_at : {A : Type 0} → List A → ℕ → List A → List A
write_at old zero new = overwritten old new
write_at [] (suc i) new = []
write_at (x ∷ xs) (suc i) new = x ∷ write_at xs i new

-- The room for steps and for the bytes of messages, how many there were of each, and the place after the items
-- so far.
pub record Filling : Type 0 where
  pub steps : List RapStep
  pub messages : List ℕ
  pub count : ℕ
  pub said : ℕ
  pub place : ℕ

-- one more item
abbrev pub after : Filling → Item → Filling
after f x = record {
  steps = slice_set f.steps f.count (row f.place f.said x);
  messages = write_at f.messages f.said (said_by x);
  count = counted (f.count + 1);
  said = counted (f.said + length (said_by x));
  place = counted (f.place + width_of x);
}

-- more items, one after another
abbrev pub after_all : Filling → List Item → Filling
after_all f [] = f
after_all f (x ∷ xs) = after_all (after f x) xs
