-- What a builder holds.
use Rattle.std.proofs.Common.{◌≡◌, ℕ, ◌+◌, ◌-◌, ◌≤◌, List, [], ◌∷◌, ◌++◌, length, take, drop, reverse, refl, ap, ◌∙◌, arith}
use Rattle.std.proofs.lemmas.List.{length-append, take-append-le, drop-append-le, take_all, drop_all, reverse-append}
use Rattle.syntax_tree.specs.Building.{Frames, Building, within, rest_of, newest_of, frames_of}
use Rattle.syntax_tree.specs.Children.{with_child, children_of}
use Rattle.syntax_tree.specs.RangedForest.{RangedForest, ranged_none}
use Rattle.syntax_tree.specs.declared.builder.Open.{Open}
use Rattle.syntax_tree.specs.declared.node.Child.{Child}
use Rattle.syntax_tree.proofs.ChildLists.{children-snoc}

-- the newest of the open nodes first
pub newest_first : (os ps : List Open) (o : Open) → ps ≡ os ++ o ∷ [] → reverse ps ≡ o ∷ reverse os
newest_first os ps o e = ap reverse e ∙ reverse-append os (o ∷ [])

-- a node begins
pub frames-enter : (os : List Open) (o : Open) (cs : List Child) → frames_of (o ∷ os) 0 cs ≡ within (frames_of os o.before cs) (newest_of os o.before cs) o.kind o.start
frames-enter os o cs =
    let all : length cs ≤ length cs - 0 = omega arith in
    ap (λ r. within (frames_of os o.before r) (newest_of os o.before r) o.kind o.start) (take_all (length cs - 0) cs all)

pub newest-enter : (os : List Open) (o : Open) (cs : List Child) → newest_of (o ∷ os) 0 cs ≡ ranged_none
newest-enter os o cs =
    let all : length cs ≤ length cs - 0 = omega arith in
    ap children_of (drop_all (length cs - 0) cs all)

-- one child more
same_before : (n : ℕ) (cs : List Child) (c : Child) → length (cs ++ c ∷ []) - (n + 1) ≡ length cs - n
same_before n cs c = omega (arith, length-append cs (c ∷ []))

rest-push : (n : ℕ) (cs : List Child) (c : Child) → rest_of (n + 1) (cs ++ c ∷ []) ≡ rest_of n cs
rest-push n cs c =
    let within_cs : length cs - n ≤ length cs = omega arith in
    ap (λ k. take k (cs ++ c ∷ [])) (same_before n cs c) ∙ take-append-le (length cs - n) cs (c ∷ []) within_cs

frames-with : (os : List Open) (n : ℕ) (cs : List Child) (c : Child) → frames_of os (n + 1) (cs ++ c ∷ []) ≡ frames_of os n cs
frames-with [] n cs c = refl
frames-with (o ∷ os) n cs c = ap (λ r. within (frames_of os o.before r) (newest_of os o.before r) o.kind o.start) (rest-push n cs c)

newest-with : (os : List Open) (n : ℕ) (cs : List Child) (c : Child) → newest_of os (n + 1) (cs ++ c ∷ []) ≡ with_child (newest_of os n cs) c
newest-with [] n cs c = children-snoc cs (cs ++ c ∷ []) c refl
newest-with (o ∷ os) n cs c =
    let within_cs : length cs - n ≤ length cs = omega arith in
    ap (λ k. children_of (drop k (cs ++ c ∷ []))) (same_before n cs c)
    ∙ children-snoc (drop (length cs - n) cs) (drop (length cs - n) (cs ++ c ∷ [])) c (drop-append-le (length cs - n) cs (c ∷ []) within_cs)

pub frames-push : (os : List Open) (n m : ℕ) (cs ds : List Child) (c : Child) → m ≡ n + 1 → ds ≡ cs ++ c ∷ [] → frames_of os m ds ≡ frames_of os n cs
frames-push os n m cs ds c one more = ap (λ k. frames_of os k ds) one ∙ ap (λ l. frames_of os (n + 1) l) more ∙ frames-with os n cs c

pub newest-push : (os : List Open) (n m : ℕ) (cs ds : List Child) (c : Child) → m ≡ n + 1 → ds ≡ cs ++ c ∷ [] → newest_of os m ds ≡ with_child (newest_of os n cs) c
newest-push os n m cs ds c one more = ap (λ k. newest_of os k ds) one ∙ ap (λ l. newest_of os (n + 1) l) more ∙ newest-with os n cs c

-- the same frames, forest and end
pub same_building : (frames frames' : Frames) (f f' : RangedForest) (at at' : ℕ) → frames ≡ frames' → f ≡ f' → at ≡ at'
    → let b : Building = record { frames = frames; forest = f; at = at } in let b' : Building = record { frames = frames'; forest = f'; at = at' } in b ≡ b'
same_building frames frames' f f' at at' p q r = cc
