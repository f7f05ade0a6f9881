use Rattle.std.proofs.Common.{◌≡◌, ◌≤◌, ◌<◌, ◌++◌, ◌∷◌, List, ℕ, [], Bor, ap, sym, subst, ◌∙◌, refl, arith, length, get_or, drop, take, ◌-◌}
use Rattle.std.proofs.lemmas.List.{take_all}
use Rattle.rast.specs.Pending.{pending, child_lines, ArePlaced, AllPlaced}
use Rattle.rast.specs.RangedLines.{ranged_lines}
use Rattle.rast.proofs.Walks.{first-step, end-step, first-size, end-size, placed-snoc, placed-last, children_placed}
use Rattle.syntax_tree.specs.declared.node.Child.{Child}
use Rattle.rast.proofs.ranges.push_children.Goals as goal

-- a list that is not empty is its first item and the others
first-of : (xs : List Child) (c : Child) → 1 ≤ length xs → c ≡ get_or xs 0 c → xs ≡ c ∷ take (length xs - 1) (drop 1 xs)
first-of [] c h e = let no : ⊥ = omega (arith, h) in absurd no
first-of (x ∷ xs) c h e =
    let rest : take (length (x ∷ xs) - 1) xs ≡ xs = take_all (length (x ∷ xs) - 1) xs (omega arith) in
    ap (λ y. y ∷ xs) (sym e) ∙ ap (λ ys. c ∷ ys) (sym rest)

none-of : (xs : List Child) → length xs < 1 → xs ≡ []
none-of [] h = refl
none-of (x ∷ xs) h = let no : ⊥ = omega (arith, h) in absurd no

pub lists-init : goal.lists-init
lists-init c =
    let text : List ℕ = c.args.text.now in
    let old : List ℕ = c.args.lines.now in
    let P : List (Bor (List Child)) → Type 0 = λ l. AllPlaced text l in
    let one : c.push.new.self.items ≡ c.children.result ∷ [] = c.in_ok-push.ensures.items ∙ ap (λ l. l ++ c.children.result ∷ []) c.new-lists.ensures.items in
    record {
      lines = ap (λ l. old ++ pending text 1 l) one ∙ ap (λ g. old ++ ranged_lines text 1 g) c.children.ensures;
      placed = subst P (sym one) (children_placed text c.children.result.now c.args.root.now.children c.children.ensures c.requires, tt);
    }

pub lists-smaller-in_default-list : goal.lists-smaller-in_default-list
lists-smaller-in_default-list c = end-size c.pop.new.self.items c.lists.lists.items c.in-Some.list c.in-Some.ensures.items

pub lists-preserved-in_default-list : goal.lists-preserved-in_default-list
lists-preserved-in_default-list c =
    let text : List ℕ = c.args.text.now in
    let P : List (Bor (List Child)) → Type 0 = λ l. AllPlaced text l in
    record {
      lines = ap (λ l. c.lists.lines ++ l) (end-step text c.pop.new.self.items c.lists.lists.items c.in-Some.list c.in-Some.ensures.items (none-of c.in-Some.list.now c.in_default-list.len_below)) ∙ c.lists.invariant.lines;
      placed = (placed-last text c.pop.new.self.items c.in-Some.list (subst P c.in-Some.ensures.items c.lists.invariant.placed)).0;
    }

pub push_child-requires-clause-placed : goal.push_child-requires-clause-placed
push_child-requires-clause-placed c =
    let text : List ℕ = c.args.text.now in
    let P : List (Bor (List Child)) → Type 0 = λ l. AllPlaced text l in
    let Q : List Child → Type 0 = λ cs. ArePlaced text cs in
    let is : c.in-Some.list.now ≡ c.first-item.result ∷ take (length c.in-Some.list.now - 1) (drop 1 c.in-Some.list.now) = first-of c.in-Some.list.now c.first-item.result c.in-len1-up.len_at_least c.first-item.is in
    let here = placed-last text c.pop.new.self.items c.in-Some.list (subst P c.in-Some.ensures.items c.lists.invariant.placed) in
    (subst Q is here.1).0

pub push_child-requires-clause-all_placed : goal.push_child-requires-clause-all_placed
push_child-requires-clause-all_placed c =
    let text : List ℕ = c.args.text.now in
    let P : List (Bor (List Child)) → Type 0 = λ l. AllPlaced text l in
    let Q : List Child → Type 0 = λ cs. ArePlaced text cs in
    let is : c.in-Some.list.now ≡ c.first-item.result ∷ take (length c.in-Some.list.now - 1) (drop 1 c.in-Some.list.now) = first-of c.in-Some.list.now c.first-item.result c.in-len1-up.len_at_least c.first-item.is in
    let here = placed-last text c.pop.new.self.items c.in-Some.list (subst P c.in-Some.ensures.items c.lists.invariant.placed) in
    subst P (sym c.in_ok-push-2.ensures.items) (placed-snoc text c.pop.new.self.items _ here.0 (subst Q is here.1).1)

pub lists-smaller : goal.lists-smaller
lists-smaller c =
    let is : c.in-Some.list.now ≡ c.first-item.result ∷ take (length c.in-Some.list.now - 1) (drop 1 c.in-Some.list.now) = first-of c.in-Some.list.now c.first-item.result c.in-len1-up.len_at_least c.first-item.is in
    first-size c.pop.new.self.items c.lists.lists.items c.push-in-Some.new.self.items c.push_child.new.lists.items c.in-Some.list _ c.first-item.result c.in-Some.ensures.items is c.in_ok-push-2.ensures.items c.in_ok-push_child.ensures.smaller

pub lists-preserved : goal.lists-preserved
lists-preserved c =
    let text : List ℕ = c.args.text.now in
    let old : List ℕ = c.lists.lines in
    let is : c.in-Some.list.now ≡ c.first-item.result ∷ take (length c.in-Some.list.now - 1) (drop 1 c.in-Some.list.now) = first-of c.in-Some.list.now c.first-item.result c.in-len1-up.len_at_least c.first-item.is in
    let deep : c.len-depth.result ≡ length c.push-in-Some.new.self.items = omega (arith, c.len-depth.ensures, c.push-in-Some.new.self.ok.0) in
    record {
      lines = first-step text c.pop.new.self.items c.lists.lists.items c.push-in-Some.new.self.items c.push_child.new.lists.items c.in-Some.list _ c.first-item.result old c.push_child.new.lines c.in-Some.ensures.items is c.in_ok-push-2.ensures.items
          (c.in_ok-push_child.ensures.lines ∙ ap (λ d. old ++ (child_lines text d c.first-item.result ++ pending text 1 c.push-in-Some.new.self.items)) deep) ∙ c.lists.invariant.lines;
      placed = c.in_ok-push_child.ensures.placed;
    }
