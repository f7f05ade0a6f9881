-- The rule of a field finds as many children of a whole node as the field says: a part of the numbers of children is the
-- numbers of the same part of the children.
use Rattle.std.proofs.Common.{◌≡◌, ◌&&◌, ◌||◌, ◌+◌, ◌≤◌, arith, ℕ, Bool, true, false, List, [], ◌∷◌, length, map, if◌then◌else◌, refl, ap, sym, subst, ◌∙◌}
use Rattle.std.specs.List.{filter}
use Rattle.rap_events.proofs.Truth.{and_both, and_left, and_right}
use Rattle.rap_fields.specs.Field.{Fills, nodes_among}
use Rattle.rap_fields.specs.Finds.{is_of_tree}
use Rattle.rap_fields.specs.Place.{Cut, before_first, before_last, behind, behind_first, cut, has_mark, is_mark, node_mark, only_until, past, past_before, until, until_last, until_last_before, whole}
use Rattle.rap_grammar_table.specs.Counts.{one_if}
use Rattle.rap_grammar_table.specs.Known.{among, every_one}
use Rattle.rap_grammar_table.specs.Shapes.{Child, leaf_child, node_child, message_child, float_child}

-- Parts of numbers, and of what they name.
has_named : (f : ℕ → Child) (p : Child → Bool) (xs : List ℕ) → has_mark (λ x. p (f x)) xs ≡ has_mark p (map f xs)
has_named f p [] = refl
has_named f p (x ∷ xs) = ap (λ b. p (f x) || b) (has_named f p xs)

either_named : (f : ℕ → Child) (b : Bool) (us ws : List ℕ) (vs zs : List Child) → map f us ≡ vs → map f ws ≡ zs
    → map f (if b then us else ws) ≡ (if b then vs else zs)
either_named f true us ws vs zs e g = e
either_named f false us ws vs zs e g = g

first_named : (f : ℕ → Child) (p : Child → Bool) (xs : List ℕ)
    → map f (before_first (λ x. p (f x)) xs) ≡ before_first p (map f xs)
first_named f p [] = refl
first_named f p (x ∷ xs) =
    either_named f (p (f x)) [] (x ∷ before_first (λ y. p (f y)) xs) [] (f x ∷ before_first p (map f xs)) refl
    (ap (λ (l : List Child). f x ∷ l) (first_named f p xs))

behind_named : (f : ℕ → Child) (p : Child → Bool) (xs : List ℕ)
    → map f (behind_first (λ x. p (f x)) xs) ≡ behind_first p (map f xs)
behind_named f p [] = refl
behind_named f p (x ∷ xs) =
    either_named f (p (f x)) xs (behind_first (λ y. p (f y)) xs) (map f xs) (behind_first p (map f xs)) refl
    (behind_named f p xs)

last_named : (f : ℕ → Child) (p : Child → Bool) (xs : List ℕ)
    → map f (before_last (λ x. p (f x)) xs) ≡ before_last p (map f xs)
last_named f p [] = refl
last_named f p (x ∷ xs) =
    either_named f (has_mark (λ y. p (f y)) xs) (x ∷ before_last (λ y. p (f y)) xs) (if p (f x) then [] else x ∷ xs)
    (f x ∷ before_last p (map f xs)) (if p (f x) then [] else f x ∷ map f xs)
    (ap (λ (l : List Child). f x ∷ l) (last_named f p xs))
    (either_named f (p (f x)) [] (x ∷ xs) [] (f x ∷ map f xs) refl refl)
    ∙ ap (λ b. if b then f x ∷ before_last p (map f xs) else (if p (f x) then [] else f x ∷ map f xs))
    (has_named f p xs)

-- a part where a list has a mark, and else another one
chosen_named : (f : ℕ → Child) (p : Child → Bool) (zs us ws : List ℕ) (cs vs bs : List Child) → map f zs ≡ cs
    → map f us ≡ vs → map f ws ≡ bs
    → map f (if has_mark (λ x. p (f x)) zs then us else ws) ≡ (if has_mark p cs then vs else bs)
chosen_named f p zs us ws cs vs bs d e g =
    either_named f (has_mark (λ x. p (f x)) zs) us ws vs bs e g
    ∙ ap (λ b. if b then vs else bs) (has_named f p zs ∙ ap (λ (l : List Child). has_mark p l) d)

cut_named : (f : ℕ → Child) (c : Cut) (xs : List ℕ) → map f (cut f c xs) ≡ cut (λ d. d) c (map f xs)
cut_named f whole xs = refl
cut_named f (until m) xs = first_named f (is_mark m) xs
cut_named f (until_last m) xs = last_named f (is_mark m) xs
cut_named f (only_until m) xs =
    chosen_named f (is_mark m) xs (before_first (λ x. is_mark m (f x)) xs) [] (map f xs)
    (before_first (is_mark m) (map f xs)) [] refl (first_named f (is_mark m) xs) refl
cut_named f (behind m) xs = behind_named f (is_mark m) xs
cut_named f (past m) xs =
    chosen_named f (is_mark m) xs (behind_first (λ x. is_mark m (f x)) xs) xs (map f xs)
    (behind_first (is_mark m) (map f xs)) (map f xs) refl (behind_named f (is_mark m) xs) refl
cut_named f (until_last_before m n) xs =
    let zs = before_first (λ x. is_mark n (f x)) xs in
    let e = first_named f (is_mark n) xs in
    chosen_named f (is_mark m) zs (before_last (λ x. is_mark m (f x)) zs) xs (before_first (is_mark n) (map f xs))
    (before_last (is_mark m) (before_first (is_mark n) (map f xs))) (map f xs) e
    (last_named f (is_mark m) zs ∙ ap (λ (l : List Child). before_last (is_mark m) l) e) refl
cut_named f (past_before m n) xs =
    chosen_named f (is_mark m) (before_first (λ x. is_mark n (f x)) xs) (behind_first (λ x. is_mark m (f x)) xs) xs
    (before_first (is_mark n) (map f xs)) (behind_first (is_mark m) (map f xs)) (map f xs)
    (first_named f (is_mark n) xs) (behind_named f (is_mark m) xs) refl

-- What is so of each of some numbers is so of each of a part.
each_if : (t : ℕ → Bool) (b : Bool) (us vs : List ℕ) → every_one t us ≡ true → every_one t vs ≡ true
    → every_one t (if b then us else vs) ≡ true
each_if t true us vs e f = e
each_if t false us vs e f = f

each_first : (t p : ℕ → Bool) (xs : List ℕ) → every_one t xs ≡ true → every_one t (before_first p xs) ≡ true
each_first t p [] h = refl
each_first t p (x ∷ xs) h =
    each_if t (p x) [] (x ∷ before_first p xs) refl
    (and_both (t x) (every_one t (before_first p xs)) (and_left (t x) (every_one t xs) h)
    (each_first t p xs (and_right (t x) (every_one t xs) h)))

each_behind : (t p : ℕ → Bool) (xs : List ℕ) → every_one t xs ≡ true → every_one t (behind_first p xs) ≡ true
each_behind t p [] h = refl
each_behind t p (x ∷ xs) h =
    let r = and_right (t x) (every_one t xs) h in
    each_if t (p x) xs (behind_first p xs) r (each_behind t p xs r)

each_last : (t p : ℕ → Bool) (xs : List ℕ) → every_one t xs ≡ true → every_one t (before_last p xs) ≡ true
each_last t p [] h = refl
each_last t p (x ∷ xs) h =
    each_if t (has_mark p xs) (x ∷ before_last p xs) (if p x then [] else x ∷ xs)
    (and_both (t x) (every_one t (before_last p xs)) (and_left (t x) (every_one t xs) h)
    (each_last t p xs (and_right (t x) (every_one t xs) h)))
    (each_if t (p x) [] (x ∷ xs) refl h)

each_cut : (t : ℕ → Bool) (f : ℕ → Child) (c : Cut) (xs : List ℕ) → every_one t xs ≡ true
    → every_one t (cut f c xs) ≡ true
each_cut t f whole xs h = h
each_cut t f (until m) xs h = each_first t (λ x. is_mark m (f x)) xs h
each_cut t f (until_last m) xs h = each_last t (λ x. is_mark m (f x)) xs h
each_cut t f (only_until m) xs h =
    let p : ℕ → Bool = λ x. is_mark m (f x) in
    each_if t (has_mark p xs) (before_first p xs) [] (each_first t p xs h) refl
each_cut t f (behind m) xs h = each_behind t (λ x. is_mark m (f x)) xs h
each_cut t f (past m) xs h =
    let p : ℕ → Bool = λ x. is_mark m (f x) in
    each_if t (has_mark p xs) (behind_first p xs) xs (each_behind t p xs h) h
each_cut t f (until_last_before m n) xs h =
    let p : ℕ → Bool = λ x. is_mark m (f x) in
    let zs = before_first (λ x. is_mark n (f x)) xs in
    each_if t (has_mark p zs) (before_last p zs) xs (each_last t p zs (each_first t (λ x. is_mark n (f x)) xs h)) h
each_cut t f (past_before m n) xs h =
    let p : ℕ → Bool = λ x. is_mark m (f x) in
    each_if t (has_mark p (before_first (λ x. is_mark n (f x)) xs)) (behind_first p xs) xs (each_behind t p xs h) h

-- Nodes that are filtered are nodes that are counted.
one_more_if : (b : Bool) (x : ℕ) (xs : List ℕ) (n : ℕ) → length xs ≡ n
    → length (if b then x ∷ xs else xs) ≡ one_if b + n
one_more_if true x xs n e = omega (arith, e)
one_more_if false x xs n e = omega (arith, e)

more_nodes : (ks : List ℕ) (c : Child) (x : ℕ) (xs : List ℕ) (cs : List Child) → is_of_tree c ≡ true
    → length xs ≡ nodes_among ks cs
    → length (if is_mark (node_mark ks) c then x ∷ xs else xs) ≡ nodes_among ks (c ∷ cs)
more_nodes ks (leaf_child k) x xs cs t e = e
more_nodes ks (node_child k) x xs cs t e = one_more_if (among ks k) x xs (nodes_among ks cs) e
more_nodes ks message_child x xs cs t e = absurd cc
more_nodes ks float_child x xs cs t e = absurd cc

counted_nodes : (ks : List ℕ) (f : ℕ → Child) (xs : List ℕ) → every_one (λ x. is_of_tree (f x)) xs ≡ true
    → length (filter (λ x. is_mark (node_mark ks) (f x)) xs) ≡ nodes_among ks (map f xs)
counted_nodes ks f [] h = refl
counted_nodes ks f (x ∷ xs) h =
    more_nodes ks (f x) x (filter (λ y. is_mark (node_mark ks) (f y)) xs) (map f xs)
    (and_left (is_of_tree (f x)) (every_one (λ y. is_of_tree (f y)) xs) h)
    (counted_nodes ks f xs (and_right (is_of_tree (f x)) (every_one (λ y. is_of_tree (f y)) xs) h))

pub counted_part : (ks : List ℕ) (f : ℕ → Child) (c : Cut) (xs : List ℕ)
    → every_one (λ x. is_of_tree (f x)) xs ≡ true
    → length (filter (λ x. is_mark (node_mark ks) (f x)) (cut f c xs)) ≡ nodes_among ks (cut (λ d. d) c (map f xs))
counted_part ks f c xs h =
    counted_nodes ks f (cut f c xs) (each_cut (λ x. is_of_tree (f x)) f c xs h)
    ∙ ap (λ (l : List Child). nodes_among ks l) (cut_named f c xs)
