-- The rule of a field finds what stands in the field's part of the children: a look is for what a cut leaves, and the
-- looks of each rule are those that its cut is made of.
use Rattle.std.proofs.Common.{◌≡◌, ◌&&◌, ◌≤◌, nat_lt, arith, ℕ, suc, Bool, true, false, List, [], ◌∷◌, ◌++◌, map, Option, Some, None, if◌then◌else◌, refl, ap, sym, subst, ◌∙◌, append_assoc}
use Rattle.std.proofs.lemmas.Bool.Decides.{nat_tests}
use Rattle.std.specs.List.{filter, last_or, slice_get}
use Rattle.rap_base.specs.TokenKind.{ERROR}
use Rattle.rap_events.proofs.Truth.{and_left, and_right}
use Rattle.rap_fields.specs.Field.{Fills}
use Rattle.rap_fields.specs.Finds.{AsMany, Finds, RulesFind, grows, is_of_tree, kind_of, last_fitting, nodes_there}
use Rattle.rap_fields.specs.Filled.{IsOne, first, later}
use Rattle.rap_fields.specs.Place.{Cut, FieldRow, Mark, before_first, before_last, behind, behind_first, cut, has_mark, is_mark, leaf_mark, node_mark, only_until, past, past_before, until, until_last, until_last_before, whole}
use Rattle.rap_fields.specs.PlacedRows.{placed}
use Rattle.rap_fields.specs.Rows.{fields}
use Rattle.rap_fields.specs.Rule.{Look, fits, fitting, found, look, one_of, stands, which_of}
use Rattle.rap_fields.specs.RuleOf.{rule_of}
use Rattle.rap_fields.specs.Rules.{rules_15, rules_16, rules_17, rules_18, rules_19, rules_20, rules_21, rules_22, rules_23, rules_24, rules_25, rules_26, rules_27, rules_28, rules_29, rules_30, rules_31, rules_32}
use Rattle.rap_fields.specs.declared.rule.Place.{Place}
use Rattle.rap_fields.specs.declared.rule.Place.TheVariants.{Anywhere, Before, OnlyBefore, After, Past}
use Rattle.rap_fields.specs.declared.rule.Which.{Which}
use Rattle.rap_fields.specs.declared.rule.Which.TheVariants.{First, Last, All}
use Rattle.rap_fields.proofs.Amounts.{counted_part}
use Rattle.rap_fields.proofs.Filled.{fields_filled}
use Rattle.rap_fields.proofs.Places.{placed_filled}
use Rattle.rap_fields.proofs.Splits.{behind_in, behind_none, by_bool, filter_marks, filter_out, first_mark, first_none, from_first, front_and_rest, if_false, if_true, last_mark, last_none}
use Rattle.rap_grammar_shapes.specs.Parts.{ShapeSays}
use Rattle.rap_grammar_table.specs.Counts.{IsAtMost}
use Rattle.rap_grammar_table.specs.Known.{among, every_one}
use Rattle.rap_grammar_table.specs.Shapes.{Child, leaf_child, node_child, message_child, float_child}
use Rattle.rap_grammar_table.proofs.Known.{every_so}

-- Elements of a list of which a test is true.
filter_same : (t p q : ℕ → Bool) (xs : List ℕ) → every_one t xs ≡ true → ((x : ℕ) → t x ≡ true → p x ≡ q x)
    → filter p xs ≡ filter q xs
filter_same t p q [] h f = refl
filter_same t p q (x ∷ xs) h f =
    ap (λ b. if b then x ∷ filter p xs else filter p xs) (f x (and_left (t x) (every_one t xs) h))
    ∙ ap (λ (l : List ℕ). if q x then x ∷ l else l) (filter_same t p q xs (and_right (t x) (every_one t xs) h) f)

filter_none : (t p : ℕ → Bool) (xs : List ℕ) → every_one t xs ≡ true → ((x : ℕ) → t x ≡ true → p x ≡ false)
    → filter p xs ≡ []
filter_none t p [] h f = refl
filter_none t p (x ∷ xs) h f =
    filter_out p x xs (f x (and_left (t x) (every_one t xs) h))
    ∙ filter_none t p xs (and_right (t x) (every_one t xs) h) f

every_at : (t : ℕ → Bool) (us : List ℕ) (y : ℕ) (vs : List ℕ) → every_one t (us ++ (y ∷ vs)) ≡ true → t y ≡ true
every_at t [] y vs h = and_left (t y) (every_one t vs) h
every_at t (u ∷ us) y vs h = every_at t us y vs (and_right (t u) (every_one t (us ++ (y ∷ vs))) h)

lt_self : (n : ℕ) → nat_lt n n ≡ false
lt_self n = by_bool (nat_lt n n) (λ e. absurd (never n e)) (λ e. e) where
  never : (n : ℕ) → nat_lt n n ≡ true → ⊥
  never n e = grind (arith, nat_tests, e)

lt_back : (n m : ℕ) → nat_lt n m ≡ true → nat_lt m n ≡ false
lt_back n m h = by_bool (nat_lt m n) (λ e. absurd (never n m h e)) (λ e. e) where
  never : (n m : ℕ) → nat_lt n m ≡ true → nat_lt m n ≡ true → ⊥
  never n m h e = grind (arith, nat_tests, h, e)

-- Of growing numbers those below one stand before it, and those above it behind.
kept_before : (q : ℕ → Bool) (y : ℕ) (us vs : List ℕ) → grows (us ++ (y ∷ vs)) ≡ true
    → filter (λ x. nat_lt x y && q x) (us ++ (y ∷ vs)) ≡ filter q us
kept_before q y [] vs h =
    filter_out (λ x. nat_lt x y && q x) y vs (ap (λ b. b && q y) (lt_self y))
    ∙ filter_none (nat_lt y) (λ x. nat_lt x y && q x) vs (and_left (every_one (nat_lt y) vs) (grows vs) h)
    (λ x l. ap (λ b. b && q x) (lt_back y x l))
kept_before q y (u ∷ us) vs h =
    let r = us ++ (y ∷ vs) in
    let p : ℕ → Bool = λ x. nat_lt x y && q x in
    let l : nat_lt u y ≡ true = every_at (nat_lt u) us y vs (and_left (every_one (nat_lt u) r) (grows r) h) in
    ap (λ b. if b && q u then u ∷ filter p r else filter p r) l
    ∙ ap (λ (l : List ℕ). if q u then u ∷ l else l)
    (kept_before q y us vs (and_right (every_one (nat_lt u) r) (grows r) h))

kept_behind : (q : ℕ → Bool) (y : ℕ) (us vs : List ℕ) → grows (us ++ (y ∷ vs)) ≡ true
    → filter (λ x. nat_lt y x && q x) (us ++ (y ∷ vs)) ≡ filter q vs
kept_behind q y [] vs h =
    filter_out (λ x. nat_lt y x && q x) y vs (ap (λ b. b && q y) (lt_self y))
    ∙ filter_same (nat_lt y) (λ x. nat_lt y x && q x) q vs (and_left (every_one (nat_lt y) vs) (grows vs) h)
    (λ x l. ap (λ b. b && q x) l)
kept_behind q y (u ∷ us) vs h =
    let r = us ++ (y ∷ vs) in
    let l : nat_lt u y ≡ true = every_at (nat_lt u) us y vs (and_left (every_one (nat_lt u) r) (grows r) h) in
    filter_out (λ x. nat_lt y x && q x) u r (ap (λ b. b && q u) (lt_back u y l))
    ∙ kept_behind q y us vs (and_right (every_one (nat_lt u) r) (grows r) h)

-- The children at a place, where the look before has found this one.
abbrev seen : Place → Option ℕ → (ℕ → Bool) → List ℕ → List ℕ
seen p o q xs = filter (λ x. stands p o x && q x) xs

seen_before : (q : ℕ → Bool) (y : ℕ) (us vs xs : List ℕ) → xs ≡ us ++ (y ∷ vs) → grows xs ≡ true
    → filter (λ x. nat_lt x y && q x) xs ≡ filter q us
seen_before q y us vs xs e g =
    ap (λ (l : List ℕ). filter (λ x. nat_lt x y && q x) l) e
    ∙ kept_before q y us vs (subst (λ (l : List ℕ). grows l ≡ true) e g)

seen_behind : (q : ℕ → Bool) (y : ℕ) (us vs xs : List ℕ) → xs ≡ us ++ (y ∷ vs) → grows xs ≡ true
    → filter (λ x. nat_lt y x && q x) xs ≡ filter q vs
seen_behind q y us vs xs e g =
    ap (λ (l : List ℕ). filter (λ x. nat_lt y x && q x) l) e
    ∙ kept_behind q y us vs (subst (λ (l : List ℕ). grows l ≡ true) e g)

-- Nothing is found, or the first mark.
no_first : (p : ℕ → Bool) (xs : List ℕ) → has_mark p xs ≡ false → slice_get (filter p xs) 0 ≡ None
no_first p xs h = ap (λ (l : List ℕ). slice_get l 0) (filter_marks p xs h)

no_last : (p : ℕ → Bool) (xs : List ℕ) → has_mark p xs ≡ false → last_or None (filter p xs) ≡ None
no_last p xs h = ap (λ (l : List ℕ). last_or None l) (filter_marks p xs h)

until_so : (p q : ℕ → Bool) (xs : List ℕ) → grows xs ≡ true
    → seen Before (slice_get (filter p xs) 0) q xs ≡ filter q (before_first p xs)
until_so p q xs g =
    by_bool (has_mark p xs)
    (λ e.
    let r = first_mark p xs e in
    ap (λ o. seen Before o q xs) r.first ∙ seen_before q r.one (before_first p xs) (behind_first p xs) xs r.all g)
    (λ e.
    ap (λ o. seen Before o q xs) (no_first p xs e) ∙ ap (λ (l : List ℕ). filter q l) (sym (first_none p xs e)))

until_last_so : (p q : ℕ → Bool) (xs : List ℕ) → grows xs ≡ true
    → seen Before (last_or None (filter p xs)) q xs ≡ filter q (before_last p xs)
until_last_so p q xs g =
    by_bool (has_mark p xs)
    (λ e.
    let r = last_mark p xs e in
    ap (λ o. seen Before o q xs) r.last ∙ seen_before q r.one (before_last p xs) r.rest xs r.all g)
    (λ e.
    ap (λ o. seen Before o q xs) (no_last p xs e) ∙ ap (λ (l : List ℕ). filter q l) (sym (last_none p xs e)))

nothing_seen : (q : ℕ → Bool) (xs : List ℕ) → filter (λ x. false && q x) xs ≡ []
nothing_seen q [] = refl
nothing_seen q (x ∷ xs) = nothing_seen q xs

only_until_so : (p q : ℕ → Bool) (xs : List ℕ) → grows xs ≡ true
    → seen OnlyBefore (slice_get (filter p xs) 0) q xs ≡ filter q (if has_mark p xs then before_first p xs else [])
only_until_so p q xs g =
    by_bool (has_mark p xs)
    (λ e.
    let r = first_mark p xs e in
    ap (λ o. seen OnlyBefore o q xs) r.first
    ∙ (seen_before q r.one (before_first p xs) (behind_first p xs) xs r.all g
    ∙ ap (λ (l : List ℕ). filter q l) (sym (if_true (has_mark p xs) (before_first p xs) [] e))))
    (λ e.
    ap (λ o. seen OnlyBefore o q xs) (no_first p xs e)
    ∙ (nothing_seen q xs ∙ ap (λ (l : List ℕ). filter q l) (sym (if_false (has_mark p xs) (before_first p xs) [] e))))

behind_so : (p q : ℕ → Bool) (xs : List ℕ) → grows xs ≡ true
    → seen After (slice_get (filter p xs) 0) q xs ≡ filter q (behind_first p xs)
behind_so p q xs g =
    by_bool (has_mark p xs)
    (λ e.
    let r = first_mark p xs e in
    ap (λ o. seen After o q xs) r.first ∙ seen_behind q r.one (before_first p xs) (behind_first p xs) xs r.all g)
    (λ e.
    ap (λ o. seen After o q xs) (no_first p xs e)
    ∙ (nothing_seen q xs ∙ ap (λ (l : List ℕ). filter q l) (sym (behind_none p xs e))))

past_so : (p q : ℕ → Bool) (xs : List ℕ) → grows xs ≡ true
    → seen Past (slice_get (filter p xs) 0) q xs ≡ filter q (if has_mark p xs then behind_first p xs else xs)
past_so p q xs g =
    by_bool (has_mark p xs)
    (λ e.
    let r = first_mark p xs e in
    ap (λ o. seen Past o q xs) r.first
    ∙ (seen_behind q r.one (before_first p xs) (behind_first p xs) xs r.all g
    ∙ ap (λ (l : List ℕ). filter q l) (sym (if_true (has_mark p xs) (behind_first p xs) xs e))))
    (λ e.
    ap (λ o. seen Past o q xs) (no_first p xs e)
    ∙ ap (λ (l : List ℕ). filter q l) (sym (if_false (has_mark p xs) (behind_first p xs) xs e)))

-- The same of a mark that is looked for before the first of other marks.
with_rest : (zs ws us : List ℕ) (y : ℕ) (vs xs : List ℕ) → xs ≡ zs ++ ws → zs ≡ us ++ (y ∷ vs)
    → xs ≡ us ++ (y ∷ (vs ++ ws))
with_rest zs ws us y vs xs e f = e ∙ (ap (λ (l : List ℕ). l ++ ws) f ∙ append_assoc us (y ∷ vs) ws)

until_last_before_so : (p n q : ℕ → Bool) (xs : List ℕ) → grows xs ≡ true
    → seen Before (last_or None (filter p (before_first n xs))) q xs
    ≡ filter q (if has_mark p (before_first n xs) then before_last p (before_first n xs) else xs)
until_last_before_so p n q xs g =
    let zs = before_first n xs in
    by_bool (has_mark p zs)
    (λ e.
    let r = last_mark p zs e in
    ap (λ o. seen Before o q xs) r.last
    ∙ (seen_before q r.one (before_last p zs) (r.rest ++ from_first n xs) xs
    (with_rest zs (from_first n xs) (before_last p zs) r.one r.rest xs (front_and_rest n xs) r.all) g
    ∙ ap (λ (l : List ℕ). filter q l) (sym (if_true (has_mark p zs) (before_last p zs) xs e))))
    (λ e.
    ap (λ o. seen Before o q xs) (no_last p zs e)
    ∙ ap (λ (l : List ℕ). filter q l) (sym (if_false (has_mark p zs) (before_last p zs) xs e)))

past_before_so : (p n q : ℕ → Bool) (xs : List ℕ) → grows xs ≡ true
    → seen Past (slice_get (filter p (before_first n xs)) 0) q xs
    ≡ filter q (if has_mark p (before_first n xs) then behind_first p xs else xs)
past_before_so p n q xs g =
    let zs = before_first n xs in
    let ws = from_first n xs in
    by_bool (has_mark p zs)
    (λ e.
    let r = first_mark p zs e in
    ap (λ o. seen Past o q xs) r.first
    ∙ (seen_behind q r.one (before_first p zs) (behind_first p zs ++ ws) xs
    (with_rest zs ws (before_first p zs) r.one (behind_first p zs) xs (front_and_rest n xs) r.all) g
    ∙ ap (λ (l : List ℕ). filter q l)
    (sym (behind_in p zs ws e) ∙ (ap (λ (l : List ℕ). behind_first p l) (sym (front_and_rest n xs))
    ∙ sym (if_true (has_mark p zs) (behind_first p xs) xs e)))))
    (λ e.
    ap (λ o. seen Past o q xs) (no_first p zs e)
    ∙ ap (λ (l : List ℕ). filter q l) (sym (if_false (has_mark p zs) (behind_first p xs) xs e)))

-- A child of some kinds is a mark of these kinds, where all of these are of tokens, or of nodes.
abbrev is_token_kind : ℕ → Bool
is_token_kind k = nat_lt k ERROR

abbrev is_node_kind : ℕ → Bool
is_node_kind k = nat_lt ERROR k

abbrev kinds_in : Mark → List ℕ
kinds_in (leaf_mark ks) = ks
kinds_in (node_mark ks) = ks

abbrev is_pure : Mark → Bool
is_pure (leaf_mark ks) = every_one is_token_kind ks
is_pure (node_mark ks) = every_one is_node_kind ks

not_both : (a b k : ℕ) → nat_lt k a ≡ true → nat_lt a (suc k) ≡ true → ⊥
not_both a b k h i = grind (arith, nat_tests, h, i)

not_over : (a k : ℕ) → nat_lt a k ≡ true → nat_lt k (suc a) ≡ true → ⊥
not_over a k h i = grind (arith, nat_tests, h, i)

same_mark : (m : Mark) (c : Child) → is_pure m ≡ true → is_of_tree c ≡ true → among (kinds_in m) (kind_of c) ≡ is_mark m c
same_mark (leaf_mark ks) (leaf_child k) h t = refl
same_mark (leaf_mark ks) (node_child k) h t =
    by_bool (among ks k) (λ e. absurd (not_both ERROR 0 k (every_so is_token_kind ks k h e) t)) (λ e. e)
same_mark (leaf_mark ks) message_child h t = absurd cc
same_mark (leaf_mark ks) float_child h t = absurd cc
same_mark (node_mark ks) (leaf_child k) h t =
    by_bool (among ks k) (λ e. absurd (not_over ERROR k (every_so is_node_kind ks k h e) t)) (λ e. e)
same_mark (node_mark ks) (node_child k) h t = refl
same_mark (node_mark ks) message_child h t = absurd cc
same_mark (node_mark ks) float_child h t = absurd cc

fit_as : (child : ℕ → Child) (m : Mark) (p : Place) (w : Which) (o : Option ℕ) (xs : List ℕ) → is_pure m ≡ true
    → every_one (λ x. is_of_tree (child x)) xs ≡ true
    → fitting (λ x. kind_of (child x)) o (look p w (kinds_in m)) xs ≡ seen p o (λ x. is_mark m (child x)) xs
fit_as child m p w o xs h t =
    filter_same (λ x. is_of_tree (child x)) (λ x. stands p o x && among (kinds_in m) (kind_of (child x)))
    (λ x. stands p o x && is_mark m (child x)) xs t
    (λ x s. ap (λ b. stands p o x && b) (same_mark m (child x) h s))

-- The looks that find what is in the part of a cut.
abbrev looks : Cut → Which → List ℕ → List Look
looks whole w ks = look Anywhere w ks ∷ []
looks (until m) w ks = look Anywhere First (kinds_in m) ∷ look Before w ks ∷ []
looks (until_last m) w ks = look Anywhere Last (kinds_in m) ∷ look Before w ks ∷ []
looks (only_until m) w ks = look Anywhere First (kinds_in m) ∷ look OnlyBefore w ks ∷ []
looks (behind m) w ks = look Anywhere First (kinds_in m) ∷ look After w ks ∷ []
looks (past m) w ks = look Anywhere First (kinds_in m) ∷ look Past w ks ∷ []
looks (until_last_before m n) w ks =
    look Anywhere First (kinds_in n) ∷ look Before Last (kinds_in m) ∷ look Before w ks ∷ []
looks (past_before m n) w ks =
    look Anywhere First (kinds_in n) ∷ look Before First (kinds_in m) ∷ look Past w ks ∷ []

abbrev is_pure_cut : Cut → Bool
is_pure_cut whole = true
is_pure_cut (until m) = is_pure m
is_pure_cut (until_last m) = is_pure m
is_pure_cut (only_until m) = is_pure m
is_pure_cut (behind m) = is_pure m
is_pure_cut (past m) = is_pure m
is_pure_cut (until_last_before m n) = is_pure m && is_pure n
is_pure_cut (past_before m n) = is_pure m && is_pure n

-- two looks, and three
two_so : (child : ℕ → Child) (m : Mark) (v : Which) (p : Place) (w : Which) (ks xs : List ℕ) → is_pure m ≡ true
    → every_one is_node_kind ks ≡ true → every_one (λ x. is_of_tree (child x)) xs ≡ true
    → last_fitting (λ x. kind_of (child x)) None (look Anywhere v (kinds_in m) ∷ look p w ks ∷ []) xs
    ≡ seen p (one_of v (filter (λ x. is_mark m (child x)) xs)) (λ x. is_mark (node_mark ks) (child x)) xs
two_so child m v p w ks xs h i t =
    ap (λ (l : List ℕ). fitting (λ x. kind_of (child x)) (one_of v l) (look p w ks) xs)
    (fit_as child m Anywhere v None xs h t)
    ∙ fit_as child (node_mark ks) p w (one_of v (filter (λ x. is_mark m (child x)) xs)) xs i t

three_so : (child : ℕ → Child) (m n : Mark) (v : Which) (p : Place) (w : Which) (ks xs : List ℕ)
    → (is_pure m && is_pure n) ≡ true → every_one is_node_kind ks ≡ true
    → every_one (λ x. is_of_tree (child x)) xs ≡ true → grows xs ≡ true
    → last_fitting (λ x. kind_of (child x)) None
    (look Anywhere First (kinds_in n) ∷ look Before v (kinds_in m) ∷ look p w ks ∷ []) xs
    ≡ seen p (one_of v (filter (λ x. is_mark m (child x)) (before_first (λ x. is_mark n (child x)) xs)))
    (λ x. is_mark (node_mark ks) (child x)) xs
three_so child m n v p w ks xs h i t g =
    let k : ℕ → ℕ = λ x. kind_of (child x) in
    let a : ℕ → Bool = λ x. is_mark m (child x) in
    let b : ℕ → Bool = λ x. is_mark n (child x) in
    let f = fit_as child n Anywhere First None xs (and_right (is_pure m) (is_pure n) h) t in
    let s = fit_as child m Before v (slice_get (filter b xs) 0) xs (and_left (is_pure m) (is_pure n) h) t in
    ap (λ (l : List ℕ). fitting k (one_of v (fitting k (slice_get l 0) (look Before v (kinds_in m)) xs)) (look p w ks) xs) f
    ∙ (ap (λ (l : List ℕ). fitting k (one_of v l) (look p w ks) xs) (s ∙ until_so b a xs g)
    ∙ fit_as child (node_mark ks) p w (one_of v (filter a (before_first b xs))) xs i t)

looks_fit : (child : ℕ → Child) (c : Cut) (w : Which) (ks xs : List ℕ) → is_pure_cut c ≡ true
    → every_one is_node_kind ks ≡ true → grows xs ≡ true → every_one (λ x. is_of_tree (child x)) xs ≡ true
    → last_fitting (λ x. kind_of (child x)) None (looks c w ks) xs
    ≡ filter (λ x. is_mark (node_mark ks) (child x)) (cut child c xs)
looks_fit child whole w ks xs h i g t = fit_as child (node_mark ks) Anywhere w None xs i t
looks_fit child (until m) w ks xs h i g t =
    two_so child m First Before w ks xs h i t
    ∙ until_so (λ x. is_mark m (child x)) (λ x. is_mark (node_mark ks) (child x)) xs g
looks_fit child (until_last m) w ks xs h i g t =
    two_so child m Last Before w ks xs h i t
    ∙ until_last_so (λ x. is_mark m (child x)) (λ x. is_mark (node_mark ks) (child x)) xs g
looks_fit child (only_until m) w ks xs h i g t =
    two_so child m First OnlyBefore w ks xs h i t
    ∙ only_until_so (λ x. is_mark m (child x)) (λ x. is_mark (node_mark ks) (child x)) xs g
looks_fit child (behind m) w ks xs h i g t =
    two_so child m First After w ks xs h i t
    ∙ behind_so (λ x. is_mark m (child x)) (λ x. is_mark (node_mark ks) (child x)) xs g
looks_fit child (past m) w ks xs h i g t =
    two_so child m First Past w ks xs h i t
    ∙ past_so (λ x. is_mark m (child x)) (λ x. is_mark (node_mark ks) (child x)) xs g
looks_fit child (until_last_before m n) w ks xs h i g t =
    three_so child m n Last Before w ks xs h i t g
    ∙ until_last_before_so (λ x. is_mark m (child x)) (λ x. is_mark n (child x))
    (λ x. is_mark (node_mark ks) (child x)) xs g
looks_fit child (past_before m n) w ks xs h i g t =
    three_so child m n First Past w ks xs h i t g
    ∙ past_before_so (λ x. is_mark m (child x)) (λ x. is_mark n (child x)) (λ x. is_mark (node_mark ks) (child x)) xs g

-- What is found is the one of these.
looks_find : (kind : ℕ → ℕ) (c : Cut) (w : Which) (ks xs : List ℕ)
    → found kind None (looks c w ks) xs ≡ one_of w (last_fitting kind None (looks c w ks) xs)
looks_find kind whole w ks xs = refl
looks_find kind (until m) w ks xs = refl
looks_find kind (until_last m) w ks xs = refl
looks_find kind (only_until m) w ks xs = refl
looks_find kind (behind m) w ks xs = refl
looks_find kind (past m) w ks xs = refl
looks_find kind (until_last_before m n) w ks xs = refl
looks_find kind (past_before m n) w ks xs = refl

abbrev looks_of : FieldRow → List Look
looks_of r = looks r.cut r.which r.field.kinds

-- The rules of the rows of fields, and the looks that these are to be.
abbrev rules_of : ℕ → List FieldRow → List (List Look)
rules_of kind [] = []
rules_of kind (r ∷ rs) = rule_of kind r.number ∷ rules_of kind rs

abbrev looks_of_all : List FieldRow → List (List Look)
looks_of_all [] = []
looks_of_all (r ∷ rs) = looks_of r ∷ looks_of_all rs

abbrev each_rules : List (ℕ × List FieldRow) → List (List (List Look))
each_rules [] = []
each_rules (row ∷ rows) = rules_of row.0 row.1 ∷ each_rules rows

abbrev each_looks : List (ℕ × List FieldRow) → List (List (List Look))
each_looks [] = []
each_looks (row ∷ rows) = looks_of_all row.1 ∷ each_looks rows

-- what is computed of each row
abbrev is_pure_row : FieldRow → Bool
is_pure_row r = is_pure_cut r.cut && every_one is_node_kind r.field.kinds

abbrev is_whole : Cut → Bool
is_whole whole = true
is_whole (until m) = false
is_whole (until_last m) = false
is_whole (only_until m) = false
is_whole (behind m) = false
is_whole (past m) = false
is_whole (until_last_before m n) = false
is_whole (past_before m n) = false

abbrev all_hold : (FieldRow → Bool) → List FieldRow → Bool
all_hold t [] = true
all_hold t (r ∷ rs) = t r && all_hold t rs

abbrev each_holds : (FieldRow → Bool) → List (ℕ × List FieldRow) → Bool
each_holds t [] = true
each_holds t (row ∷ rows) = all_hold t row.1 && each_holds t rows

fields_same : each_rules fields ≡ each_looks fields
unfolding rules_15 rules_16 rules_17 rules_18 rules_19 rules_20 rules_21 rules_22 rules_23 rules_24 rules_25 rules_26 rules_27 rules_28 rules_29 rules_30 rules_31 rules_32
fields_same = refl

placed_same : each_rules placed ≡ each_looks placed
unfolding rules_15 rules_16 rules_17 rules_18 rules_19 rules_20 rules_21 rules_22 rules_23 rules_24 rules_25 rules_26 rules_27 rules_28 rules_29 rules_30 rules_31 rules_32
placed_same = refl

fields_pure : each_holds is_pure_row fields ≡ true
fields_pure = refl

placed_pure : each_holds is_pure_row placed ≡ true
placed_pure = refl

fields_whole : each_holds (λ r. is_whole r.cut) fields ≡ true
fields_whole = refl

abbrev head_or : {A : Type 0} → A → List A → A
head_or d [] = d
head_or d (x ∷ xs) = x

abbrev tail_of : {A : Type 0} → List A → List A
tail_of [] = []
tail_of (x ∷ xs) = xs

one_rule : (kind : ℕ) (rs : List FieldRow) (r : FieldRow) → rules_of kind rs ≡ looks_of_all rs → IsOne r rs
    → rule_of kind r.number ≡ looks_of r
one_rule kind [] r e i = elim i [ ]
one_rule kind (s ∷ rs) r e first = ap (λ (l : List (List Look)). head_or [] l) e
one_rule kind (s ∷ rs) r e (later i) = one_rule kind rs r (ap (λ (l : List (List Look)). tail_of l) e) i

row_rules : (rows : List (ℕ × List FieldRow)) (kind : ℕ) (rs : List FieldRow) → each_rules rows ≡ each_looks rows
    → IsOne (kind, rs) rows → rules_of kind rs ≡ looks_of_all rs
row_rules [] kind rs e i = elim i [ ]
row_rules (row ∷ rows) kind rs e first = ap (λ (l : List (List (List Look))). head_or [] l) e
row_rules (row ∷ rows) kind rs e (later i) =
    row_rules rows kind rs (ap (λ (l : List (List (List Look))). tail_of l) e) i

one_holds : (t : FieldRow → Bool) (rs : List FieldRow) (r : FieldRow) → all_hold t rs ≡ true → IsOne r rs → t r ≡ true
one_holds t [] r h i = elim i [ ]
one_holds t (s ∷ rs) r h first = and_left (t r) (all_hold t rs) h
one_holds t (s ∷ rs) r h (later i) = one_holds t rs r (and_right (t s) (all_hold t rs) h) i

row_holds : (t : FieldRow → Bool) (rows : List (ℕ × List FieldRow)) (kind : ℕ) (rs : List FieldRow)
    → each_holds t rows ≡ true → IsOne (kind, rs) rows → all_hold t rs ≡ true
row_holds t [] kind rs h i = elim i [ ]
row_holds t (row ∷ rows) kind rs h first = and_left (all_hold t rs) (each_holds t rows) h
row_holds t (row ∷ rows) kind rs h (later i) =
    row_holds t rows kind rs (and_right (all_hold t row.1) (each_holds t rows) h) i

-- The fields that are found by kinds alone are in the whole part.
abbrev AreFilled : List (ℕ × List FieldRow) → Type 0
AreFilled rows =
    (kind : ℕ) (rs : List FieldRow) (r : FieldRow) → IsOne (kind, rs) rows → IsOne r rs →
    ShapeSays kind (λ cs. Fills r.field (cut (λ c. c) r.cut cs))

whole_part : (c : Cut) (cs : List Child) → is_whole c ≡ true → cut (λ d. d) c cs ≡ cs
whole_part whole cs h = refl
whole_part (until m) cs h = absurd cc
whole_part (until_last m) cs h = absurd cc
whole_part (only_until m) cs h = absurd cc
whole_part (behind m) cs h = absurd cc
whole_part (past m) cs h = absurd cc
whole_part (until_last_before m n) cs h = absurd cc
whole_part (past_before m n) cs h = absurd cc

in_whole_parts : AreFilled fields
in_whole_parts kind rs r i j cs s =
    subst (λ (l : List Child). Fills r.field l)
    (sym
    (whole_part r.cut cs
    (one_holds (λ r. is_whole r.cut) rs r (row_holds (λ r. is_whole r.cut) fields kind rs fields_whole i) j)))
    (fields_filled kind rs r i j cs s)

as_many_there : (r : FieldRow) (child : ℕ → Child) (xs : List ℕ) → every_one (λ x. is_of_tree (child x)) xs ≡ true
    → Fills r.field (cut (λ c. c) r.cut (map child xs)) → AsMany r.field (nodes_there r child xs)
as_many_there r child xs t f =
    let e = counted_part r.field.kinds child r.cut xs t in
    record {
      at_least = subst (λ (n : ℕ). r.field.fewest ≤ n) (sym e) f.at_least;
      at_most = subst (λ (n : ℕ). IsAtMost n r.field.most) (sym e) f.at_most;
    }

rules_find : (rows : List (ℕ × List FieldRow)) → each_rules rows ≡ each_looks rows
    → each_holds is_pure_row rows ≡ true → AreFilled rows → RulesFind rows
rules_find rows e p fill kind rs r i j child xs g t =
    let h = one_holds is_pure_row rs r (row_holds is_pure_row rows kind rs p i) j in
    let f =
    looks_fit child r.cut r.which r.field.kinds xs
    (and_left (is_pure_cut r.cut) (every_one is_node_kind r.field.kinds) h)
    (and_right (is_pure_cut r.cut) (every_one is_node_kind r.field.kinds) h) g t in
    subst (λ (ls : List Look). Finds kind r ls child xs) (sym (one_rule kind rs r (row_rules rows kind rs e i) j))
    (record {
      fit = f;
      finds =
          looks_find (λ x. kind_of (child x)) r.cut r.which r.field.kinds xs
          ∙ ap (λ (l : List ℕ). one_of r.which l) f;
      as_many = λ s. as_many_there r child xs t (fill kind rs r i j (map child xs) s);
    })

pub fields_found : RulesFind fields
fields_found = rules_find fields fields_same fields_pure in_whole_parts

pub placed_found : RulesFind placed
placed_found = rules_find placed placed_same placed_pure placed_filled
