-- Steps of a walk along a row.
use Rattle.std.proofs.Common.{◌≡◌, ℕ, true, false, List, [], ◌∷◌, ◌++◌, Option, Some, None, refl, sym, ap, subst}
use Rattle.rap_events.specs.Forest.{Forest, none, node, leaf, message, split, ◌⧺◌}
use Rattle.rap_events.specs.Record.{Record}
use Rattle.rap_grammar_rows.specs.Claims.{IsNode, LastIsNode, Fits, joined, closed, ends_in_node, Rest, Good, plug, Folded}
use Rattle.rap_grammar_rows.specs.declared.shape.Shape.{Shape}
use Rattle.rap_grammar_rows.specs.declared.shape.Shape.TheVariants.{Empty, OneNode, EndsInNode, Any}
use Rattle.rap_grammar_scripts.specs.Test.{Test, holds}
use Rattle.rap_grammar_table.specs.Rows.{grammar}
use Rattle.rap_grammar_table.specs.Known.{Place, Sees}
use Rattle.rap_grammar_table.specs.Table.{Piece, Items, nil, begin, close, piece, choice, repeat, turns_of, group, folds, unless, appended, Derives, one, rest_of, ended, begun, closed as node_closed, put, first_way, second_way, repeated, grouped, folded, guarded}

-- shapes
pub none_before : (u : Forest) → none ⧺ u ≡ u
none_before none = refl
none_before (node a k c) = ap (λ (z : Forest). node z k c) (none_before a)
none_before (leaf a k w) = ap (λ (z : Forest). leaf z k w) (none_before a)
none_before (message a b) = ap (λ (z : Forest). message z b) (none_before a)
none_before (split a b) = ap (λ (z : Forest). split z b) (none_before a)

one_behind : (x u : Forest) → IsNode u → LastIsNode (x ⧺ u)
one_behind x u h = (x, h.0, h.1, ap (λ (w : Forest). x ⧺ w) h.2)

last_behind : (x u : Forest) → LastIsNode u → LastIsNode (x ⧺ u)
last_behind x u h = (x ⧺ h.0, h.1, h.2, ap (λ (w : Forest). x ⧺ w) h.3)

pub joined_fits : (s t : Shape) (x u : Forest) → Fits s x → Fits t u → Fits (joined s t) (x ⧺ u)
joined_fits s Empty x u h g = subst (λ (w : Forest). Fits s (x ⧺ w)) (sym g) h
joined_fits s Any x u h g = tt
joined_fits Empty OneNode x u h g =
    subst (λ (w : Forest). IsNode (w ⧺ u)) (sym h) (subst IsNode (sym (none_before u)) g)
joined_fits OneNode OneNode x u h g = one_behind x u g
joined_fits EndsInNode OneNode x u h g = one_behind x u g
joined_fits Any OneNode x u h g = one_behind x u g
joined_fits s EndsInNode x u h g = last_behind x u g

pub closed_fits : (s : Shape) (z x : Forest) (k : ℕ) → Fits s z → Fits (closed s) (node z k x)
closed_fits Empty z x k h = (k, x, ap (λ (w : Forest). node w k x) h)
closed_fits OneNode z x k h = (z, k, x, refl)
closed_fits EndsInNode z x k h = (z, k, x, refl)
closed_fits Any z x k h = (z, k, x, refl)

-- parts
pub ended_good : (s : Shape) → Good nil s [] [] s
ended_good s x [] h hs = record { tree = x; derives = ended; fits = h }
ended_good s x (y ∷ ys) h hs = absurd hs

pub begin_good : (k : Option Items) (is : Items) (s : Shape) (ss : List Shape) (ks : List Record) (o : Shape) →
    Good (plug is k) Empty (s ∷ ss) ks o → Good (plug (begin is) k) s ss ks o
begin_good None is s ss ks o g x xs h hs =
    let m : Rest is none (x ∷ xs) ks o = g none (x ∷ xs) refl (h, hs) in
    record { tree = m.tree; derives = begun m.derives; fits = m.fits }
begin_good (Some b) is s ss ks o g x xs h hs =
    let m : Rest (appended is b) none (x ∷ xs) ks o = g none (x ∷ xs) refl (h, hs) in
    record { tree = m.tree; derives = begun m.derives; fits = m.fits }

pub close_good : (k : Option Items) (j : ℕ) (is : Items) (s z : Shape) (ss : List Shape) (ks : List Record) (o : Shape) →
    Good (plug is k) (closed z) ss ks o → Good (plug (close j is) k) s (z ∷ ss) ks o
close_good k j is s z ss ks o g x [] h hs = absurd hs
close_good None j is s z ss ks o g x (y ∷ ys) h hs =
    let m : Rest is (node y j x) ys ks o = g (node y j x) ys (closed_fits z y x j hs.0) hs.1 in
    record { tree = m.tree; derives = node_closed m.derives; fits = m.fits }
close_good (Some b) j is s z ss ks o g x (y ∷ ys) h hs =
    let m : Rest (appended is b) (node y j x) ys ks o = g (node y j x) ys (closed_fits z y x j hs.0) hs.1 in
    record { tree = m.tree; derives = node_closed m.derives; fits = m.fits }

pub piece_good : (k : Option Items) (p : Piece) (is : Items) (s t : Shape) (ss : List Shape) (js ks : List Record)
    (u : Forest) (o : Shape) → Derives grammar (one p) js u →
    Fits t u → Good (plug is k) (joined s t) ss ks o → Good (plug (piece p is) k) s ss (js ++ ks) o
piece_good None p is s t ss js ks u o d f g x xs h hs =
    let m : Rest is (x ⧺ u) xs ks o = g (x ⧺ u) xs (joined_fits s t x u h f) hs in
    record { tree = m.tree; derives = put d m.derives; fits = m.fits }
piece_good (Some b) p is s t ss js ks u o d f g x xs h hs =
    let m : Rest (appended is b) (x ⧺ u) xs ks o = g (x ⧺ u) xs (joined_fits s t x u h f) hs in
    record { tree = m.tree; derives = put d m.derives; fits = m.fits }

pub first_good : (k : Option Items) (a b is : Items) (s : Shape) (ss : List Shape) (ks : List Record) (o : Shape) →
    Good (plug a (Some (plug is k))) s ss ks o → Good (plug (choice a b is) k) s ss ks o
first_good None a b is s ss ks o g x xs h hs =
    let m : Rest (appended a is) x xs ks o = g x xs h hs in
    record { tree = m.tree; derives = first_way m.derives; fits = m.fits }
first_good (Some c) a b is s ss ks o g x xs h hs =
    let m : Rest (appended a (appended is c)) x xs ks o = g x xs h hs in
    record { tree = m.tree; derives = first_way m.derives; fits = m.fits }

pub second_good : (k : Option Items) (a b is : Items) (s : Shape) (ss : List Shape) (ks : List Record) (o : Shape) →
    Good (plug b (Some (plug is k))) s ss ks o → Good (plug (choice a b is) k) s ss ks o
second_good None a b is s ss ks o g x xs h hs =
    let m : Rest (appended b is) x xs ks o = g x xs h hs in
    record { tree = m.tree; derives = second_way m.derives; fits = m.fits }
second_good (Some c) a b is s ss ks o g x xs h hs =
    let m : Rest (appended b (appended is c)) x xs ks o = g x xs h hs in
    record { tree = m.tree; derives = second_way m.derives; fits = m.fits }

pub group_good : (k : Option Items) (a is : Items) (s t : Shape) (ss : List Shape) (js ks : List Record) (o : Shape) →
    Good a Empty [] js t → Good (plug is k) (joined s t) ss ks o → Good (plug (group a is) k) s ss (js ++ ks) o
group_good None a is s t ss js ks o f g x xs h hs =
    let i : Rest a none [] js t = f none [] refl tt in
    let m : Rest is (x ⧺ i.tree) xs ks o = g (x ⧺ i.tree) xs (joined_fits s t x i.tree h i.fits) hs in
    record { tree = m.tree; derives = grouped i.derives m.derives; fits = m.fits }
group_good (Some b) a is s t ss js ks o f g x xs h hs =
    let i : Rest a none [] js t = f none [] refl tt in
    let m : Rest (appended is b) (x ⧺ i.tree) xs ks o = g (x ⧺ i.tree) xs (joined_fits s t x i.tree h i.fits) hs in
    record { tree = m.tree; derives = grouped i.derives m.derives; fits = m.fits }

pub repeat_good : (k : Option Items) (a z is : Items) (s : Shape) (ss : List Shape) (js ks : List Record) (u : Forest)
    (o : Shape) → Derives grammar (rest_of (turns_of a z) none []) js u →
    Good (plug is k) Any ss ks o → Good (plug (repeat a z is) k) s ss (js ++ ks) o
repeat_good None a z is s ss js ks u o d g x xs h hs =
    let m : Rest is (x ⧺ u) xs ks o = g (x ⧺ u) xs tt hs in
    record { tree = m.tree; derives = repeated d m.derives; fits = m.fits }
repeat_good (Some b) a z is s ss js ks u o d g x xs h hs =
    let m : Rest (appended is b) (x ⧺ u) xs ks o = g (x ⧺ u) xs tt hs in
    record { tree = m.tree; derives = repeated d m.derives; fits = m.fits }

pub guard_good : (k : Option Items) (t : Test) (w : List (List Place)) (is : Items) (s : Shape) (ss : List Shape)
    (ks : List Record) (o : Shape) → ((l : List Record) → Sees w l → holds t (ks ++ l) ≡ false) →
    Good (plug is k) s ss ks o → Good (plug (unless t w is) k) s ss ks o
guard_good None t w is s ss ks o f g x xs h hs =
    let m : Rest is x xs ks o = g x xs h hs in
    record { tree = m.tree; derives = guarded f m.derives; fits = m.fits }
guard_good (Some b) t w is s ss ks o f g x xs h hs =
    let m : Rest (appended is b) x xs ks o = g x xs h hs in
    record { tree = m.tree; derives = guarded f m.derives; fits = m.fits }

-- nodes around the last one of a forest
fold_rest : (k : Option Items) (n : ℕ) (ws is : Items) (js ks : List Record) (z c : Forest) (j : ℕ) (xs : List Forest)
    (o : Shape) (f : Folded n ws js j c) → Rest (plug is k) (z ⧺ f.tree) xs ks o →
    Rest (plug (folds n ws is) k) (node z j c) xs (js ++ ks) o
fold_rest None n ws is js ks z c j xs o f m =
    record { tree = m.tree; derives = folded f.derives m.derives; fits = m.fits }
fold_rest (Some b) n ws is js ks z c j xs o f m =
    record { tree = m.tree; derives = folded f.derives m.derives; fits = m.fits }

pub fold_good : (k : Option Items) (n : ℕ) (ws is : Items) (s : Shape) (ss : List Shape) (js ks : List Record)
    (o : Shape) → ends_in_node s ≡ true → ((j : ℕ) (c : Forest) → Folded n ws js j c) →
    Good (plug is k) s ss ks o → Good (plug (folds n ws is) k) s ss (js ++ ks) o
fold_good k n ws is Empty ss js ks o e f g x xs h hs = absurd cc
fold_good k n ws is OneNode ss js ks o e f g x xs h hs =
    let i : Folded n ws js h.0 h.1 = f h.0 h.1 in
    let m : Rest (plug is k) (none ⧺ i.tree) xs ks o =
    g (none ⧺ i.tree) xs (subst IsNode (sym (none_before i.tree)) i.is_node) hs in
    let r : Rest (plug (folds n ws is) k) (node none h.0 h.1) xs (js ++ ks) o =
    fold_rest k n ws is js ks none h.1 h.0 xs o i m in
    subst (λ (w : Forest). Rest (plug (folds n ws is) k) w xs (js ++ ks) o) (sym h.2) r
fold_good k n ws is EndsInNode ss js ks o e f g x xs h hs =
    let i : Folded n ws js h.1 h.2 = f h.1 h.2 in
    let m : Rest (plug is k) (h.0 ⧺ i.tree) xs ks o = g (h.0 ⧺ i.tree) xs (one_behind h.0 i.tree i.is_node) hs in
    let r : Rest (plug (folds n ws is) k) (node h.0 h.1 h.2) xs (js ++ ks) o =
    fold_rest k n ws is js ks h.0 h.2 h.1 xs o i m in
    subst (λ (w : Forest). Rest (plug (folds n ws is) k) w xs (js ++ ks) o) (sym h.3) r
fold_good k n ws is Any ss js ks o e f g x xs h hs = absurd cc
