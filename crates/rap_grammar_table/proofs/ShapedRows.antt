-- The rows of the table fit the shapes of the nodes in them.
use Rattle.std.proofs.Common.{◌≡◌, ◌==◌, ◌&&◌, ◌⊎◌, inl, inr, ℕ, zero, suc, Bool, true, false, List, [], ◌∷◌, ◌++◌, Some, refl, subst, ap}
use Rattle.rap_events.proofs.Truth.{and_left, and_right, or_left}
use Rattle.rap_events.specs.Forest.{Forest, none, node, ◌⧺◌}
use Rattle.rap_grammar_scripts.proofs.Forests.{⧺-assoc}
use Rattle.rap_grammar_table.proofs.Numbered.{at_number}
use Rattle.rap_grammar_table.proofs.Places.{each_so, every, of_place}
use Rattle.rap_grammar_table.specs.Numbers.{categories, number}
use Rattle.rap_grammar_table.specs.Category.{Category}
use Rattle.rap_grammar_table.specs.Rows.{grammar}
use Rattle.rap_grammar_table.specs.Shapes.{Child, node_child, children_of, Shape, nothing, leaf_of, any_leaf, node_of, a_float, ◌⋅◌, ◌or◌, any_of, Spells, no_child, a_node, by_first, by_second, either_of, after, turns, last_of, with_last, piece_shape, ends, nodes_in, nodes_by, nodes_each, same_shape, is_in, unless_in, with_shape, shapes_among, any_shape}
use Rattle.rap_grammar_table.specs.Table.{Items, nil, begin, close, piece, choice, repeat, turns_of, group, folds, folding, way, unless, appended, HasWay, first_turn, other_turn, row_at}
use Rattle.rap_grammar_table.proofs.Known.{by_or}
use Rattle.rap_grammar_table.proofs.LookLaws.{same_self}
use Rattle.rap_grammar_table.proofs.PartRows.{same_kinds_so}
use Rattle.rap_grammar_table.proofs.Shaped.{OfChildren, Fits, fits_nil, fits_begin, fits_close, fits_piece, fits_choice, fits_repeat, fits_turns, fits_group, fits_folds, fits_unless, RowsFit}
use Rattle.rap_grammar_table.proofs.Entries.{all_rows, of_all}
use Rattle.rap_grammar_table.proofs.Spells.{is_node, last_in, spells_first, spells_on, spells_second, within, within_so}
use Rattle.rap_grammar_table.proofs.Values.{none-⧺}

-- what is known of the children of nodes is so of each of these shapes
abbrev pub AllHave : OfChildren → List (ℕ × Shape) → Type 0
AllHave H [] = Unit {0}
AllHave H (n ∷ ns) = ((cs : List Child) → Spells n.1 cs → H n.0 cs) × AllHave H ns

pub have_left : (H : OfChildren) (ns bs : List (ℕ × Shape)) → AllHave H (ns ++ bs) → AllHave H ns
have_left H [] bs h = tt
have_left H (n ∷ ns) bs h = (h.0, have_left H ns bs h.1)

pub have_right : (H : OfChildren) (ns bs : List (ℕ × Shape)) → AllHave H (ns ++ bs) → AllHave H bs
have_right H [] bs h = h
have_right H (n ∷ ns) bs h = have_right H ns bs h.1

-- A part of a row, or turns: each node ends where one is open, what turns are put around is a node, and they end what
-- is expected of them.
abbrev pub part_so : (Category → Shape) → Bool → Shape → List Shape → Items → Bool
part_so f true x xs (way js a m ws) =
    (part_so f false x (nothing ∷ []) a && within (ends f x (nothing ∷ []) a) x) && part_so f true x xs ws
part_so f true x xs is = true
part_so f false x [] nil = true
part_so f false x (z ∷ zs) nil = false
part_so f false x xs (begin a) = part_so f false nothing (x ∷ xs) a
part_so f false x [] (close k a) = false
part_so f false x (z ∷ zs) (close k a) = part_so f false (after z (node_of (k ∷ []))) zs a
part_so f false x xs (piece p a) = part_so f false (after x (piece_shape f p)) xs a
part_so f false x xs (choice a b c) =
    (part_so f false nothing [] a && part_so f false nothing [] b) &&
    part_so f false (after x (either_of (ends f nothing [] a) (ends f nothing [] b))) xs c
part_so f false x xs (repeat a z c) =
    (part_so f false nothing [] a && part_so f false nothing [] z) &&
    part_so f false (after x (turns (ends f nothing [] a) (ends f nothing [] z))) xs c
part_so f false x xs (turns_of a z) = false
part_so f false x xs (group a c) = part_so f false nothing [] a && part_so f false (after x (ends f nothing [] a)) xs c
part_so f false x xs (folds n ws c) =
    (is_node (last_of x) && within (last_of x) (ends f (last_of x) [] ws)) &&
    (part_so f true (ends f (last_of x) [] ws) [] ws && part_so f false (with_last x (ends f (last_of x) [] ws)) xs c)
part_so f false x xs (folding n ws) = false
part_so f false x xs (way js a m ws) = false
part_so f false x xs (unless h w a) = part_so f false x xs a

appended_nil : (f : Category → Shape) (x : Shape) (xs : List Shape) (a : Items) → part_so f false x xs a ≡ true →
    appended a nil ≡ a
appended_nil f x xs nil h = refl
appended_nil f x xs (begin a) h = ap (λ (is : Items). begin is) (appended_nil f nothing (x ∷ xs) a h)
appended_nil f x [] (close k a) h = absurd cc
appended_nil f x (z ∷ zs) (close k a) h = ap (λ (is : Items). close k is) (appended_nil f _ zs a h)
appended_nil f x xs (piece p a) h = ap (λ (is : Items). piece p is) (appended_nil f _ xs a h)
appended_nil f x xs (choice a b c) h =
    ap (λ (is : Items). choice a b is)
    (appended_nil f _ xs c (and_right (part_so f false nothing [] a && part_so f false nothing [] b) _ h))
appended_nil f x xs (repeat a z c) h =
    ap (λ (is : Items). repeat a z is)
    (appended_nil f _ xs c (and_right (part_so f false nothing [] a && part_so f false nothing [] z) _ h))
appended_nil f x xs (turns_of a z) h = absurd cc
appended_nil f x xs (group a c) h =
    ap (λ (is : Items). group a is) (appended_nil f _ xs c (and_right (part_so f false nothing [] a) _ h))
appended_nil f x xs (folds n ws c) h =
    let l = ends f (last_of x) [] ws in
    let i = and_right (is_node (last_of x) && within (last_of x) l) _ h in
    ap (λ (is : Items). folds n ws is) (appended_nil f _ xs c (and_right (part_so f true l [] ws) _ i))
appended_nil f x xs (folding n ws) h = absurd cc
appended_nil f x xs (way js a m ws) h = absurd cc
appended_nil f x xs (unless g w a) h = ap (λ (is : Items). unless g w is) (appended_nil f x xs a h)

-- What stands in the open nodes at some place of a part of a row: in the newest one, if the part began in it, behind
-- what stood there before.
data Within (base : Forest) (bases : List Forest) : Shape → List Shape → Forest → List Forest → Type 0 where
  in_part : {x : Shape} (u : Forest) → Spells x (children_of u) → Within base bases x [] (base ⧺ u) bases
  in_node : {x z : Shape} {zs : List Shape} {u v : Forest} {vs : List Forest} → Spells x (children_of u) →
      Within base bases z zs v vs → Within base bases x (z ∷ zs) u (v ∷ vs)

on : {base : Forest} {bases : List Forest} {x b : Shape} {xs : List Shape} {u : Forest} {us : List Forest}
    (v : Forest) → Within base bases x xs u us → Spells b (children_of v) →
    Within base bases (after x b) xs (u ⧺ v) us
on {base = base} v (in_part u s) t = rw (⧺-assoc base u v) (in_part (u ⧺ v) (spells_on u v s t))
on v (in_node {u = u} s w) t = in_node (spells_on u v s t) w

-- the same where what stands last is a node, and another stands in its place
record LastWithin (base : Forest) (bases : List Forest) (x : Shape) (xs : List Shape) (u : Forest)
    (us : List Forest) : Type 0 where
  before : Forest
  kind : ℕ
  inside : Forest
  tree_is : u ≡ node before kind inside
  is_last : Spells (last_of x) (node_child kind ∷ [])
  others : {l : Shape} (w : Forest) → Spells l (children_of w) →
      Within base bases (with_last x l) xs (before ⧺ w) us

last_within : {base : Forest} {bases : List Forest} {x : Shape} {xs : List Shape} {u : Forest} {us : List Forest} →
    is_node (last_of x) ≡ true → Within base bases x xs u us → LastWithin base bases x xs u us
last_within {base = base} {bases = bases} {x = x} h (in_part u s) =
    let r = last_in s h u refl in
    record {
      before = base ⧺ r.before;
      kind = r.kind;
      inside = r.inside;
      tree_is = ap (λ (t : Forest). base ⧺ t) r.tree_is;
      is_last = r.is_last;
      others = λ {l} w t. rw (⧺-assoc base r.before w) (in_part (r.before ⧺ w) (r.others w t));
    }
last_within h (in_node {u = u} s v) =
    let r = last_in s h u refl in
    record {
      before = r.before;
      kind = r.kind;
      inside = r.inside;
      tree_is = r.tree_is;
      is_last = r.is_last;
      others = λ w t. in_node (r.others w t) v;
    }

from_here : {u : Forest} {us : List Forest} → Within u us nothing [] u us
from_here = in_part none no_child

mutual
  fits_part : {f : Category → Shape} {H : OfChildren} (a is : Items) {x : Shape} {xs : List Shape} {base : Forest}
      {bases : List Forest} {u : Forest} {us : List Forest} {y : Shape} → Within base bases x xs u us →
      AllHave H (nodes_in f x xs a) → part_so f false x xs a ≡ true →
      ((v : Forest) → Spells (ends f x xs a) (children_of v) → Fits f H is (base ⧺ v) bases y) →
      Fits f H (appended a is) u us y
  fits_part nil is {xs = []} (in_part u s) o h k = k u s
  fits_part nil is {xs = z ∷ zs} w o h k = absurd cc
  fits_part (begin a) is w o h k = fits_begin (fits_part a is (in_node no_child w) o h k)
  fits_part (close j a) is {xs = []} w o h k = absurd cc
  fits_part (close j a) is {xs = z ∷ zs} {u = u} (in_node s w) o h k =
      fits_close (o.0 (children_of u) s)
      (fits_part a is (on (node none j u) w (a_node (or_left (j == j) false (same_self j)))) o.1 h k)
  fits_part (piece p a) is w o h k = fits_piece (λ u s. fits_part a is (on u w s) o h k)
  fits_part {f = f} {H = H} (choice a b c) is w o h k =
      let oa = have_left H (nodes_in f nothing [] a) _ o in
      let ob = have_right H (nodes_in f nothing [] a) _ o in
      let i = and_left (part_so f false nothing [] a && part_so f false nothing [] b) _ h in
      let j = and_right (part_so f false nothing [] a && part_so f false nothing [] b) _ h in
      let oc = have_right H (nodes_in f nothing [] b) _ ob in
      fits_choice
      (fits_part a (appended c is) from_here oa (and_left (part_so f false nothing [] a) _ i)
      (λ v s. fits_part c is (on v w (spells_first (ends f nothing [] a) (ends f nothing [] b) s)) oc j k))
      (fits_part b (appended c is) from_here (have_left H (nodes_in f nothing [] b) _ ob)
      (and_right (part_so f false nothing [] a) _ i)
      (λ v s. fits_part c is (on v w (spells_second (ends f nothing [] a) (ends f nothing [] b) s)) oc j k))
  fits_part {f = f} {H = H} (repeat a z c) is w o h k =
      let oz = have_right H (nodes_in f nothing [] a) _ o in
      let i = and_left (part_so f false nothing [] a && part_so f false nothing [] z) _ h in
      let j = and_right (part_so f false nothing [] a && part_so f false nothing [] z) _ h in
      let ia = and_left (part_so f false nothing [] a) _ i in
      let iz = and_right (part_so f false nothing [] a) _ i in
      fits_repeat
      (fits_turns
      (subst (λ (r : Items). Fits f H r none [] (ends f nothing [] a)) (appended_nil f nothing [] a ia)
      (fits_part a nil from_here (have_left H (nodes_in f nothing [] a) _ o) ia
      (λ v s. rw (none-⧺ v) (fits_nil s))))
      (subst (λ (r : Items). Fits f H r none [] (ends f nothing [] z)) (appended_nil f nothing [] z iz)
      (fits_part z nil from_here (have_left H (nodes_in f nothing [] z) _ oz) iz
      (λ v s. rw (none-⧺ v) (fits_nil s)))))
      (λ u s. fits_part c is (on u w s) (have_right H (nodes_in f nothing [] z) _ oz) j k)
  fits_part (turns_of a z) is w o h k = absurd cc
  fits_part {f = f} {H = H} (group a c) is w o h k =
      let i = and_left (part_so f false nothing [] a) _ h in
      fits_group
      (subst (λ (r : Items). Fits f H r none [] (ends f nothing [] a)) (appended_nil f nothing [] a i)
      (fits_part a nil from_here (have_left H (nodes_in f nothing [] a) _ o) i (λ v s. rw (none-⧺ v) (fits_nil s))))
      (λ u s. fits_part c is (on u w s) (have_right H (nodes_in f nothing [] a) _ o)
      (and_right (part_so f false nothing [] a) _ h) k)
  fits_part {f = f} {H = H} (folds n ws c) is {x = x} {us = us} {y = y} w o h k =
      let l = ends f (last_of x) [] ws in
      let i = and_left (is_node (last_of x) && within (last_of x) l) _ h in
      let j = and_right (is_node (last_of x) && within (last_of x) l) _ h in
      let r = last_within (and_left (is_node (last_of x)) _ i) w in
      rw r.tree_is
      (fits_folds
      (λ js a m v u s. fit_turns ws (have_left H (nodes_in f l [] ws) _ o) (and_left (part_so f true l [] ws) _ j) v u
      s)
      (within_so (last_of x) l (and_right (is_node (last_of x)) _ i) r.is_last)
      (λ u s. fits_part c is (r.others u s) (have_right H (nodes_in f l [] ws) _ o)
      (and_right (part_so f true l [] ws) _ j) k))
  fits_part (folding n ws) is w o h k = absurd cc
  fits_part (way js a m ws) is w o h k = absurd cc
  fits_part (unless g v a) is w o h k = fits_unless (fits_part a is w o h k)

  fit_turns : {f : Category → Shape} {H : OfChildren} (ws : Items) {x : Shape} → AllHave H (nodes_in f x [] ws) →
      part_so f true x [] ws ≡ true → {js : List ℕ} {a : Items} {m : ℕ} → HasWay ws js a m → (u : Forest) →
      Spells x (children_of u) → Fits f H a u (none ∷ []) x
  fit_turns {f = f} {H = H} (way js a m ws) {x = x} o h first_turn u s =
      let i = and_left (part_so f false x (nothing ∷ []) a && within (ends f x (nothing ∷ []) a) x) _ h in
      let j = and_left (part_so f false x (nothing ∷ []) a) _ i in
      subst (λ (r : Items). Fits f H r u (none ∷ []) x) (appended_nil f x (nothing ∷ []) a j)
      (fits_part a nil (in_node s from_here) (have_left H (nodes_in f x (nothing ∷ []) a) _ o) j
      (λ v t.
      rw (none-⧺ v)
      (fits_nil
      (within_so (ends f x (nothing ∷ []) a) x (and_right (part_so f false x (nothing ∷ []) a) _ i) t))))
  fit_turns {f = f} {H = H} (way js a m ws) {x = x} o h (other_turn w) u s =
      fit_turns ws (have_right H (nodes_in f x (nothing ∷ []) a) _ o)
      (and_right (part_so f false x (nothing ∷ []) a && within (ends f x (nothing ∷ []) a) x) _ h) w u s
  fit_turns ws o h w u s = elim w [ ]

-- a whole row
pub whole_fits : (f : Category → Shape) (H : OfChildren) (row : Items) → AllHave H (nodes_in f nothing [] row) →
    part_so f false nothing [] row ≡ true → Fits f H row none [] (ends f nothing [] row)
whole_fits f H row o h =
    subst (λ (r : Items). Fits f H r none [] (ends f nothing [] row)) (appended_nil f nothing [] row h)
    (fits_part row nil from_here o h (λ v s. rw (none-⧺ v) (fits_nil s)))

-- each row of the table, and its whole is of its category's shape
abbrev pub row_so : (Category → Shape) → Shape → Items → Bool
row_so f s row = part_so f false nothing [] row && within (ends f nothing [] row) s

abbrev pub rows_so : (Category → Shape) → Category → Bool
rows_so f c = all_rows (row_so f (f c)) (grammar c)

category_have : (f : Category → Shape) (H : OfChildren) (c : Category) → AllHave H (nodes_each f categories) →
    AllHave H (nodes_by f (grammar c))
category_have f H c o =
    of_place (λ (d : Category). AllHave H (nodes_by f (grammar d))) (λ (cs : List Category). AllHave H (nodes_each f cs))
    (λ d cs q. have_left H (nodes_by f (grammar d)) (nodes_each f cs) q)
    (λ d cs q. have_right H (nodes_by f (grammar d)) (nodes_each f cs) q) categories (number c) c (at_number c) o

same_row : (r row : Items) → Some r ≡ Some row → r ≡ row
same_row r row e = cc

row_have : (f : Category → Shape) (H : OfChildren) (rs : List Items) (n : ℕ) (row : Items) → AllHave H (nodes_by f rs) →
    row_at n rs ≡ Some row → AllHave H (nodes_in f nothing [] row)
row_have f H [] n row o e = absurd cc
row_have f H (r ∷ rs) zero row o e =
    subst (λ (x : Items). AllHave H (nodes_in f nothing [] x)) (same_row r row e)
    (have_left H (nodes_in f nothing [] r) _ o)
row_have f H (r ∷ rs) (suc n) row o e = row_have f H rs n row (have_right H (nodes_in f nothing [] r) _ o) e

-- of the rows of all categories
pub rows_fit : (f : Category → Shape) (H : OfChildren) → AllHave H (nodes_each f categories) →
    every (rows_so f) categories ≡ true → RowsFit f H
rows_fit f H o h c n row e =
    let i = of_all (row_so f (f c)) (grammar c) n row (each_so (rows_so f) c h) e in
    record {
      whole = ends f nothing [] row;
      fits =
          whole_fits f H row (row_have f H (grammar c) n row (category_have f H c o) e)
          (and_left (part_so f false nothing [] row) _ i);
      is_within = and_right (part_so f false nothing [] row) _ i;
    }

-- The children are of one of these shapes: of any of them.
abbrev pub SpellsOne : List Shape → List Child → Type 0
SpellsOne [] cs = ⊥
SpellsOne (s ∷ ss) cs = Spells s cs ⊎ SpellsOne ss cs

pub spells_any : (ss : List Shape) {cs : List Child} → SpellsOne ss cs → Spells (any_shape ss) cs
spells_any [] t = absurd t
spells_any (s ∷ []) (inl t) = t
spells_any (s ∷ []) (inr t) = absurd t
spells_any (s ∷ r ∷ ss) (inl t) = by_first t
spells_any (s ∷ r ∷ ss) (inr t) = by_second (spells_any (r ∷ ss) t)

pub same_shape_so : (a b : Shape) → same_shape a b ≡ true → a ≡ b
same_shape_so nothing nothing h = refl
same_shape_so (leaf_of ks) (leaf_of js) h = ap (λ (x : List ℕ). leaf_of x) (same_kinds_so ks js h)
same_shape_so any_leaf any_leaf h = refl
same_shape_so a_float a_float h = refl
same_shape_so (node_of ks) (node_of js) h = ap (λ (x : List ℕ). node_of x) (same_kinds_so ks js h)
same_shape_so (a ⋅ b) (x ⋅ y) h =
    rw (same_shape_so a x (and_left (same_shape a x) _ h), same_shape_so b y (and_right (same_shape a x) _ h)) refl
same_shape_so (a or b) (x or y) h =
    rw (same_shape_so a x (and_left (same_shape a x) _ h), same_shape_so b y (and_right (same_shape a x) _ h)) refl
same_shape_so (any_of a) (any_of x) h = ap (λ (y : Shape). any_of y) (same_shape_so a x h)
same_shape_so a b h = absurd cc

of_in : (s : Shape) (ss : List Shape) (cs : List Child) → is_in s ss ≡ true → Spells s cs → SpellsOne ss cs
of_in s [] cs h t = absurd cc
of_in s (r ∷ rs) cs h t =
    by_or (same_shape s r) (is_in s rs) h
    (λ i. inl (subst (λ (x : Shape). Spells x cs) (same_shape_so s r i) t)) (λ i. inr (of_in s rs cs i t))

-- Each of some nodes has a shape of its kind.
abbrev pub HasOne : List (ℕ × Shape) → OfChildren
HasOne rows kind cs = SpellsOne (shapes_among kind rows) cs

kept_old : (b : Bool) (s : Shape) (ss : List Shape) (cs : List Child) → SpellsOne ss cs →
    SpellsOne (unless_in b s ss) cs
kept_old true s ss cs t = t
kept_old false s ss cs t = inr t

kept : (b : Bool) (s : Shape) (ss : List Shape) (cs : List Child) → SpellsOne ss cs → SpellsOne (with_shape b s ss) cs
kept true s ss cs t = kept_old (is_in s ss) s ss cs t
kept false s ss cs t = t

kept_new : (b : Bool) (s : Shape) (ss : List Shape) (cs : List Child) → (b ≡ true → SpellsOne ss cs) → Spells s cs →
    SpellsOne (unless_in b s ss) cs
kept_new true s ss cs g t = g refl
kept_new false s ss cs g t = inl t

kept_this : (b : Bool) (s : Shape) (ss : List Shape) (cs : List Child) → b ≡ true → Spells s cs →
    SpellsOne (with_shape b s ss) cs
kept_this true s ss cs e t = kept_new (is_in s ss) s ss cs (λ h. of_in s ss cs h t) t
kept_this false s ss cs e t = absurd cc

have_among : (rows ns : List (ℕ × Shape)) → ((kind : ℕ) (cs : List Child) → HasOne ns kind cs → HasOne rows kind cs) →
    AllHave (HasOne rows) ns
have_among rows [] g = tt
have_among rows (n ∷ ns) g = (
  λ cs s. g n.0 cs (kept_this (n.0 == n.0) n.1 (shapes_among n.0 ns) cs (same_self n.0) s),
  have_among rows ns (λ kind cs t. g kind cs (kept (n.0 == kind) n.1 (shapes_among kind ns) cs t)),
)

pub have_all : (rows : List (ℕ × Shape)) → AllHave (HasOne rows) rows
have_all rows = have_among rows rows (λ kind cs t. t)
