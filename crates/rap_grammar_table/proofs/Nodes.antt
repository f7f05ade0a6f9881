-- The tree of a row is one node, where its pieces say so.
use Rattle.std.proofs.Common.{◌≡◌, ℕ, zero, suc, true, List, [], ◌∷◌, refl, sym, subst}
use Rattle.rap_events.proofs.Truth.{and_left, and_right}
use Rattle.rap_events.specs.Forest.{Forest, none, node, ◌⧺◌}
use Rattle.rap_events.specs.Record.{Record}
use Rattle.rap_grammar_table.proofs.Good.{Good, good_token, good_word, good_operator, good_category, IsNode, Made, made_end, made_begin, made_close, made_piece, made_first, made_second, made_last, made_turn, made_repeat, made_group, made_folded_none, made_folded_more, made_folds, made_guarded}
use Rattle.rap_grammar_table.proofs.Look.{only_folds, in_node, is_node_piece, is_one_node}
use Rattle.rap_grammar_table.proofs.Hints.{Table}
use Rattle.rap_grammar_table.specs.Table.{Piece, Items, nil, folds, appended}
use Rattle.rap_grammar_table.proofs.Values.{folded_node}

with_none : (u : Forest) → IsNode u → IsNode (none ⧺ u)
with_none u n = rw n.node_is (record { kind = n.kind; children = n.children; node_is = refl })

-- what is put around one node alone is one node
node_over : {x : Forest} {j : ℕ} {c : Forest} → IsNode (node x j c) → x ≡ none
node_over n = cc (n.node_is)

after_folds : {t : Table} {l : List Record} (is : Items) {x y : Forest} {us : List Forest} {ks : List Record} →
    only_folds is ≡ true → Made t l is x [] us ks y → IsNode x → IsNode y
after_folds nil h made_end n = n
after_folds (folds i ws is) h (made_folds {j = j} {c = c} {x = x} {u = u} m o) n =
    after_folds is h o (rw (node_over n) (with_none u (folded_node m (record { kind = j; children = c; node_is = refl }))))
after_folds is h m n = absurd cc

-- so many nodes are open, and the oldest over nothing
abbrev Under : ℕ → List Forest → Type 0
Under n [] = ⊥
Under zero (x ∷ xs) = (x ≡ none) × (xs ≡ [])
Under (suc n) (x ∷ xs) = Under n xs

after_end : {t : Table} {l : List Record} {k : ℕ} (is : Items) {x y z : Forest} {xs us : List Forest}
    {ks : List Record} → only_folds is ≡ true → Made t l is (node z k x) xs us ks y → z ≡ none → xs ≡ [] → IsNode y
after_end {t = t} {l = l} {k = k} is {x = x} {y = y} {z = z} {us = us} {ks = ks} h m e f =
    after_folds is h (subst (λ (zs : List Forest). Made t l is (node z k x) zs us ks y) f m)
    (record { kind = k; children = x; node_is = rw e refl })

in_node_so : {t : Table} {l : List Record} (d n : ℕ) {is : Items} {x y : Forest} {xs us : List Forest}
    {ks : List Record} → Made t l is x xs us ks y → in_node d n is ≡ true → Under n xs → IsNode y
in_node_so zero n m h u = absurd cc
in_node_so (suc d) n made_end h u = absurd cc
in_node_so (suc d) n (made_begin m) h u = in_node_so d (suc n) m h u
in_node_so (suc d) zero (made_close {is = is} m) h u = after_end is h m u.0 u.1
in_node_so (suc d) (suc n) (made_close m) h u = in_node_so d n m h u
in_node_so (suc d) n (made_piece o m) h u = in_node_so d n m h u
in_node_so (suc d) n (made_first {a = a} {b = b} {is = is} m) h u =
    in_node_so d n m (and_left (in_node d n (appended a is)) _ h) u
in_node_so (suc d) n (made_second {a = a} {b = b} {is = is} m) h u =
    in_node_so d n m (and_right (in_node d n (appended a is)) _ h) u
in_node_so (suc d) n (made_last m) h u = absurd cc
in_node_so (suc d) n (made_turn m o) h u = absurd cc
in_node_so (suc d) n (made_repeat o m) h u = in_node_so d n m h u
in_node_so (suc d) n (made_group o m) h u = in_node_so d n m h u
in_node_so (suc d) n made_folded_none h u = absurd cc
in_node_so (suc d) n (made_folded_more w i m o) h u = absurd cc
in_node_so (suc d) n (made_folds o m) h u = in_node_so d n m h u
in_node_so (suc d) n (made_guarded e m) h u = in_node_so d n m h u

node_of : {t : Table} {p : Piece} {ks l : List Record} {u : Forest} → Good t p ks u l → is_node_piece t p ≡ true →
    IsNode u
node_of (good_token m w) h = absurd cc
node_of (good_word e i) h = absurd cc
node_of (good_operator x) h = absurd cc
node_of (good_category s n p o y) h = n h

from_start : {t : Table} {l : List Record} (d : ℕ) {is : Items} {x y : Forest} {xs us : List Forest}
    {ks : List Record} → Made t l is x xs us ks y → is_one_node t d is ≡ true → x ≡ none → xs ≡ [] → IsNode y
from_start zero m h e f = absurd cc
from_start (suc d) (made_begin m) h e f = in_node_so d 0 m h (e, f)
from_start {t = t} {l = l} (suc d) (made_piece {p = p} {is = is} {x = x} {y = y} {u = u} {us = us} {js = js} g m) h e f =
    let n = with_none u (node_of g (and_left (is_node_piece t p) (only_folds is) h)) in
    after_folds is (and_right (is_node_piece t p) (only_folds is) h)
    (subst (λ (zs : List Forest). Made t l is (x ⧺ u) zs us js y) f m)
    (subst (λ (z : Forest). IsNode (z ⧺ u)) (sym e) n)
from_start {t = t} (suc d) (made_first {a = a} {b = b} {is = is} m) h e f =
    from_start d m (and_left (is_one_node t d (appended a is)) _ h) e f
from_start {t = t} (suc d) (made_second {a = a} {b = b} {is = is} m) h e f =
    from_start d m (and_right (is_one_node t d (appended a is)) _ h) e f
from_start (suc d) (made_guarded g m) h e f = from_start d m h e f
from_start (suc d) m h e f = absurd cc

pub one_node : {t : Table} {l : List Record} (d : ℕ) {is : Items} {y : Forest} {us : List Forest}
    {ks : List Record} → Made t l is none [] us ks y → is_one_node t d is ≡ true → IsNode y
one_node d m h = from_start d m h refl refl
