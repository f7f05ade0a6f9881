-- As many nodes of a kind are among children as their shape has, and what follows for some kinds.
use Rattle.std.proofs.Common.{◌≡◌, ◌==◌, ◌&&◌, inl, inr, ◌+◌, ◌≤◌, nat_lt, arith, ℕ, zero, suc, Bool, true, false, List, [], ◌∷◌, ◌++◌, Option, Some, None, refl, sym, subst, ap}
use Rattle.std.proofs.lemmas.Bool.Decides.{nat_tests}
use Rattle.rap_base.specs.NodeKind.{BIN_EXPR, BLOCK_EXPR, FN, NAME}
use Rattle.rap_base.specs.TokenKind.{SEMICOLON}
use Rattle.rap_events.proofs.Truth.{and_left, and_right}
use Rattle.rap_events.specs.Power.{power}
use Rattle.rap_grammar_table.specs.Counts.{AreBetween, IsAtMost, fewest, larger_of, most, nodes_of, one_if, repeated, sum_of}
use Rattle.rap_grammar_table.specs.Known.{among, every_one}
use Rattle.rap_grammar_table.specs.Shaped.{ChildrenAre, EndsInBody, HaveCounts, HaveOneName, IsBinary, expr_kinds, fn_shape, named_kinds}
use Rattle.rap_grammar_table.specs.Shapes.{Child, leaf_child, node_child, message_child, float_child, children_of, Shape, leaf_of, node_of, ◌⋅◌, ◌or◌, shape, Spells, no_child, a_leaf, some_leaf, a_node, the_float, in_order, by_first, by_second, no_more, one_more}
use Rattle.rap_grammar_table.proofs.Known.{by_or, every_so, same_number}
use Rattle.rap_grammar_table.proofs.ShapedTrees.{have_shapes}

nodes-append : (k : ℕ) (cs ds : List Child) → nodes_of k (cs ++ ds) ≡ nodes_of k cs + nodes_of k ds
nodes-append k [] ds = omega arith
nodes-append k (leaf_child j ∷ cs) ds = nodes-append k cs ds
nodes-append k (node_child j ∷ cs) ds = omega (arith, nodes-append k cs ds)
nodes-append k (message_child ∷ cs) ds = nodes-append k cs ds
nodes-append k (float_child ∷ cs) ds = nodes-append k cs ds

-- bounds
at_sum : (n m : ℕ) (a b : Option ℕ) → IsAtMost n a → IsAtMost m b → IsAtMost (n + m) (sum_of a b)
at_sum n m None b h i = tt
at_sum n m (Some x) None h i = tt
at_sum n m (Some x) (Some y) h i = omega (arith, h, i)

at_first : (n : ℕ) (a b : Option ℕ) → IsAtMost n a → IsAtMost n (larger_of a b)
at_first n None b h = tt
at_first n (Some x) None h = tt
at_first n (Some x) (Some y) h = grind (arith, h)

at_second : (n : ℕ) (a b : Option ℕ) → IsAtMost n b → IsAtMost n (larger_of a b)
at_second n None b h = tt
at_second n (Some x) None h = tt
at_second n (Some x) (Some y) h = grind (arith, h)

at_none : (a : Option ℕ) → IsAtMost 0 (repeated a)
at_none None = tt
at_none (Some zero) = omega arith
at_none (Some (suc n)) = tt

at_more : (n m : ℕ) (a : Option ℕ) → IsAtMost n a → IsAtMost m (repeated a) → IsAtMost (n + m) (repeated a)
at_more n m None h i = tt
at_more n m (Some zero) h i = omega (arith, h, i)
at_more n m (Some (suc x)) h i = tt

least_one : (b c : Bool) → (b ≡ true → c ≡ true) → one_if b ≤ one_if c + 0
least_one true true h = omega arith
least_one true false h = absurd (let e = h refl in cc)
least_one false c h = omega arith

most_one : (b c : Bool) → (b ≡ true → c ≡ true) → one_if b + 0 ≤ one_if c
most_one true true h = omega arith
most_one true false h = absurd (let e = h refl in cc)
most_one false true h = omega arith
most_one false false h = omega arith

pub counted : (k : ℕ) {s : Shape} {cs : List Child} → Spells s cs → AreBetween k s cs
counted k no_child = record { at_least = omega arith; at_most = omega arith }
counted k (a_leaf m) = record { at_least = omega arith; at_most = omega arith }
counted k some_leaf = record { at_least = omega arith; at_most = omega arith }
counted k the_float = record { at_least = omega arith; at_most = omega arith }
counted k (a_node {kinds = ks} {kind = j} m) =
    record {
      at_least = least_one (every_one (λ i. i == k) ks) (j == k) (λ h. every_so (λ i. i == k) ks j h m);
      at_most =
          most_one (j == k) (among ks k)
          (λ h. subst (λ (i : ℕ). among ks i ≡ true) (same_number j k h) m);
    }
counted k (in_order {a = a} {b = b} {cs = cs} {ds = ds} s t) =
    let p = counted k s in let q = counted k t in
    record {
      at_least = omega (arith, nodes-append k cs ds, p.at_least, q.at_least);
      at_most =
          rw (nodes-append k cs ds)
          (at_sum (nodes_of k cs) (nodes_of k ds) (most k a) (most k b) p.at_most q.at_most);
    }
counted k (by_first {a = a} {b = b} {cs = cs} s) =
    let p = counted k s in
    record {
      at_least = grind (arith, p.at_least);
      at_most = at_first (nodes_of k cs) (most k a) (most k b) p.at_most;
    }
counted k (by_second {a = a} {b = b} {cs = cs} s) =
    let p = counted k s in
    record {
      at_least = grind (arith, p.at_least);
      at_most = at_second (nodes_of k cs) (most k a) (most k b) p.at_most;
    }
counted k (no_more {a = a}) = record { at_least = omega arith; at_most = at_none (most k a) }
counted k (one_more {a = a} {cs = cs} {ds = ds} s t) =
    let p = counted k s in let q = counted k t in
    record {
      at_least = omega arith;
      at_most =
          rw (nodes-append k cs ds) (at_more (nodes_of k cs) (nodes_of k ds) (most k a) p.at_most q.at_most);
    }

pub have_counts : HaveCounts
have_counts kind k tokens tree children place d p = counted k (have_shapes kind tokens tree children place d p)

-- one name
abbrev is_one : Option ℕ → Bool
is_one None = false
is_one (Some n) = n == 1

abbrev pub has_one : ℕ → Shape → Bool
has_one k s = (fewest k s == 1) && is_one (most k s)

names_so : every_one (λ k. has_one NAME (shape k)) named_kinds ≡ true
names_so = refl

exactly_one : (n m : ℕ) (o : Option ℕ) → ((m == 1) && is_one o) ≡ true → m ≤ n → IsAtMost n o → n ≡ 1
exactly_one n m None h a b = let e = and_right (m == 1) _ h in absurd cc
exactly_one n m (Some x) h a b =
    let e = same_number m 1 (and_left (m == 1) _ h) in let f = same_number x 1 (and_right (m == 1) _ h) in
    omega (arith, e, f, a, b)

pub of_between : (k : ℕ) (s : Shape) {cs : List Child} → has_one k s ≡ true → AreBetween k s cs → nodes_of k cs ≡ 1
of_between k s {cs = cs} h b = exactly_one (nodes_of k cs) (fewest k s) (most k s) h b.at_least b.at_most

pub have_one_name : HaveOneName
have_one_name kind h tokens tree children place d p =
    of_between NAME (shape kind) (every_so (λ k. has_one NAME (shape k)) named_kinds kind names_so h)
    (have_counts kind NAME tokens tree children place d p)

-- functions
fn_is : shape FN ≡ fn_shape
fn_is = refl

pub fn_children : ChildrenAre FN (Spells fn_shape)
fn_children tokens tree children place d p =
    subst (λ (s : Shape). Spells s (children_of children)) fn_is (have_shapes FN tokens tree children place d p)

pub none_in : {k : ℕ} {s : Shape} {cs : List Child} → most k s ≡ Some 0 → AreBetween k s cs → nodes_of k cs ≡ 0
none_in {k = k} {cs = cs} e b =
    let h = subst (λ (o : Option ℕ). IsAtMost (nodes_of k cs) o) e b.at_most in omega (arith, h)

only : (k j : ℕ) → among (k ∷ []) j ≡ true → j ≡ k
only k j h = by_or (k == j) false h (λ i. sym (same_number k j i)) (λ i. absurd cc)

pub body_of : {cs : List Child} → Spells (leaf_of (SEMICOLON ∷ []) or node_of (BLOCK_EXPR ∷ [])) cs → (head : List Child) →
    nodes_of BLOCK_EXPR head ≡ 0 → EndsInBody (head ++ cs)
body_of (by_first (a_leaf {kind = k} m)) head n =
    record {
      head = head;
      body = leaf_child k;
      children_are = refl;
      body_is = inl (ap (λ (j : ℕ). leaf_child j) (only SEMICOLON k m));
      no_other = n;
    }
body_of (by_second (a_node {kind = k} m)) head n =
    record {
      head = head;
      body = node_child k;
      children_are = refl;
      body_is = inr (ap (λ (j : ℕ). node_child j) (only BLOCK_EXPR k m));
      no_other = n;
    }

ends_in_body : {cs : List Child} → Spells fn_shape cs → EndsInBody cs
ends_in_body (in_order {cs = cs} s t) = body_of t cs (none_in refl (counted BLOCK_EXPR s))

pub bodies : ChildrenAre FN EndsInBody
bodies tokens tree children place d p = ends_in_body (fn_children tokens tree children place d p)

-- binary expressions
abbrev is_binary : Shape → Bool
is_binary (a or b) = is_binary a && is_binary b
is_binary ((node_of ls ⋅ leaf_of os) ⋅ node_of rs) =
    every_one (among expr_kinds) ls && (every_one (λ k. nat_lt 0 (power k)) os && every_one (among expr_kinds) rs)
is_binary s = false

binary_so : is_binary (shape BIN_EXPR) ≡ true
binary_so = refl

of_three : (ls os rs : List ℕ) {l o r : ℕ} → is_binary ((node_of ls ⋅ leaf_of os) ⋅ node_of rs) ≡ true →
    among ls l ≡ true → among os o ≡ true → among rs r ≡ true →
    IsBinary (node_child l ∷ leaf_child o ∷ node_child r ∷ [])
of_three ls os rs {l = l} {o = o} {r = r} h a b c =
    let i = and_right (every_one (among expr_kinds) ls) _ h in
    let q = every_so (λ k. nat_lt 0 (power k)) os o (and_left (every_one (λ k. nat_lt 0 (power k)) os) _ i) b in
    record {
      left = l;
      operator = o;
      right = r;
      children_are = refl;
      left_is = every_so (among expr_kinds) ls l (and_left (every_one (among expr_kinds) ls) _ h) a;
      operator_is = grind (arith, nat_tests, q);
      right_is =
          every_so (among expr_kinds) rs r (and_right (every_one (λ k. nat_lt 0 (power k)) os) _ i) c;
    }

binary_of : {s : Shape} {cs : List Child} → Spells s cs → is_binary s ≡ true → IsBinary cs
binary_of (by_first {a = a} s) h = binary_of s (and_left (is_binary a) _ h)
binary_of (by_second {a = a} s) h = binary_of s (and_right (is_binary a) _ h)
binary_of (in_order (in_order (a_node {kinds = ls} a) (a_leaf {kinds = os} b)) (a_node {kinds = rs} c)) h =
    of_three ls os rs h a b c
binary_of s h = absurd cc

pub binaries : ChildrenAre BIN_EXPR IsBinary
binaries tokens tree children place d p = binary_of (have_shapes BIN_EXPR tokens tree children place d p) binary_so
