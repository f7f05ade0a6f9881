-- Parts of a row that a script reads alone.
use Rattle.std.proofs.Common.{◌≡◌, ℕ, true, false, List, [], ◌∷◌, ◌++◌, drop, refl, sym, ◌∙◌, subst, append_assoc}
use Rattle.rap_events.specs.Forest.{Forest, none, ◌⧺◌}
use Rattle.rap_events.specs.Record.{Record}
use Rattle.rap_grammar_scripts.specs.Script.{Script, Outcome}
use Rattle.rap_grammar_scripts.specs.declared.rule.Rule.{Rule}
use Rattle.rap_grammar_table.specs.Category.{Category}
use Rattle.rap_grammar_table.proofs.Built.{Built, At, with_row, at_start, after_category, after_piece}
use Rattle.rap_grammar_table.proofs.Good.{IsNode, IsUnbraced, Made, made_group}
use Rattle.rap_grammar_table.specs.Known.{Place, Sees}
use Rattle.rap_grammar_table.proofs.Look.{look}
use Rattle.rap_grammar_table.proofs.Refusal.{ends_as, in_part, Verdict, accepted, check, or_later}
use Rattle.rap_grammar_table.proofs.Hints.{Table}
use Rattle.rap_grammar_table.specs.Table.{Piece, tok, word, comp, cat, Items, piece, group}
use Rattle.rap_grammar_table.proofs.Walk.{Walked, first_outcomes, outcome_guesses, with_outcomes, reads_rows, category_part, category_first, group_so, parting, at_part, first_try}
use Rattle.rap_grammar_table.proofs.Ways.{expose, ends_so, every_outcome, has_outcome}
use Rattle.rap_grammar_table.proofs.Exposes.{exposed_at, on_items}
use Rattle.rap_grammar_table.proofs.LookLaws.{seen}
use Rattle.rap_grammar_table.proofs.Pieces.{of_every, Front, front_inv, of_category}
use Rattle.rap_grammar_table.proofs.Values.{value, values, spot_at, AreNodes, Stands, Comes, drop_first, drop_more, nodes_with}
use Rattle.rap_grammar_table.proofs.Verdict.{check_so, told_so, or_later_so, by_else, by_try, by_try_so}
use Rattle.rap_grammar_table.proofs.Wholes.{whole}

-- a guess that is right
record FoundOutcomes (f k : List Outcome → Verdict) : Type 0 where
  outcomes : List Outcome
  is_so : f outcomes ≡ accepted
  so : k outcomes ≡ accepted

found_outcomes : (f : List Outcome → Verdict) (gs : List (List Outcome)) (k : List Outcome → Verdict) →
    first_outcomes f gs k ≡ accepted → FoundOutcomes f k
found_outcomes f [] k w = absurd cc
found_outcomes f (x ∷ xs) k w =
    by_else (f x) (λ u. k x) (λ r. or_later r (first_outcomes f xs k)) w
    (λ i j. record { outcomes = x; is_so = i; so = j })
    (λ r i. found_outcomes f xs k (or_later_so r (first_outcomes f xs k) i))

record Grouped (t : Table) (l : List Record) (a is : Items) (x : Forest) (xs us : List Forest) (ks : List Record)
    (y : Forest) : Type 0 where
  own : List Record
  rest : List Record
  tree_is : Forest
  inner : List Forest
  trees : List Forest
  tokens : ks ≡ own ++ rest
  all : us ≡ tree_is ∷ trees
  part : Made t (rest ++ l) a none [] inner own tree_is
  made : Made t l is (x ⧺ tree_is) xs trees rest y

group_inv : {t : Table} {l : List Record} {a is : Items} {x y : Forest} {xs us : List Forest} {ks : List Record} →
    Made t l (group a is) x xs us ks y → Grouped t l a is x xs us ks y
group_inv (made_group {u = u} {us = us} {vs = vs} {ks = ks} {js = js} m n) =
    record { own = ks; rest = js; tree_is = u; inner = vs; trees = us; tokens = refl; all = refl; part = m; made = n }

-- what walks a script, before any tokens
abbrev pub Walks : Table → Script Rule → (List (List Place) → Walked) → Type 0
Walks t a w =
    (g : List (List Place)) (l : List Record) (e : List Forest) (y f : Forest) (b : List Forest) → Sees g l → (s : At)
    (k : Outcome → At → Verdict) (ks : List Record) → Stands t l e y s ks → w g s k ≡ accepted →
    Comes t l e y f b k a (spot_at f b e s (ks ++ l))

-- a category whose rows the script reads
rows_read : (t : Table) (deep : ℕ) (l : List Record) (e : List Forest) (y f : Forest) (b : List Forest) (a : Script Rule)
    (s : At) (k : Outcome → At → Verdict) {ks : List Record} {left : List Forest} → AreNodes e s.nodes →
    drop s.count e ≡ left → (c : Category) (is : Items) (x : Built) (xs : List Built) →
    Front t l (cat c) is (value none e x) (values none e [] xs) left ks y → t.by_rows c ≡ true →
    with_outcomes (reads_rows deep t c a) (t.ends c)
    (λ v. k v (after_category (with_row s (piece (cat c) is) x xs) is (t.is_node c) (t.unbraced c))) ≡ accepted →
    Comes t l e y f b k a (spot_at f b e s (ks ++ l))
rows_read t deep l e y f b a s k ns o c is x xs u h v =
    let place = after_category (with_row s (piece (cat c) is) x xs) is (t.is_node c) (t.unbraced c) in
    let good = of_category u.good in
    let q = found_outcomes (reads_rows deep t c a) (t.ends c) (λ vs. every_outcome (λ v. k v place) vs) v in
    let z = good.rows h deep a q.outcomes (value f e s.own) (values f e b s.owns) q.is_so in
    let j = o ∙ u.all in
    let same_tree = drop_first s.count e u.tree_is u.trees j in
    record {
      outcome = z.outcome;
      place = place;
      tokens = u.rest;
      so = of_every (λ v. k v place) q.outcomes z.outcome q.so z.among_them;
      stands =
          record {
            left = u.trees;
            left_is = drop_more s.count e u.tree_is u.trees j;
            made = rw same_tree u.made;
            nodes =
                nodes_with e (t.is_node c) (t.unbraced c) s.count s.nodes
                (λ i. subst (λ (u : Forest). IsNode u) (sym same_tree) (good.node i))
                (λ i. subst (λ (u : Forest). IsUnbraced u) (sym same_tree) (good.unbraced i)) ns;
            facts = tt;
          };
      run = rw (u.tokens, append_assoc u.own u.rest l, same_tree) z.run;
    }

-- a category's part, or the script goes on
category_read : (t : Table) (deep : ℕ) (g : List (List Place)) (l : List Record) (e : List Forest) (y f : Forest)
    (b : List Forest) → Sees g l → (a : Script Rule) (w : List (List Place) → Walked) → Walks t a w → (s : At)
    (k : Outcome → At → Verdict) (ks : List Record) (p : Piece) (is : Items) (x : Built) (xs : List Built) →
    Stands t l e y (with_row s (piece p is) x xs) ks →
    category_part (reads_rows deep t) a w t g p is (with_row s (piece p is) x xs) k ≡ accepted →
    Comes t l e y f b k a (spot_at f b e s (ks ++ l))
category_read t deep g l e y f b i a w sound s k ks (tok kinds words) is x xs st v =
    sound g l e y f b i (with_row s (piece (tok kinds words) is) x xs) k ks st v
category_read t deep g l e y f b i a w sound s k ks (word j) is x xs st v =
    sound g l e y f b i (with_row s (piece (word j) is) x xs) k ks st v
category_read t deep g l e y f b i a w sound s k ks (comp j) is x xs st v =
    sound g l e y f b i (with_row s (piece (comp j) is) x xs) k ks st v
category_read t deep g l e y f b i a w sound s k ks (cat c) is x xs st v =
    by_try_so (t.by_rows c)
    (λ u. with_outcomes (reads_rows deep t c a) (t.ends c)
    (λ v. k v (after_category (with_row s (piece (cat c) is) x xs) is (t.is_node c) (t.unbraced c))))
    (λ u. w g (with_row s (piece (cat c) is) x xs) k) v
    (λ h o. rows_read t deep l e y f b a s k st.nodes st.left_is c is x xs (front_inv st.made) h o)
    (λ o. sound g l e y f b i (with_row s (piece (cat c) is) x xs) k ks st o)

-- what comes first is a category's part, or the script goes on
firsts : (t : Table) (deep : ℕ) (g : List (List Place)) (l : List Record) (e : List Forest) (y f : Forest)
    (b : List Forest) → Sees g l → (a : Script Rule) (w : List (List Place) → Walked) → Walks t a w → (s : At)
    (k : Outcome → At → Verdict) (ks : List Record) (is : Items) (x : Built) (xs : List Built) →
    Stands t l e y (with_row s is x xs) ks →
    category_first (reads_rows deep t) a w t g is (with_row s is x xs) k ≡ accepted →
    Comes t l e y f b k a (spot_at f b e s (ks ++ l))
firsts t deep g l e y f b i a w sound s k ks (piece p is) x xs st v =
    category_read t deep g l e y f b i a w sound s k ks p is x xs st v
firsts t deep g l e y f b i a w sound s k ks is x xs st v = sound g l e y f b i (with_row s is x xs) k ks st v

start_read : (t : Table) (deep : ℕ) (g : List (List Place)) (l : List Record) (e : List Forest) (y f : Forest)
    (b : List Forest) → Sees g l → (a : Script Rule) (w : List (List Place) → Walked) → Walks t a w → (is : Items)
    (k : Outcome → At → Verdict) (ks : List Record) → Stands t l e y (at_start is) ks →
    first_try (at_part t is)
    (λ u. expose t g (at_start is) (λ q. category_first (reads_rows deep t) a w t g q.items q k))
    (λ u. w g (at_start is) k) ≡ accepted → Comes t l e y f b k a (spot_at f b e (at_start is) (ks ++ l))
start_read t deep g l e y f b i a w sound is k ks st v =
    by_try (at_part t is)
    (λ u. expose t g (at_start is) (λ q. category_first (reads_rows deep t) a w t g q.items q k))
    (λ u. w g (at_start is) k) v
    (λ o.
    let x =
    exposed_at t g l e y i (at_start is) ks
    (λ js x xs. category_first (reads_rows deep t) a w t g js (with_row (at_start is) js x xs) k) st o
    in
    firsts t deep g l e y f b i a w sound (at_start is) k ks x.items x.row x.rows
    (on_items st x.items x.row x.rows x.made) x.so)
    (λ o. sound g l e y f b i (at_start is) k ks st o)

-- a part that is marked
group_read : (t : Table) (deep : ℕ) (g : List (List Place)) (l : List Record) (e : List Forest) (y f : Forest)
    (b : List Forest) → Sees g l → (c : Script Rule) (w : List (List Place) → Walked) → Walks t c w → (s : At)
    (k : Outcome → At → Verdict) {ks : List Record} {left : List Forest} → AreNodes e s.nodes → drop s.count e ≡ left →
    (a is : Items) (x : Built) (xs : List Built) →
    Grouped t l a is (value none e x) (values none e [] xs) left ks y →
    parting (reads_rows deep t) c w t g (group a is) (with_row s (group a is) x xs) k ≡ accepted →
    Comes t l e y f b k c (spot_at f b e s (ks ++ l))
group_read t deep g l e y f b i c w sound s k {ks = ks} ns o a is x xs u v =
    let n = look t is g in
    let place = after_piece (with_row s (group a is) x xs) is false in
    let q =
    found_outcomes (group_so (reads_rows deep t) c w t n a) outcome_guesses (λ vs. every_outcome (λ v. k v place) vs) v
    in
    let z =
    whole t n (u.rest ++ l) u.inner u.tree_is (value f e s.own) (values f e b s.owns)
    (λ v. check (has_outcome q.outcomes v) (ends_as v)) c u.own (seen t g u.made i)
    (start_read t deep n (u.rest ++ l) u.inner u.tree_is (value f e s.own) (values f e b s.owns) (seen t g u.made i) c
    w sound a (ends_so t n q.outcomes) u.own
    (record { left = u.inner; left_is = refl; made = u.part; nodes = (tt, tt); facts = tt })
    (told_so in_part
    (first_try (at_part t a)
    (λ u. expose t n (at_start a) (λ q'. category_first (reads_rows deep t) c w t n q'.items q' (ends_so t n q.outcomes)))
    (λ u. w n (at_start a) (ends_so t n q.outcomes))) q.is_so))
    in
    let j = o ∙ u.all in
    let same_tree = drop_first s.count e u.tree_is u.trees j in
    record {
      outcome = z.outcome;
      place = place;
      tokens = u.rest;
      so =
          of_every (λ v. k v place) q.outcomes z.outcome q.so
          (check_so (has_outcome q.outcomes z.outcome) (ends_as z.outcome) z.so);
      stands =
          record {
            left = u.trees;
            left_is = drop_more s.count e u.tree_is u.trees j;
            made = rw same_tree u.made;
            nodes = ns;
            facts = tt;
          };
      run = rw (u.tokens, append_assoc u.own u.rest l, same_tree) z.run;
    }

parts : (t : Table) (deep : ℕ) (g : List (List Place)) (l : List Record) (e : List Forest) (y f : Forest)
    (b : List Forest) → Sees g l → (a : Script Rule) (w : List (List Place) → Walked) → Walks t a w → (s : At)
    (k : Outcome → At → Verdict) (ks : List Record) (is : Items) (x : Built) (xs : List Built) →
    Stands t l e y (with_row s is x xs) ks →
    parting (reads_rows deep t) a w t g is (with_row s is x xs) k ≡ accepted →
    Comes t l e y f b k a (spot_at f b e s (ks ++ l))
parts t deep g l e y f b i a w sound s k ks (group c is) x xs st v =
    group_read t deep g l e y f b i a w sound s k st.nodes st.left_is c is x xs (group_inv st.made) v
parts t deep g l e y f b i a w sound s k ks (piece p is) x xs st v =
    category_read t deep g l e y f b i a w sound s k ks p is x xs st v
parts t deep g l e y f b i a w sound s k ks is x xs st v = sound g l e y f b i (with_row s is x xs) k ks st v

pub part_read : (t : Table) (deep : ℕ) (g : List (List Place)) (l : List Record) (e : List Forest) (y f : Forest)
    (b : List Forest) → Sees g l → (a : Script Rule) (w : List (List Place) → Walked) → Walks t a w → (s : At)
    (k : Outcome → At → Verdict) (ks : List Record) → Stands t l e y s ks →
    expose t g s (λ q. parting (reads_rows deep t) a w t g q.items q k) ≡ accepted →
    Comes t l e y f b k a (spot_at f b e s (ks ++ l))
part_read t deep g l e y f b i a w sound s k ks st v =
    let x =
    exposed_at t g l e y i s ks (λ is x xs. parting (reads_rows deep t) a w t g is (with_row s is x xs) k) st v
    in
    parts t deep g l e y f b i a w sound s k ks x.items x.row x.rows (on_items st x.items x.row x.rows x.made) x.so
