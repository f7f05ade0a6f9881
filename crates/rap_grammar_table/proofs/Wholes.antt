-- A part of a row that is walked to its end is read as its tree.
use Rattle.std.proofs.Common.{◌≡◌, true, ◌&&◌, List, [], ◌++◌, refl, sym, ◌∙◌, subst, ap}
use Rattle.rap_events.proofs.Truth.{and_left, and_right}
use Rattle.rap_events.specs.Forest.{Forest, none, ◌⧺◌}
use Rattle.rap_events.specs.Record.{Record}
use Rattle.rap_grammar_scripts.specs.Knot.{script_of}
use Rattle.rap_grammar_scripts.specs.Script.{Script, Outcome, Spot, Runs}
use Rattle.rap_grammar_scripts.specs.declared.rule.Rule.{Rule}
use Rattle.rap_grammar_table.proofs.Built.{Built, same, goes_on_from, no_more, At, with_row}
use Rattle.rap_grammar_table.proofs.Good.{Made, made_end}
use Rattle.rap_grammar_table.specs.Known.{Place, Sees}
use Rattle.rap_grammar_table.proofs.Refusal.{left_over, Verdict, accepted, both, check}
use Rattle.rap_grammar_table.proofs.Hints.{Table}
use Rattle.rap_grammar_table.specs.Table.{Items, nil, begin, close, piece, choice, repeat, turns_of, group, folds, folding, way, unless}
use Rattle.rap_grammar_table.proofs.Ways.{is_nil, is_whole, ends_whole}
use Rattle.rap_grammar_table.proofs.Exposes.{exposed_at}
use Rattle.rap_grammar_table.proofs.Values.{value, values, Comes, same_built, base-value, no_values}
use Rattle.rap_grammar_table.proofs.Verdict.{both_left, both_right, check_so}

-- nothing is left of a row
record AllMade (t : Table) (l : List Record) (x : Forest) (ks : List Record) (y : Forest) : Type 0 where
  tokens : ks ≡ []
  tree_is : y ≡ x

all_made : {t : Table} {l : List Record} (is : Items) {x y : Forest} {xs us : List Forest} {ks : List Record} →
    is_nil is ≡ true → Made t l is x xs us ks y → AllMade t l x ks y
all_made nil h made_end = record { tokens = refl; tree_is = refl }
all_made (begin is) h m = absurd cc
all_made (close k is) h m = absurd cc
all_made (piece p is) h m = absurd cc
all_made (choice a b is) h m = absurd cc
all_made (repeat a b is) h m = absurd cc
all_made (turns_of a b) h m = absurd cc
all_made (group a is) h m = absurd cc
all_made (folds j a is) h m = absurd cc
all_made (folding j a) h m = absurd cc
all_made (way i a j ws) h m = absurd cc
all_made (unless h w is) i m = absurd cc

whole_spot : (l : List Record) (u v : Forest) (c d : List Forest) (js : List Record) → js ≡ [] → u ≡ v → c ≡ d →
    ◌≡◌ {A = Spot} (record { rest = js ++ l; forest = u; below = c }) (record { rest = l; forest = v; below = d })
whole_spot l u v c d js h i j = rw (h, i, j) refl

-- what is so at the end
record Ends (us : List Forest) (q : At) (row : Built) : Type 0 where
  same_row : row ≡ q.own
  on : goes_on_from q.own ≡ true
  none_open : no_more q.owns ≡ true

ends_of : (us : List Forest) (q : At) (is : Items) (r : Built) (rs : List Built) →
    is_whole (with_row q is r rs) ≡ accepted → Ends us q r
ends_of us q is r rs w =
    let i = check_so (no_more rs && (no_more q.owns && (same r q.own && goes_on_from q.own))) _
    (both_right (check (is_nil is) (left_over is)) _ w) in
    let i2 = and_right (no_more rs) _ i in
    let i3 = and_right (no_more q.owns) _ i2 in
    record {
      same_row = same_built r q.own (and_left (same r q.own) _ i3);
      on = and_right (same r q.own) _ i3;
      none_open = and_left (no_more q.owns) _ i2;
    }

-- a script reads these tokens as this tree, with such an outcome, from where it is
pub record WholeFrom (k : Outcome → Verdict) (a : Script Rule) (p : Spot) (y : Forest) (l : List Record) (f : Forest)
    (b : List Forest) : Type 0 where
  pub outcome : Outcome
  pub so : k outcome ≡ accepted
  pub run : Runs script_of a p (record { rest = l; forest = f ⧺ y; below = b }) outcome

pub whole_from : (t : Table) (g : List (List Place)) (l : List Record) (us : List Forest) (y f : Forest)
    (b : List Forest) (k : Outcome → Verdict) (a : Script Rule) (p : Spot) → Sees g l →
    Comes t l us y f b (λ v q. both (k v) (ends_whole t g q)) a p → WholeFrom k a p y l f b
whole_from t g l us y f b k a p s x =
    let q = x.place in
    let z =
    exposed_at t g l us y s q x.tokens (λ is r rs. is_whole (with_row q is r rs)) x.stands
    (both_right (k x.outcome) (ends_whole t g q) x.so)
    in
    let n =
    all_made z.items (check_so (is_nil z.items) (left_over z.items) (both_left _ _ z.so)) z.made
    in
    let end = ends_of us q z.items z.row z.rows z.so in
    let tree_here : value f us q.own ≡ f ⧺ y =
    base-value f us q.own end.on ∙
    ap (λ (u : Forest). f ⧺ u) (sym (n.tree_is ∙ ap (λ (r : Built). value none us r) end.same_row))
    in
    record {
      outcome = x.outcome;
      so = both_left (k x.outcome) (ends_whole t g q) x.so;
      run =
          subst (λ (z : Spot). Runs script_of a p z x.outcome)
          (whole_spot l (value f us q.own) (f ⧺ y) (values f us b q.owns) b x.tokens n.tokens tree_here
          (no_values f us b q.owns end.none_open)) x.run;
    }

-- the same from before its tokens
pub record Whole (k : Outcome → Verdict) (a : Script Rule) (ks : List Record) (y : Forest) (l : List Record) (f : Forest)
    (b : List Forest) : Type 0 where
  pub outcome : Outcome
  pub so : k outcome ≡ accepted
  pub run : Runs script_of a (record { rest = ks ++ l; forest = f; below = b })
      (record { rest = l; forest = f ⧺ y; below = b }) outcome

pub whole : (t : Table) (g : List (List Place)) (l : List Record) (us : List Forest) (y f : Forest) (b : List Forest)
    (k : Outcome → Verdict) (a : Script Rule) (ks : List Record) → Sees g l →
    Comes t l us y f b (λ v q. both (k v) (ends_whole t g q)) a (record { rest = ks ++ l; forest = f; below = b }) →
    Whole k a ks y l f b
whole t g l us y f b k a ks s x =
    let z = whole_from t g l us y f b k a (record { rest = ks ++ l; forest = f; below = b }) s x in
    record { outcome = z.outcome; so = z.so; run = z.run }
