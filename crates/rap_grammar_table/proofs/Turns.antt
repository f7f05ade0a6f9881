-- Loops along the turns of a row.
use Rattle.std.proofs.Common.{◌≡◌, ℕ, zero, suc, Bool, true, false, ◌&&◌, List, [], ◌∷◌, ◌++◌, ◌==◌, drop, refl, sym, ◌∙◌, subst, ap, append_assoc}
use Rattle.rap_events.proofs.Truth.{and_left, and_right}
use Rattle.rap_events.specs.Forest.{Forest, none, node, ◌⧺◌}
use Rattle.rap_events.specs.Record.{Record}
use Rattle.rap_grammar_scripts.proofs.Forests.{⧺-assoc}
use Rattle.rap_grammar_scripts.specs.Knot.{script_of}
use Rattle.rap_grammar_scripts.specs.Script.{Script, Outcome, nothing, something, block, again, Spot, Runs, turns, stops, loop}
use Rattle.rap_grammar_scripts.specs.declared.rule.Rule.{Rule}
use Rattle.rap_grammar_table.proofs.Built.{Built, over, tree, under, same, last_same, At, with_row, at_start, fold_start, after_piece, after_fold}
use Rattle.rap_grammar_table.proofs.Good.{IsNode, Made, made_last, made_turn, made_repeat, made_folded_none, made_folded_more, made_folds}
use Rattle.rap_grammar_table.specs.Known.{Place, Sees, anything}
use Rattle.rap_grammar_table.proofs.Look.{look, after_way}
use Rattle.rap_grammar_table.proofs.Refusal.{goes_on_as, in_turn, after_turns, stopped, Verdict, accepted, both, check, told_with, or_later}
use Rattle.rap_grammar_table.proofs.Refusal as refusal
use Rattle.rap_grammar_table.proofs.Hints.{Table}
use Rattle.rap_grammar_table.specs.Table.{Items, repeat, turns_of, folds, folding, HasWay, first_turn, other_turn}
use Rattle.rap_grammar_table.proofs.Walk.{next_turn, is_repeat, at_repeat, Turn, one_turn, turns_first, turning, most_turns, Flags, flags_in, every_flags, goes_on_in, turn_ends, turn_so, no_turns, first_so, guesses, fold_turn_so, ways_so, then_ends, last_so, goes_on_after, folds_so, repeating}
use Rattle.rap_grammar_table.proofs.Ways.{expose, same_flag}
use Rattle.rap_grammar_table.proofs.Exposes.{exposed_at, on_items}
use Rattle.rap_grammar_table.proofs.Known.{by_or, same_number}
use Rattle.rap_grammar_table.proofs.LookLaws.{seen}
use Rattle.rap_grammar_table.proofs.Pieces.{same_flags}
use Rattle.rap_grammar_table.proofs.Values.{tree_of, value, values, spot_at, AreNodes, Stands, Comes, before, drop_first, drop_more, same_spot, same_built, own-value, none-⧺, node_at, folded_node}
use Rattle.rap_grammar_table.proofs.Verdict.{both_left, both_right, check_so, provided_is, provided_so, told_so, or_later_so, by_else, by_either, by_try}
use Rattle.rap_grammar_table.proofs.Wholes.{Whole, whole, whole_from}

-- the end of a turn of a loop
on_turn : {t : Table} {l : List Record} {e : List Forest} {y f : Forest} {b : List Forest}
    {h : Bool → Bool → Script Rule} {c d : Bool} (g : Bool → Bool → At → Verdict) (k : Outcome → At → Verdict)
    (v : Outcome) (q : At) (js : List Record) (s : At) (ks : List Record) → Stands t l e y q js →
    next_turn v q g k ≡ accepted →
    Runs script_of (h c d) (spot_at f b e s (ks ++ l)) (spot_at f b e q (js ++ l)) v →
    ((m n : Bool) → g m n q ≡ accepted → Comes t l e y f b k (loop h m n) (spot_at f b e q (js ++ l))) →
    Comes t l e y f b k (loop h c d) (spot_at f b e s (ks ++ l))
on_turn g k nothing q js s ks i o r next =
    record { outcome = nothing; place = q; tokens = js; so = o; stands = i; run = stops r refl }
on_turn g k something q js s ks i o r next =
    record { outcome = something; place = q; tokens = js; so = o; stands = i; run = stops r refl }
on_turn g k block q js s ks i o r next =
    record { outcome = block; place = q; tokens = js; so = o; stands = i; run = stops r refl }
on_turn g k (again m n) q js s ks i o r next = before (λ z v x. turns r x) (next m n o)

-- a turn, and the loop goes on or not
turn_read : (t : Table) (l : List Record) (e : List Forest) (y f : Forest) (b : List Forest)
    (h : Bool → Bool → Script Rule) (g : Turn) →
    ((c d : Bool) (s : At) (k : Outcome → At → Verdict) (ks : List Record) → Stands t l e y s ks →
    g c d s k ≡ accepted → Comes t l e y f b k (h c d) (spot_at f b e s (ks ++ l))) → (r : Bool → Bool → At → Verdict)
    (k : Outcome → At → Verdict) →
    ((c d : Bool) (s : At) (ks : List Record) → Stands t l e y s ks → r c d s ≡ accepted →
    Comes t l e y f b k (loop h c d) (spot_at f b e s (ks ++ l))) → (c d : Bool) (s : At) (ks : List Record) →
    Stands t l e y s ks → one_turn g r c d s k ≡ accepted →
    Comes t l e y f b k (loop h c d) (spot_at f b e s (ks ++ l))
turn_read t l e y f b h g sound r k next c d s ks st w =
    let z = sound c d s (λ v q. next_turn v q r k) ks st w in
    on_turn {h = h} r k z.outcome z.place z.tokens s ks z.stands z.so z.run
    (λ m i o. next m i z.place z.tokens z.stands o)

-- what goes on with a loop
abbrev GoesOn : Table → List Record → List Forest → Forest → Forest → List Forest → (Bool → Bool → Script Rule) →
    Turn → Type 0
GoesOn t l e y f b h on =
    (c d : Bool) (s : At) (k : Outcome → At → Verdict) (ks : List Record) → Stands t l e y s ks →
    on c d s k ≡ accepted → Comes t l e y f b k (loop h c d) (spot_at f b e s (ks ++ l))

-- what reads all turns of a row at once, where they come first, and goes on with the loop
abbrev AtOnce : Table → List Record → List Forest → Forest → Forest → List Forest → (Bool → Bool → Script Rule) →
    (Turn → Turn) → Type 0
AtOnce t l e y f b h r =
    (on : Turn) → GoesOn t l e y f b h on → (c d : Bool) (s : At) (k : Outcome → At → Verdict) (ks : List Record)
    (is : Items) (x : Built) (xs : List Built) → Stands t l e y (with_row s is x xs) ks →
    r on c d (with_row s is x xs) k ≡ accepted → Comes t l e y f b k (loop h c d) (spot_at f b e s (ks ++ l))

-- turns of a loop
pub turned : (t : Table) (x : List (List Place)) (l : List Record) (e : List Forest) (y f : Forest) (b : List Forest) →
    Sees x l → (h : Bool → Bool → Script Rule) (g : Turn) (r : Turn → Turn) →
    ((c d : Bool) (s : At) (k : Outcome → At → Verdict) (ks : List Record) → Stands t l e y s ks →
    g c d s k ≡ accepted → Comes t l e y f b k (h c d) (spot_at f b e s (ks ++ l))) → AtOnce t l e y f b h r →
    (n : ℕ) (c d : Bool) (s : At) (k : Outcome → At → Verdict) (ks : List Record) → Stands t l e y s ks →
    turning t x n g r c d s k ≡ accepted → Comes t l e y f b k (loop h c d) (spot_at f b e s (ks ++ l))
turned t x l e y f b i h g r sound all zero c d s k ks st w = absurd cc
turned t x l e y f b i h g r sound all (suc n) c d s k ks st w =
    let next : Bool → Bool → At → Verdict = λ c d z. turning t x n g r c d z k in
    let on : Turn = λ c d z m. turning t x n g r c d z m in
    let goes : GoesOn t l e y f b h on =
    λ c d s k ks st v. turned t x l e y f b i h g r sound all n c d s k ks st v in
    let one : (q : At) → Stands t l e y q ks → one_turn g next c d q k ≡ accepted →
    Comes t l e y f b k (loop h c d) (spot_at f b e q (ks ++ l)) =
    λ q st v. turn_read t l e y f b h g sound next k
    (λ m o s ks st v. turned t x l e y f b i h g r sound all n m o s k ks st v) c d q ks st v
    in
    by_try (at_repeat s.items)
    (λ u. expose t x s (λ q. turns_first (r on) (λ u. one_turn g next c d q k) c d q k))
    (λ u. one_turn g next c d s k) w
    (λ v.
    let z =
    exposed_at t x l e y i s ks
    (λ is z zs. turns_first (r on) (λ u. one_turn g next c d (with_row s is z zs) k) c d (with_row s is z zs) k) st v
    in
    let q = with_row s z.items z.row z.rows in
    let st' = on_items st z.items z.row z.rows z.made in
    by_either (is_repeat z.items) (λ u. r on c d q k) (λ u. one_turn g next c d q k) z.so
    (λ o v. all on goes c d s k ks z.items z.row z.rows st' v) (λ v. one q st' v))
    (λ v. one s st v)

of_flags : (k : Bool → Bool → Verdict) (xs : List Flags) (a b : Bool) → every_flags k xs ≡ accepted →
    flags_in xs a b ≡ true → k a b ≡ accepted
of_flags k [] a b h i = absurd cc
of_flags k (x ∷ xs) a b h i =
    by_or (same_flag x.0 a && same_flag x.1 b) (flags_in xs a b) i
    (λ j. rw (sym (same_flags x.0 a (and_left (same_flag x.0 a) _ j)), sym (same_flags x.1 b (and_right (same_flag x.0 a) _ j)))
    (both_left (k x.0 x.1) _ h))
    (λ j. of_flags k xs a b (both_right (k x.0 x.1) _ h) j)

-- what walks a turn, before any tokens
abbrev pub Walker : Table → (Bool → Bool → Script Rule) → (List (List Place) → Turn) → Type 0
Walker t h w =
    (g : List (List Place)) (l : List Record) (e : List Forest) (y f : Forest) (b : List Forest) → Sees g l →
    (c d : Bool) (s : At) (k : Outcome → At → Verdict) (ks : List Record) → Stands t l e y s ks →
    w g c d s k ≡ accepted → Comes t l e y f b k (h c d) (spot_at f b e s (ks ++ l))

-- after a turn that goes on
one_more : {h : Bool → Bool → Script Rule} {c d : Bool} (k : Outcome → Verdict) (xs : List Flags) (v : Outcome)
    (ks js : List Record) (x y : Forest) (l : List Record) (f : Forest) (b : List Forest) → goes_on_in xs v ≡ true →
    Runs script_of (h c d) (record { rest = ks ++ (js ++ l); forest = f; below = b })
    (record { rest = js ++ l; forest = f ⧺ x; below = b }) v →
    ((m n : Bool) → flags_in xs m n ≡ true → Whole k (loop h m n) js y l (f ⧺ x) b) →
    Whole k (loop h c d) (ks ++ js) (x ⧺ y) l f b
one_more k xs nothing ks js x y l f b w r g = absurd cc
one_more k xs something ks js x y l f b w r g = absurd cc
one_more k xs block ks js x y l f b w r g = absurd cc
one_more k xs (again m n) ks js x y l f b w r g =
    let z = g m n w in
    record {
      outcome = z.outcome;
      so = z.so;
      run = rw (append_assoc ks js l, sym (⧺-assoc f x y)) (turns r z.run);
    }

-- where there are no more turns, none are read at once
none_at_once : (t : Table) (l : List Record) (e : List Forest) (y f : Forest) (b : List Forest)
    (h : Bool → Bool → Script Rule) → AtOnce t l e y f b h no_turns
none_at_once t l e y f b h on goes c d s k ks is x xs st v = absurd cc

-- what stands after the turns
last_read : (t : Table) (h : Bool → Bool → Script Rule) (w : List (List Place) → Turn) → Walker t h w → (z : Items)
    (g : List (List Place)) (xs : List Flags) (k : Outcome → Verdict) → last_so t g (w g) z k xs ≡ accepted →
    {l : List Record} {us : List Forest} {ks : List Record} {x : Forest} → Made t l z none [] us ks x → Sees g l →
    (c d : Bool) → flags_in xs c d ≡ true → (f : Forest) (b : List Forest) → Whole k (loop h c d) ks x l f b
last_read t h w sound z g xs k j {l = l} {us = us} {ks = ks} {x = x} m s c d o f b =
    whole t g l us x f b k (loop h c d) ks s
    (turned t g l us x f b s h (w g) no_turns (λ c d s' k ks st v. sound g l us x f b s c d s' k ks st v)
    (none_at_once t l us x f b h) most_turns c d (at_start z)
    (then_ends t g k) ks (record { left = us; left_is = refl; made = m; nodes = (tt, tt); facts = tt })
    (told_so (after_turns c d) (turning t g most_turns (w g) no_turns c d (at_start z) (then_ends t g k))
    (of_flags
    (λ c d. told_with (after_turns c d) (turning t g most_turns (w g) no_turns c d (at_start z) (then_ends t g k)))
    xs c d j o)))

-- any number of turns, and what stands last
loops : (t : Table) (h : Bool → Bool → Script Rule) (w : List (List Place) → Turn) → Walker t h w → (a z : Items)
    (g : List (List Place)) (xs : List Flags) (k : Outcome → Verdict) →
    turn_so t (look t a anything ++ look t z g) (w (look t a anything ++ look t z g)) a xs ≡ accepted →
    last_so t g (w g) z k xs ≡ accepted →
    {l : List Record} {ks : List Record} {u : Forest} → Made t l (turns_of a z) none [] [] ks u → Sees g l →
    (c d : Bool) → flags_in xs c d ≡ true → (f : Forest) (b : List Forest) → Whole k (loop h c d) ks u l f b
loops t h w sound a z g xs k i j (made_last m) s c d o f b = last_read t h w sound z g xs k j m s c d o f b
loops t h w sound a z g xs k i j {l = l} (made_turn {x = x} {y = y} {us = us} {ks = ks} {js = js} m n) s c d o f b =
    let r = look t a anything ++ look t z g in
    let q =
    whole t r (js ++ l) us x f b (λ v. check (goes_on_in xs v) (goes_on_as v)) (h c d) ks (seen t g n s)
    (sound r (js ++ l) us x f b (seen t g n s) c d (at_start a) (turn_ends t r xs) ks
    (record { left = us; left_is = refl; made = m; nodes = (tt, tt); facts = tt })
    (told_so (in_turn c d) (w r c d (at_start a) (turn_ends t r xs))
    (of_flags (λ c d. told_with (in_turn c d) (w r c d (at_start a) (turn_ends t r xs))) xs c d i o)))
    in
    one_more {h = h} k xs q.outcome ks js x y l f b (check_so (goes_on_in xs q.outcome) (goes_on_as q.outcome) q.so) q.run
    (λ m' n' o'. loops t h w sound a z g xs k i j n s m' n' o' (f ⧺ x) b)

-- a guess that is right
record Found (f k : List Flags → Verdict) : Type 0 where
  flags : List Flags
  is_so : f flags ≡ accepted
  so : k flags ≡ accepted

found : (f : List Flags → Verdict) (gs : List (List Flags)) (k : List Flags → Verdict) → first_so f gs k ≡ accepted →
    Found f k
found f [] k w = absurd cc
found f (x ∷ xs) k w =
    by_else (f x) (λ u. k x) (λ r. or_later r (first_so f xs k)) w (λ i j. record { flags = x; is_so = i; so = j })
    (λ r i. found f xs k (or_later_so r (first_so f xs k) i))

-- the turns of a row that come first
record Turns (t : Table) (l : List Record) (a z is : Items) (x : Forest) (xs us : List Forest) (ks : List Record)
    (y : Forest) : Type 0 where
  own : List Record
  rest : List Record
  tree_is : Forest
  trees : List Forest
  tokens : ks ≡ own ++ rest
  all : us ≡ tree_is ∷ trees
  turns_made : Made t (rest ++ l) (turns_of a z) none [] [] own tree_is
  made : Made t l is (x ⧺ tree_is) xs trees rest y

repeat_inv : {t : Table} {l : List Record} {a z is : Items} {x y : Forest} {xs us : List Forest} {ks : List Record} →
    Made t l (repeat a z is) x xs us ks y → Turns t l a z is x xs us ks y
repeat_inv (made_repeat {u = u} {us = us} {ks = ks} {js = js} m n) =
    record { own = ks; rest = js; tree_is = u; trees = us; tokens = refl; all = refl; turns_made = m; made = n }

-- the flags are those of a guess, and the turns are so
abbrev GuessSo : List Flags → Bool → Bool → Verdict → Verdict
GuessSo xs c d v = both (check (flags_in xs c d) (goes_on_as (again c d))) v

guess_in : (xs : List Flags) (c d : Bool) (v : Verdict) → GuessSo xs c d v ≡ accepted → flags_in xs c d ≡ true
guess_in xs c d v h =
    check_so (flags_in xs c d) (goes_on_as (again c d)) (both_left (check (flags_in xs c d) (goes_on_as (again c d))) v h)

guess_so : (xs : List Flags) (c d : Bool) (v : Verdict) → GuessSo xs c d v ≡ accepted → v ≡ accepted
guess_so xs c d v h = both_right (check (flags_in xs c d) (goes_on_as (again c d))) v h

-- the same run between the same places, as they are written otherwise
moved : (a : Script Rule) (own rest l ks : List Record) (x x' z z' u' u : Forest) (b : List Forest) (v : Outcome) →
    ks ≡ own ++ rest → x ≡ x' → z ≡ z' → u' ≡ u →
    Runs script_of a (record { rest = own ++ (rest ++ l); forest = x'; below = b })
    (record { rest = rest ++ l; forest = z' ⧺ u; below = b }) v →
    Runs script_of a (record { rest = ks ++ l; forest = x; below = b })
    (record { rest = rest ++ l; forest = z ⧺ u'; below = b }) v
moved a own rest l ks x x' z z' u' u b v h i j k r = rw (h, append_assoc own rest l, i, j, k) r

repeat_read : (t : Table) (g : List (List Place)) (l : List Record) (e : List Forest) (y f : Forest) (b : List Forest) →
    Sees g l → (h : Bool → Bool → Script Rule) (w : List (List Place) → Turn) → Walker t h w → (on : Turn) → (c d : Bool) (s : At)
    (k : Outcome → At → Verdict) {ks : List Record} {left : List Forest} → AreNodes e s.nodes → drop s.count e ≡ left →
    (a z is : Items) (x : Built) (xs : List Built) →
    Turns t l a z is (value none e x) (values none e [] xs) left ks y →
    repeating w t g on (repeat a z is) c d (with_row s (repeat a z is) x xs) k ≡ accepted →
    Comes t l e y f b k (loop h c d) (spot_at f b e s (ks ++ l))
repeat_read t g l e y f b i h w sound on c d s k {ks = ks} ns o a z is x xs u v =
    let n = look t is g in
    let r = look t a anything ++ look t z n in
    let place = after_piece (with_row s (repeat a z is) x xs) is false in
    let q =
    found (λ xs. GuessSo xs c d (turn_so t r (w r) a xs)) (guesses c d)
    (λ xs. last_so t n (w n) z (λ v. k v place) xs) v
    in
    let z' =
    loops t h w sound a z n q.flags (λ v. k v place) (guess_so q.flags c d (turn_so t r (w r) a q.flags) q.is_so) q.so
    u.turns_made (seen t g u.made i) c d (guess_in q.flags c d (turn_so t r (w r) a q.flags) q.is_so)
    (value f e s.own) (values f e b s.owns)
    in
    let j = o ∙ u.all in
    let same_tree = drop_first s.count e u.tree_is u.trees j in
    record {
      outcome = z'.outcome;
      place = place;
      tokens = u.rest;
      so = z'.so;
      stands =
          record {
            left = u.trees;
            left_is = drop_more s.count e u.tree_is u.trees j;
            made = rw same_tree u.made;
            nodes = ns;
            facts = tt;
          };
      run =
          moved (loop h c d) u.own u.rest l ks (value f e s.own) (value f e s.own) (value f e s.own) (value f e s.own)
          (tree_of e s.count) u.tree_is (values f e b s.owns) z'.outcome u.tokens refl refl same_tree z'.run;
    }

-- a turn that puts a node around another goes on
fold_on : {t : Table} {l js : List Record} {e : List Forest} {y f v : Forest} {b bs : List Forest}
    {k : Outcome → At → Verdict} {h : Bool → Bool → Script Rule} {c d : Bool} {p : Spot} (xs : List Flags)
    (w : Outcome) → goes_on_in xs w ≡ true →
    Runs script_of (h c d) p (record { rest = js; forest = v; below = bs }) w →
    ((m n : Bool) → flags_in xs m n ≡ true →
    Comes t l e y f b k (loop h m n) (record { rest = js; forest = v; below = bs })) →
    Comes t l e y f b k (loop h c d) p
fold_on xs nothing o r next = absurd cc
fold_on xs something o r next = absurd cc
fold_on xs block o r next = absurd cc
fold_on xs (again m n) o r next = before (λ z v x. turns r x) (next m n o)

-- each of the ways is so
way_so : (t : Table) (r : ℕ → List (List Place)) (f : List (List Place) → Turn) (xs : List Flags) {ws a : Items}
    {js : List ℕ} {m : ℕ} → HasWay ws js a m → ways_so t r f xs ws ≡ accepted → fold_turn_so t (r m) (f (r m)) a xs ≡ accepted
way_so t r f xs (first_turn {m = m} {a = a}) h = both_left (fold_turn_so t (r m) (f (r m)) a xs) _ h
way_so t r f xs (other_turn {n = n} {b = b} w) h =
    way_so t r f xs w (both_right (fold_turn_so t (r n) (f (r n)) b xs) _ h)

-- Nodes that are put around one, one after another, and then the loop goes on.
fold_loops : {t : Table} {l' : List Record} {e : List Forest} {y f' : Forest} {b' : List Forest}
    {k : Outcome → At → Verdict} (h : Bool → Bool → Script Rule) (w : List (List Place) → Turn) → Walker t h w →
    (ws : Items) (g : List (List Place)) (xs : List Flags) → ways_so t (after_way t ws g) w xs ws ≡ accepted →
    {n : ℕ} {l ks : List Record} {x u : Forest} → Made t l (folding n ws) x [] [] ks u → IsNode x → Sees g l →
    (f : Forest) (bs : List Forest) →
    ((c d : Bool) → flags_in xs c d ≡ true →
    Comes t l' e y f' b' k (loop h c d) (record { rest = l; forest = f ⧺ u; below = bs })) → (c d : Bool) →
    flags_in xs c d ≡ true →
    Comes t l' e y f' b' k (loop h c d) (record { rest = ks ++ l; forest = f ⧺ x; below = bs })
fold_loops h w sound ws g xs i made_folded_none q s f bs next c d o = next c d o
fold_loops {t = t} h w sound ws g xs i {l = l}
    (made_folded_more {m = m} {k = kind} {a = a} {x = x} {c = cs} {vs = vs} {ks = ks} {js = js} hw less made more)
    q s f bs next c d o =
    let r = after_way t ws g m in
    let v = node none kind cs in
    let sees = seen t g more s in
    let start = spot_at f bs (x ∷ vs) (fold_start a) (ks ++ (js ++ l)) in
    let z =
    whole_from t r (js ++ l) (x ∷ vs) v f bs (λ v. check (goes_on_in xs v) (goes_on_as v)) (h c d) start sees
    (sound r (js ++ l) (x ∷ vs) v f bs sees c d (fold_start a) (turn_ends t r xs) ks
    (record {
      left = vs;
      left_is = refl;
      made = subst (λ (z : Forest). Made t (js ++ l) a z (none ∷ []) vs ks v) (sym (none-⧺ x)) made;
      nodes = ((q, tt), tt);
      facts = tt;
    })
    (told_so (in_turn c d) (w r c d (fold_start a) (turn_ends t r xs))
    (of_flags (λ c d. told_with (in_turn c d) (w r c d (fold_start a) (turn_ends t r xs))) xs c d
    (way_so t (after_way t ws g) w xs hw i) o)))
    in
    rw (append_assoc ks js l)
    (fold_on {h = h} xs z.outcome (check_so (goes_on_in xs z.outcome) (goes_on_as z.outcome) z.so) z.run
    (λ c d o. fold_loops h w sound ws g xs i more (record { kind = kind; children = cs; node_is = refl }) s f bs next c d o))

-- the folded nodes of a row that come first
record Folds (t : Table) (l : List Record) (n j : ℕ) (ws is : Items) (c x : Forest) (xs us : List Forest)
    (ks : List Record) (y : Forest) : Type 0 where
  own : List Record
  rest : List Record
  tree_is : Forest
  trees : List Forest
  tokens : ks ≡ own ++ rest
  all : us ≡ tree_is ∷ trees
  folds_made : Made t (rest ++ l) (folding n ws) (node none j c) [] [] own tree_is
  made : Made t l is (x ⧺ tree_is) xs trees rest y

folds_inv : {t : Table} {l : List Record} {n j : ℕ} {ws is : Items} {c x y : Forest} {xs us : List Forest}
    {ks : List Record} → Made t l (folds n ws is) (node x j c) xs us ks y → Folds t l n j ws is c x xs us ks y
folds_inv (made_folds {u = u} {us = us} {ks = ks} {js = js} m n) =
    record { own = ks; rest = js; tree_is = u; trees = us; tokens = refl; all = refl; folds_made = m; made = n }

-- the last tree of the row and of the script is one node
record LastNode (f : Forest) (e : List Forest) (row own : Built) : Type 0 where
  kind : ℕ
  children : Forest
  row_is : value none e row ≡ node (value none e (under row)) kind children
  own_is : value f e own ≡ node (value f e (under own)) kind children

last_node : (f : Forest) (e : List Forest) (ns : List ℕ × List ℕ) → AreNodes e ns → (row own : Built) →
    last_same ns.0 row own ≡ true → LastNode f e row own
last_node f e ns n (over a k c) (over b j d) h =
    let i = and_right (k == j) _ h in
    let kj = same_number k j (and_left (k == j) _ h) in
    let cd = same_built c d (and_left (same c d) _ i) in
    record {
      kind = k;
      children = value none e c;
      row_is = refl;
      own_is =
          rw (sym kj)
          (ap (λ (z : Forest). node (value f e b) k z)
          (ap (λ (z : Built). value f e z) (sym cd) ∙ own-value f e c (and_right (same c d) _ i)));
    }
last_node f e ns n (tree a i) (tree b j) h =
    let one = node_at e ns i n (and_right (i == j) _ h) in
    record {
      kind = one.kind;
      children = one.children;
      row_is = ap (λ (z : Forest). value none e a ⧺ z) one.node_is;
      own_is =
          ap (λ (m : ℕ). value f e b ⧺ tree_of e m) (sym (same_number i j (and_left (i == j) _ h))) ∙
          ap (λ (z : Forest). value f e b ⧺ z) one.node_is;
    }
last_node f e ns n row own h = absurd cc

fold_read : (t : Table) (g : List (List Place)) (l : List Record) (e : List Forest) (y f : Forest) (b : List Forest) →
    Sees g l → (h : Bool → Bool → Script Rule) (w : List (List Place) → Turn) → Walker t h w → (on : Turn) →
    GoesOn t l e y f b h on → (c d : Bool) (s : At) (k : Outcome → At → Verdict) {ks : List Record}
    {left : List Forest} → AreNodes e s.nodes → drop s.count e ≡ left → (n : ℕ) (ws is : Items) (x : Built)
    (xs : List Built) (la : LastNode f e x s.own) →
    Folds t l n la.kind ws is la.children (value none e (under x)) (values none e [] xs) left ks y →
    folds_so w t g on c d (with_row s (folds n ws is) x xs) n ws is k ≡ accepted →
    Comes t l e y f b k (loop h c d) (spot_at f b e s (ks ++ l))
fold_read t g l e y f b i h w sound on goes c d s k {ks = ks} ns o n ws is x xs la u v =
    let m = look t is g in
    let place = after_fold (with_row s (folds n ws is) x xs) is in
    let first : List Flags → Verdict = λ xs. GuessSo xs c d (ways_so t (after_way t ws m) w xs ws) in
    let q = found first (guesses c d) (λ xs. goes_on_after on xs place k) v in
    let j = o ∙ u.all in
    let same_tree = drop_first s.count e u.tree_is u.trees j in
    let older = value f e (under s.own) in
    let last : IsNode (node none la.kind la.children) =
    record { kind = la.kind; children = la.children; node_is = refl } in
    let st : Stands t l e y place u.rest =
    record {
      left = u.trees;
      left_is = drop_more s.count e u.tree_is u.trees j;
      made = rw same_tree u.made;
      nodes = ((rw same_tree (folded_node u.folds_made last), ns.0), ns.1);
      facts = tt;
    }
    in
    let z =
    fold_loops h w sound ws m q.flags
    (guess_so q.flags c d (ways_so t (after_way t ws m) w q.flags ws) q.is_so) u.folds_made last (seen t g u.made i) older
    (values f e b s.owns)
    (λ c d o. subst
    (λ (z : Forest). Comes t l e y f b k (loop h c d) (record { rest = u.rest ++ l; forest = z; below = values f e b s.owns }))
    (ap (λ (z : Forest). older ⧺ z) same_tree)
    (goes c d place k u.rest st
    (told_so (after_turns c d) (on c d place k)
    (of_flags (λ c d. told_with (after_turns c d) (on c d place k)) q.flags c d q.so o))))
    c d (guess_in q.flags c d (ways_so t (after_way t ws m) w q.flags ws) q.is_so)
    in
    subst (λ (p : Spot). Comes t l e y f b k (loop h c d) p)
    (same_spot (u.own ++ (u.rest ++ l)) (ks ++ l) (older ⧺ node none la.kind la.children) (value f e s.own)
    (values f e b s.owns) (values f e b s.owns)
    (sym (ap (λ (js : List Record). js ++ l) u.tokens ∙ append_assoc u.own u.rest l)) (sym la.own_is) refl) z

folds_row : (t : Table) (g : List (List Place)) (l : List Record) (e : List Forest) (y f : Forest) (b : List Forest) →
    Sees g l → (h : Bool → Bool → Script Rule) (w : List (List Place) → Turn) → Walker t h w → (on : Turn) →
    GoesOn t l e y f b h on → (c d : Bool) (s : At) (k : Outcome → At → Verdict) (ks : List Record)
    (left : List Forest) → AreNodes e s.nodes → drop s.count e ≡ left → (n : ℕ) (ws is : Items) (x : Built)
    (xs : List Built) → Made t l (folds n ws is) (value none e x) (values none e [] xs) left ks y →
    repeating w t g on (folds n ws is) c d (with_row s (folds n ws is) x xs) k ≡ accepted →
    Comes t l e y f b k (loop h c d) (spot_at f b e s (ks ++ l))
folds_row t g l e y f b i h w sound on goes c d s k ks left ns o n ws is x xs m v =
    let why = stopped refusal.turns (folds n ws is) in
    let all : Unit {0} → Verdict = λ u. folds_so w t g on c d (with_row s (folds n ws is) x xs) n ws is k in
    let la = last_node f e s.nodes ns x s.own (provided_is (last_same s.nodes.0 x s.own) why all v) in
    fold_read t g l e y f b i h w sound on goes c d s k ns o n ws is x xs la
    (folds_inv (subst (λ (z : Forest). Made t l (folds n ws is) z (values none e [] xs) left ks y) la.row_is m))
    (provided_so (last_same s.nodes.0 x s.own) why all v)

-- the loop that reads them
repeats : (t : Table) (g : List (List Place)) (l : List Record) (e : List Forest) (y f : Forest) (b : List Forest) →
    Sees g l → (h : Bool → Bool → Script Rule) (w : List (List Place) → Turn) → Walker t h w → (on : Turn) →
    GoesOn t l e y f b h on → (c d : Bool) (s : At) (k : Outcome → At → Verdict) (ks : List Record)
    (left : List Forest) → AreNodes e s.nodes → drop s.count e ≡ left → (is : Items) (x : Built) (xs : List Built) →
    Made t l is (value none e x) (values none e [] xs) left ks y →
    repeating w t g on is c d (with_row s is x xs) k ≡ accepted →
    Comes t l e y f b k (loop h c d) (spot_at f b e s (ks ++ l))
repeats t g l e y f b i h w sound on goes c d s k ks left ns o (folds n ws is) x xs m v =
    folds_row t g l e y f b i h w sound on goes c d s k ks left ns o n ws is x xs m v
repeats t g l e y f b i h w sound on goes c d s k ks left ns o (repeat a z is) x xs m v =
    repeat_read t g l e y f b i h w sound on c d s k ns o a z is x xs (repeat_inv m) v
repeats t g l e y f b i h w sound on goes c d s k ks left ns o is x xs m v = absurd cc

pub all_at_once : (t : Table) (g : List (List Place)) (l : List Record) (e : List Forest) (y f : Forest)
    (b : List Forest) → Sees g l → (h : Bool → Bool → Script Rule) (w : List (List Place) → Turn) → Walker t h w →
    AtOnce t l e y f b h (λ on c d q m. repeating w t g on q.items c d q m)
all_at_once t g l e y f b i h w sound on goes c d s k ks is x xs st v =
    repeats t g l e y f b i h w sound on goes c d s k ks st.left st.nodes st.left_is is x xs st.made v
