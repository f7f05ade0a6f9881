-- The ways of a row: its first piece, and the choices that are made before a test.
use Rattle.std.proofs.Common.{◌≡◌, ℕ, zero, suc, Bool, true, false, List, [], ◌∷◌, ◌++◌, refl}
use Rattle.rap_events.specs.Forest.{Forest, none, node, ◌⧺◌}
use Rattle.rap_events.specs.Record.{Record}
use Rattle.rap_grammar_scripts.specs.Script.{Script, Outcome, passes, fails, test}
use Rattle.rap_grammar_scripts.specs.Test.{Test, holds}
use Rattle.rap_grammar_scripts.specs.declared.rule.Rule.{Rule}
use Rattle.rap_grammar_table.proofs.Built.{Built, empty, over, At, with_row, with_facts}
use Rattle.rap_grammar_table.proofs.Good.{Good, Made, made_end, made_begin, made_close, made_piece, made_first, made_second, made_last, made_turn, made_repeat, made_group, made_folded_none, made_folded_more, made_folds, made_guarded}
use Rattle.rap_grammar_table.specs.Known.{Answer, sure, never, unclear, Place, agrees, Sees}
use Rattle.rap_grammar_table.proofs.Look.{look, depth}
use Rattle.rap_grammar_table.proofs.Narrow.{Fact, left_by, AreSo, looks_on}
use Rattle.rap_grammar_table.proofs.Refusal.{where_so, Verdict, accepted, in_case}
use Rattle.rap_grammar_table.proofs.Hints.{Table}
use Rattle.rap_grammar_table.specs.Table.{Piece, Items, nil, begin, close, piece, choice, repeat, turns_of, group, folds, folding, way, unless, appended}
use Rattle.rap_grammar_table.proofs.Ways.{some_way, may_be, exposed, ahead, settled, forked, by_answer, answer_at, both_ways, by_known, undecided, tested}
use Rattle.rap_grammar_table.proofs.Known.{agrees_all, not_true, by_truth}
use Rattle.rap_grammar_table.proofs.LookLaws.{seen}
use Rattle.rap_grammar_table.proofs.NarrowLaws.{left_sees}
use Rattle.rap_grammar_table.proofs.Values.{value, values, spot_at, Stands, Comes, before}
use Rattle.rap_grammar_table.proofs.Verdict.{both_left, both_right, in_case_so, told_so, by_first, by_second}

-- what a row is made of may be
some_so : (ps : List (List Place)) (rs : List Record) → Sees ps rs → some_way ps ≡ true
some_so [] rs s = elim s [ ]
some_so (p ∷ ps) rs s = refl

pub may_be_so : (t : Table) {l : List Record} (g : List (List Place)) (fs : List Fact) {is : Items} {x y : Forest}
    {xs us : List Forest} {ks : List Record} → Made t l is x xs us ks y → Sees g l → AreSo fs (ks ++ l) →
    may_be t g fs is ≡ true
may_be_so t g [] m s a = refl
may_be_so t {l = l} g (z ∷ fs) {is = is} {ks = ks} m s a =
    some_so (left_by (z ∷ fs) (look t is g)) (ks ++ l) (left_sees (z ∷ fs) (look t is g) (ks ++ l) a (seen t g m s))

-- what a row is made of, by what stands first
begin_inv : {t : Table} {l : List Record} {is : Items} {x y : Forest} {xs us : List Forest} {ks : List Record} →
    Made t l (begin is) x xs us ks y → Made t l is none (x ∷ xs) us ks y
begin_inv (made_begin m) = m

close_inv : {t : Table} {l : List Record} {k : ℕ} {is : Items} {x y z : Forest} {xs us : List Forest}
    {ks : List Record} → Made t l (close k is) x (z ∷ xs) us ks y → Made t l is (node z k x) xs us ks y
close_inv (made_close m) = m

unless_inv : {t : Table} {l : List Record} {h : Test} {w : List (List Place)} {is : Items} {x y : Forest} {xs us : List Forest}
    {ks : List Record} → Made t l (unless h w is) x xs us ks y → Made t l is x xs us ks y
unless_inv (made_guarded e m) = m

by_way : {A : Type 0} {t : Table} {l : List Record} {a b is : Items} {x y : Forest} {xs us : List Forest}
    {ks : List Record} → Made t l (choice a b is) x xs us ks y →
    (Made t l (appended a is) x xs us ks y → A) → (Made t l (appended b is) x xs us ks y → A) → A
by_way (made_first m) f g = f m
by_way (made_second m) f g = g m

-- the first piece
pub record Exposed (t : Table) (l : List Record) (e : List Forest) (k : Items → Built → List Built → Verdict)
    (us : List Forest) (ks : List Record) (y : Forest) : Type 0 where
  pub items : Items
  pub row : Built
  pub rows : List Built
  pub so : k items row rows ≡ accepted
  pub made : Made t l items (value none e row) (values none e [] rows) us ks y

pub exposes : (t : Table) (g : List (List Place)) (l : List Record) (e : List Forest) → Sees g l → (fs : List Fact)
    (d : ℕ) (is : Items) (x : Built) (xs : List Built) (k : Items → Built → List Built → Verdict) (us : List Forest)
    (ks : List Record) (y : Forest) → AreSo fs (ks ++ l) →
    Made t l is (value none e x) (values none e [] xs) us ks y → exposed t g fs d is x xs k ≡ accepted →
    Exposed t l e k us ks y
exposes t g l e s fs zero is x xs k us ks y a m w = absurd cc
exposes t g l e s fs (suc d) nil x xs k us ks y a m w = record { items = nil; row = x; rows = xs; so = w; made = m }
exposes t g l e s fs (suc d) (begin is) x xs k us ks y a m w =
    exposes t g l e s fs d is empty (x ∷ xs) k us ks y a (begin_inv m) w
exposes t g l e s fs (suc d) (close kind is) x [] k us ks y a m w = absurd cc
exposes t g l e s fs (suc d) (close kind is) x (z ∷ xs) k us ks y a m w =
    exposes t g l e s fs d is (over z kind x) xs k us ks y a (close_inv m) w
exposes t g l e s fs (suc d) (piece p is) x xs k us ks y a m w =
    record { items = piece p is; row = x; rows = xs; so = w; made = m }
exposes t g l e s fs (suc d) (choice b c is) x xs k us ks y a m w =
    by_way m
    (λ n. exposes t g l e s fs d (appended b is) x xs k us ks y a n
    (in_case_so (may_be t g fs (appended b is)) (λ u. exposed t g fs d (appended b is) x xs k)
    (may_be_so t g fs n s a) (both_left _ _ w)))
    (λ n. exposes t g l e s fs d (appended c is) x xs k us ks y a n
    (in_case_so (may_be t g fs (appended c is)) (λ u. exposed t g fs d (appended c is) x xs k)
    (may_be_so t g fs n s a)
    (both_right (in_case (may_be t g fs (appended b is)) (λ u. exposed t g fs d (appended b is) x xs k)) _ w)))
exposes t g l e s fs (suc d) (repeat b z is) x xs k us ks y a m w =
    record { items = repeat b z is; row = x; rows = xs; so = w; made = m }
exposes t g l e s fs (suc d) (turns_of b z) x xs k us ks y a m w = absurd cc
exposes t g l e s fs (suc d) (group b is) x xs k us ks y a m w =
    record { items = group b is; row = x; rows = xs; so = w; made = m }
exposes t g l e s fs (suc d) (folds j b is) x xs k us ks y a m w =
    record { items = folds j b is; row = x; rows = xs; so = w; made = m }
exposes t g l e s fs (suc d) (folding j b) x xs k us ks y a m w = absurd cc
exposes t g l e s fs (suc d) (way i b j ws) x xs k us ks y a m w = absurd cc
exposes t g l e s fs (suc d) (unless h v is) x xs k us ks y a m w =
    exposes t g l e s fs d is x xs k us ks y a (unless_inv m) w

-- the same of where a walk is
pub exposed_at : (t : Table) (g : List (List Place)) (l : List Record) (e : List Forest) (y : Forest) → Sees g l →
    (s : At) (ks : List Record) (k : Items → Built → List Built → Verdict) (st : Stands t l e y s ks) →
    exposed t g s.facts depth s.items s.row s.rows k ≡ accepted → Exposed t l e k st.left ks y
exposed_at t g l e y i s ks k st w =
    exposes t g l e i s.facts depth s.items s.row s.rows k st.left ks y st.facts st.made w

-- where the walk is at these items, which are exposed
pub on_items : {t : Table} {l : List Record} {e : List Forest} {y : Forest} {s : At} {ks : List Record} →
    (st : Stands t l e y s ks) (is : Items) (x : Built) (xs : List Built) →
    Made t l is (value none e x) (values none e [] xs) st.left ks y → Stands t l e y (with_row s is x xs) ks
on_items st is x xs m =
    record { left = st.left; left_is = st.left_is; made = m; nodes = st.nodes; facts = st.facts }

-- choices that are made
record Chosen (t : Table) (l : List Record) (k : Items → Verdict) (x : Forest) (xs us : List Forest) (ks : List Record)
    (y : Forest) : Type 0 where
  items : Items
  so : k items ≡ accepted
  made : Made t l items x xs us ks y

with_begin : {t : Table} {l : List Record} {k : Items → Verdict} {x y : Forest} {xs us : List Forest}
    {ks : List Record} → Chosen t l (λ js. k (begin js)) none (x ∷ xs) us ks y → Chosen t l k x xs us ks y
with_begin c = record { items = begin c.items; so = c.so; made = made_begin c.made }

with_close : {t : Table} {l : List Record} {k : Items → Verdict} {kind : ℕ} {x y z : Forest} {xs us : List Forest}
    {ks : List Record} →
    Chosen t l (λ js. k (close kind js)) (node z kind x) xs us ks y → Chosen t l k x (z ∷ xs) us ks y
with_close {kind = kind} c = record { items = close kind c.items; so = c.so; made = made_close c.made }

with_piece : {t : Table} {l : List Record} {k : Items → Verdict} {p : Piece} {x y u : Forest} {xs us : List Forest}
    {ks js : List Record} → Good t p ks u (js ++ l) →
    Chosen t l (λ is. k (piece p is)) (x ⧺ u) xs us js y → Chosen t l k x xs (u ∷ us) (ks ++ js) y
with_piece {p = p} g c = record { items = piece p c.items; so = c.so; made = made_piece g c.made }

with_unless : {t : Table} {l : List Record} {k : Items → Verdict} (h : Test) (w : List (List Place)) {ks : List Record} {x y : Forest}
    {xs us : List Forest} → holds h (ks ++ l) ≡ false →
    Chosen t l (λ js. k (unless h w js)) x xs us ks y → Chosen t l k x xs us ks y
with_unless h w e c = record { items = unless h w c.items; so = c.so; made = made_guarded e c.made }

chooses : (t : Table) (l : List Record) (d m : ℕ) {is : Items} (k : Items → Verdict) {x : Forest} {xs us : List Forest}
    {ks : List Record} {y : Forest} → Made t l is x xs us ks y → ahead d m is k ≡ accepted → Chosen t l k x xs us ks y
chooses t l zero m k n w = absurd cc
chooses t l (suc d) zero {is = is} k n w = record { items = is; so = w; made = n }
chooses t l (suc d) (suc m) k made_end w = record { items = nil; so = w; made = made_end }
chooses t l (suc d) (suc m) k (made_begin n) w = with_begin (chooses t l d (suc m) (λ js. k (begin js)) n w)
chooses t l (suc d) (suc m) k (made_close {k = kind} n) w =
    with_close {kind = kind} (chooses t l d (suc m) (λ js. k (close kind js)) n w)
chooses t l (suc d) (suc m) k (made_piece {p = p} g n) w = with_piece g (chooses t l d m (λ js. k (piece p js)) n w)
chooses t l (suc d) (suc m) k (made_last {a = a} {z = z} n) w =
    record { items = turns_of a z; so = w; made = made_last n }
chooses t l (suc d) (suc m) k (made_turn {a = a} {z = z} n o) w =
    record { items = turns_of a z; so = w; made = made_turn n o }
chooses t l (suc d) (suc m) k (made_repeat {a = a} {z = z} {is = is} n o) w =
    record { items = repeat a z is; so = w; made = made_repeat n o }
chooses t l (suc d) (suc m) k (made_guarded {h = h} {w = v} e n) w =
    with_unless h v e (chooses t l d (suc m) (λ js. k (unless h v js)) n w)
chooses t l (suc d) (suc m) k (made_folded_none {n = j} {ws = a}) w =
    record { items = folding j a; so = w; made = made_folded_none }
chooses t l (suc d) (suc m) k (made_folded_more {n = j} {ws = a} v i n o) w =
    record { items = folding j a; so = w; made = made_folded_more v i n o }
chooses t l (suc d) (suc m) k (made_folds {n = j} {ws = a} {is = is} n o) w =
    record { items = folds j a is; so = w; made = made_folds n o }
chooses t l (suc d) (suc m) k (made_group {a = a} {is = is} n o) w =
    record { items = group a is; so = w; made = made_group n o }
chooses t l (suc d) (suc m) k (made_first {a = a} {b = b} {is = is} n) w =
    chooses t l d (suc m) k n (both_left _ _ w)
chooses t l (suc d) (suc m) k (made_second {a = a} {b = b} {is = is} n) w =
    chooses t l d (suc m) k n (both_right (ahead d (suc m) (appended a is) k) _ w)

settles : (t : Table) (g : List (List Place)) (l : List Record) (fs : List Fact) (d : ℕ) {is : Items}
    (k : Items → Verdict) {x : Forest} {xs us : List Forest} {ks : List Record} {y : Forest} →
    Made t l is x xs us ks y → Sees g l → AreSo fs (ks ++ l) → settled t g fs d is k ≡ accepted →
    Chosen t l k x xs us ks y
settles t g l fs zero {is = is} k n s a w = record { items = is; so = w; made = n }
settles t g l fs (suc d) k made_end s a w = record { items = nil; so = w; made = made_end }
settles t g l fs (suc d) k (made_begin n) s a w = with_begin (settles t g l fs d (λ js. k (begin js)) n s a w)
settles t g l fs (suc d) k (made_close {k = kind} n) s a w =
    with_close {kind = kind} (settles t g l fs d (λ js. k (close kind js)) n s a w)
settles t g l fs (suc d) k (made_piece {p = p} {is = is} o n) s a w =
    record { items = piece p is; so = w; made = made_piece o n }
settles t g l fs (suc d) k (made_last {a = b} {z = z} n) s a w =
    record { items = turns_of b z; so = w; made = made_last n }
settles t g l fs (suc d) k (made_turn {a = b} {z = z} n o) s a w =
    record { items = turns_of b z; so = w; made = made_turn n o }
settles t g l fs (suc d) k (made_repeat {a = b} {z = z} {is = is} n o) s a w =
    record { items = repeat b z is; so = w; made = made_repeat n o }
settles t g l fs (suc d) k (made_guarded {h = h} {w = v} {is = is} e n) s a w =
    record { items = unless h v is; so = w; made = made_guarded e n }
settles t g l fs (suc d) k (made_folded_none {n = j} {ws = b}) s a w =
    record { items = folding j b; so = w; made = made_folded_none }
settles t g l fs (suc d) k (made_folded_more {n = j} {ws = b} v i n o) s a w =
    record { items = folding j b; so = w; made = made_folded_more v i n o }
settles t g l fs (suc d) k (made_folds {n = j} {ws = b} {is = is} n o) s a w =
    record { items = folds j b is; so = w; made = made_folds n o }
settles t g l fs (suc d) k (made_group {a = b} {is = is} n o) s a w =
    record { items = group b is; so = w; made = made_group n o }
settles t g l fs (suc d) k (made_first {a = b} {b = c} {is = is} n) s a w =
    by_first (may_be t g fs (appended b is)) (may_be t g fs (appended c is)) (λ u. k (choice b c is))
    (λ u. settled t g fs d (appended b is) k) (λ u. settled t g fs d (appended c is) k) (may_be_so t g fs n s a) w
    (λ v. record { items = choice b c is; so = v; made = made_first n }) (λ v. settles t g l fs d k n s a v)
settles t g l fs (suc d) k (made_second {a = b} {b = c} {is = is} n) s a w =
    by_second (may_be t g fs (appended b is)) (may_be t g fs (appended c is)) (λ u. k (choice b c is))
    (λ u. settled t g fs d (appended b is) k) (λ u. settled t g fs d (appended c is) k) (may_be_so t g fs n s a) w
    (λ v. record { items = choice b c is; so = v; made = made_second n }) (λ v. settles t g l fs d k n s a v)

-- by what is known of a test
answered : {A : Type 0} (v : Answer) (x : Bool) (p q r : Unit {0} → Verdict) → agrees v x ≡ true →
    by_answer v p q r ≡ accepted → (x ≡ true → p tt ≡ accepted → A) → (x ≡ false → q tt ≡ accepted → A) →
    (r tt ≡ accepted → A) → A
answered sure x p q r g w on_true on_false on_either = on_true g w
answered never x p q r g w on_true on_false on_either = on_false (not_true x g) w
answered unclear x p q r g w on_true on_false on_either = on_either w

-- a script that comes somewhere from each place where the walk may be
abbrev On : Table → List Record → List Forest → Forest → Forest → List Forest → (Outcome → At → Verdict) →
    Script Rule → List Record → (At → Verdict) → Type 0
On t l e y f b k a ks m =
    (q : At) → Stands t l e y q ks → m q ≡ accepted → Comes t l e y f b k a (spot_at f b e q (ks ++ l))

forks : (t : Table) (g : List (List Place)) (l : List Record) (e : List Forest) (y f : Forest) (b : List Forest) →
    Sees g l → (a : Script Rule) (s : At) (k : Outcome → At → Verdict) (ks : List Record) (m : At → Verdict) →
    On t l e y f b k a ks m → Stands t l e y s ks → (x : Fact) → holds x.test (ks ++ l) ≡ x.answer →
    forked t g x s m ≡ accepted → Comes t l e y f b k a (spot_at f b e s (ks ++ l))
forks t g l e y f b i a s k ks m on st x h w =
    let fs : List Fact = x ∷ s.facts in
    let known : AreSo fs (ks ++ l) = (h, st.facts) in
    let go : Items → Verdict = λ is. m (with_facts (with_row s is s.row s.rows) fs) in
    let may =
    in_case_so (may_be t g fs s.items) (λ u. settled t g fs depth s.items go) (may_be_so t g fs st.made i known)
    (told_so (where_so x.test x.answer)
    (in_case (may_be t g fs s.items) (λ u. settled t g fs depth s.items go)) w)
    in
    let c = settles t g l fs depth go st.made i known may in
    on (with_facts (with_row s c.items s.row s.rows) fs)
    (record { left = st.left; left_is = st.left_is; made = c.made; nodes = st.nodes; facts = known }) c.so

-- the two ways of a test
both_so : (t : Table) (g : List (List Place)) (l : List Record) (e : List Forest) (y f : Forest) (b : List Forest) →
    Sees g l → (h : Test) (a c : Script Rule) (s : At) (k : Outcome → At → Verdict) (ks : List Record)
    (m n : At → Verdict) → On t l e y f b k a ks m → On t l e y f b k c ks n → Stands t l e y s ks →
    both_ways t g h s m n ≡ accepted → Comes t l e y f b k (test h a c) (spot_at f b e s (ks ++ l))
both_so t g l e y f b i h a c s k ks m n on_true on_false st w =
    let yes : Fact = record { test = h; answer = true } in
    let no : Fact = record { test = h; answer = false } in
    by_truth (holds h (ks ++ l))
    (λ x. before (λ z o r. passes x r)
    (forks t g l e y f b i a s k ks m on_true st yes x (both_left (forked t g yes s m) (forked t g no s n) w)))
    (λ x. before (λ z o r. fails x r)
    (forks t g l e y f b i c s k ks n on_false st no x (both_right (forked t g yes s m) (forked t g no s n) w)))

known_so : (t : Table) (g : List (List Place)) (l : List Record) (e : List Forest) (y f : Forest) (b : List Forest) →
    Sees g l → (h : Test) (a c : Script Rule) (s : At) (k : Outcome → At → Verdict) (ks : List Record)
    (m n : At → Verdict) (r : Unit {0} → Verdict) → On t l e y f b k a ks m → On t l e y f b k c ks n →
    Stands t l e y s ks → by_answer (answer_at t g h s) (λ u. m s) (λ u. n s) r ≡ accepted →
    (r tt ≡ accepted → Comes t l e y f b k (test h a c) (spot_at f b e s (ks ++ l))) →
    Comes t l e y f b k (test h a c) (spot_at f b e s (ks ++ l))
known_so t g l e y f b i h a c s k ks m n r on_true on_false st w else_so =
    answered (answer_at t g h s) (holds h (ks ++ l)) (λ u. m s) (λ u. n s) r
    (agrees_all h (left_by s.facts (look t s.items g)) (ks ++ l)
    (left_sees s.facts (look t s.items g) (ks ++ l) st.facts (seen t g st.made i))) w
    (λ x v. before (λ z o r. passes x r) (on_true s st v))
    (λ x v. before (λ z o r. fails x r) (on_false s st v)) else_so

undecided_so : (d : Bool) (t : Table) (g : List (List Place)) (l : List Record) (e : List Forest) (y f : Forest)
    (b : List Forest) → Sees g l → (h : Test) (a c : Script Rule) (s : At) (k : Outcome → At → Verdict)
    (ks : List Record) (m n : At → Verdict) → On t l e y f b k a ks m → On t l e y f b k c ks n → Stands t l e y s ks →
    undecided d t g h s m n ≡ accepted → Comes t l e y f b k (test h a c) (spot_at f b e s (ks ++ l))
undecided_so false t g l e y f b i h a c s k ks m n on_true on_false st w =
    both_so t g l e y f b i h a c s k ks m n on_true on_false st w
undecided_so true t g l e y f b i h a c s k ks m n on_true on_false st w =
    let go : At → Verdict = λ q. by_known t g h q m n in
    let ch =
    chooses t l depth 3 (λ is. in_case (may_be t g s.facts is) (λ u. go (with_row s is s.row s.rows))) st.made w
    in
    let q = with_row s ch.items s.row s.rows in
    let so =
    in_case_so (may_be t g s.facts ch.items) (λ u. go q) (may_be_so t g s.facts ch.made i st.facts) ch.so
    in
    let st' : Stands t l e y q ks =
    record { left = st.left; left_is = st.left_is; made = ch.made; nodes = st.nodes; facts = st.facts }
    in
    known_so t g l e y f b i h a c q k ks m n (λ u. both_ways t g h q m n) on_true on_false st' so
    (λ v. both_so t g l e y f b i h a c q k ks m n on_true on_false st' v)

pub tested_so : (t : Table) (g : List (List Place)) (l : List Record) (e : List Forest) (y f : Forest)
    (b : List Forest) → Sees g l → (h : Test) (a c : Script Rule) (s : At) (k : Outcome → At → Verdict)
    (ks : List Record) (m n : At → Verdict) → On t l e y f b k a ks m → On t l e y f b k c ks n → Stands t l e y s ks →
    tested t g h s m n ≡ accepted → Comes t l e y f b k (test h a c) (spot_at f b e s (ks ++ l))
tested_so t g l e y f b i h a c s k ks m n on_true on_false st w =
    known_so t g l e y f b i h a c s k ks m n (λ u. undecided (looks_on h) t g h s m n) on_true on_false st w
    (λ v. undecided_so (looks_on h) t g l e y f b i h a c s k ks m n on_true on_false st v)
