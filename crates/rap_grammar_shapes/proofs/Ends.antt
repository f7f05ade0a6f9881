-- What stands under each open node of a script, and what a script appends, computed from the script alone.
use Rattle.std.specs.Prelude.{◌==◌, ◌&&◌, ◌||◌, ℕ, zero, suc, Bool, true, false, List, [], ◌∷◌, ◌++◌, drop, Option, Some, None, if◌then◌else◌}
use Rattle.rap_base.specs.NodeKind.{FIELD_EXPR, NAME_REF}
use Rattle.rap_base.specs.TokenKind.{DOT, ERROR}
use Rattle.rap_events.specs.Composite.{width}
use Rattle.rap_grammar_scripts.specs.Script.{Script, Outcome, nothing as none_left, something, block, again, give, test, ends_with, token, any, bear, report, report_next, skip, start, precede, finish, extend, abandon, split_float, after as and_then, rule, loop}
use Rattle.rap_grammar_scripts.specs.Tally.{same_flag, same_outcome}
use Rattle.rap_grammar_scripts.specs.declared.rule.Rule.{Rule}
use Rattle.rap_grammar_table.specs.Known.{every_one, among}
use Rattle.rap_grammar_shapes.proofs.Ahead.{Ahead, equal_ahead, learned, by_ahead, next_leaf}
use Rattle.rap_grammar_shapes.proofs.Claims.{brings}
use Rattle.rap_grammar_shapes.proofs.Content.{Content, nothing, leaf_of, node_of, a_float, spoilt, owed, ◌⋅◌, ◌or◌, any_of, any_leaf, choose, equal, either_of, onto, last_nodes, before, many, is_lost, is_settled}
use Rattle.rap_grammar_shapes.proofs.Models.{model}
use Rattle.rap_grammar_shapes.proofs.Runs.{runs, comes_back}

-- Not known; or what stands under the newest open node, behind what stood there when the script began if it is that
-- node, and under each that was opened since.
pub data Contents : Type 0 where
  astray : Contents
  contents : Content → List Content → Contents

-- What follows is computed of contents that are computed themselves: at the same ones a script is then computed once,
-- however often it stands in others.
abbrev pub by_kinds : {A : Type 0} → List ℕ → (List ℕ → A) → A
by_kinds [] h = h []
by_kinds (k ∷ ks) h = h (k ∷ ks)

abbrev pub by_content : {A : Type 0} → Content → (Content → A) → A
by_content nothing h = h nothing
by_content (leaf_of ks) h = by_kinds ks (λ x. h (leaf_of x))
by_content any_leaf h = h any_leaf
by_content (node_of ks) h = by_kinds ks (λ x. h (node_of x))
by_content a_float h = h a_float
by_content spoilt h = h spoilt
by_content owed h = h owed
by_content (a ⋅ b) h = by_content a (λ x. by_content b (λ y. h (x ⋅ y)))
by_content (a or b) h = by_content a (λ x. by_content b (λ y. h (x or y)))
by_content (any_of a) h = by_content a (λ x. h (any_of x))

abbrev pub by_newest : {A : Type 0} → List Content → (List Content → A) → A
by_newest [] h = h []
by_newest (a ∷ os) h = by_content a (λ x. h (x ∷ os))

abbrev pub by_contents : {A : Type 0} → Contents → (Contents → A) → A
by_contents astray h = h astray
by_contents (contents a os) h = by_content a (λ x. by_newest os (λ xs. h (contents x xs)))

-- the same contents under the older nodes
abbrev pub equal_older : List Content → List Content → Bool
equal_older [] [] = true
equal_older [] (b ∷ bs) = false
equal_older (a ∷ os) [] = false
equal_older (a ∷ os) (b ∷ bs) = let rest = equal_older os bs in choose (equal a b) rest false

abbrev pub equal_contents : Contents → Contents → Bool
equal_contents astray astray = true
equal_contents astray (contents b bs) = false
equal_contents (contents a os) astray = false
equal_contents (contents a os) (contents b bs) = let rest = equal_older os bs in choose (equal a b) rest false

-- What each word does. Something more stands there:
abbrev pub with_more : Content → Contents → Contents
with_more s astray = astray
with_more s (contents a os) = contents (onto a s) os

-- a node is opened,
abbrev pub opened : Contents → Contents
opened astray = astray
opened (contents a os) = contents nothing (a ∷ os)

-- and is finished under a kind, if all that it holds may stand there, and no ERROR in it is owed a message. An ERROR in
-- which none is is owed one.
abbrev pub error_content : Content → Content
error_content a = choose (is_lost a) spoilt owed

abbrev pub node_content : ℕ → Content → Content
node_content k a = choose (k == ERROR) (error_content a) (node_of (k ∷ []))

abbrev pub may_close : ℕ → Content → Bool
may_close k a = choose (runs (model k) a) (is_settled a) false

abbrev pub closed_if : Bool → Content → Content → List Content → Contents
closed_if true n b os = contents (onto b n) os
closed_if false n b os = astray

abbrev pub closed : ℕ → Contents → Contents
closed k astray = astray
closed k (contents a []) = astray
closed k (contents a (b ∷ os)) = closed_if (may_close k a) (node_content k a) b os

-- A node is opened around the last one,
abbrev pub preceded_if : Option (List ℕ) → Content → List Content → Contents
preceded_if None a os = astray
preceded_if (Some ks) a os = contents (node_of ks) (before a ∷ os)

abbrev pub with_last : Contents → Contents
with_last astray = astray
with_last (contents a os) = preceded_if (last_nodes a) a os

-- or takes in what stands before it.
abbrev pub extended_by : Bool → List ℕ → Content → List Content → Contents
extended_by false ks b os = astray
extended_by true ks b os = contents (onto b (node_of ks)) os

abbrev pub may_extend : List ℕ → Content → Bool
may_extend ks b =
    let rest = choose (is_settled (node_of ks)) (is_settled b) false in
    choose (every_one (λ k. comes_back (model k) b) ks) rest false

abbrev pub extended_if : Option (List ℕ) → Content → List Content → Contents
extended_if None a os = astray
extended_if (Some ks) a [] = astray
extended_if (Some ks) a (b ∷ os) = extended_by (may_extend ks (before a)) ks b os

abbrev pub drawn : Contents → Contents
drawn astray = astray
drawn (contents a os) = extended_if (last_nodes a) a os

-- A float is taken apart, in one node or in two.
abbrev pub two_names : Content
two_names = node_of (FIELD_EXPR ∷ []) ⋅ leaf_of (DOT ∷ []) ⋅ node_of (NAME_REF ∷ [])

abbrev pub float_runs : Content → Bool
float_runs a =
    let outer = runs (model FIELD_EXPR) two_names in
    choose (runs (model FIELD_EXPR) (onto a (node_of (NAME_REF ∷ [])))) outer false

abbrev pub float_closes : Content → Bool
float_closes a = choose (float_runs a) (is_settled a) false

abbrev pub parted : Contents → Contents
parted astray = astray
parted (contents a []) = astray
parted (contents a (b ∷ os)) = closed_if (float_closes a) (node_of (FIELD_EXPR ∷ [])) b os

-- A node is abandoned.
abbrev pub given_up : Contents → Contents
given_up astray = astray
given_up (contents a []) = astray
given_up (contents a (b ∷ os)) = contents (onto b a) os

-- Either of two.
abbrev pub joined_if : Bool → Content → Content → List Content → Contents
joined_if true a b os = contents (either_of a b) os
joined_if false a b os = astray

abbrev pub either : Contents → Contents → Contents
either astray y = astray
either (contents a os) astray = astray
either (contents a os) (contents b bs) = joined_if (equal_older os bs) a b os

-- where a script ends: by its outcome and what comes next, what stands there, each once
abbrev pub Ends : Type 0
Ends = List (Outcome × Ahead × Contents)

abbrev pub same_end : Outcome → Ahead → Outcome × Ahead × Contents → Bool
same_end v l e = let rest = equal_ahead l e.1 in choose (same_outcome v e.0) rest false

abbrev pub put : Outcome → Ahead → Contents → Ends → Ends
put v l x [] = (v, l, x) ∷ []
put v l x (e ∷ k) = let rest = put v l x k in if same_end v l e then (e.0, e.1, either x e.2) ∷ k else e ∷ rest

abbrev pub pool : Ends → Ends → Ends
pool [] k = k
pool (e ∷ j) k = put e.0 e.1 e.2 (pool j k)

abbrev pub by_ends : {A : Type 0} → Ends → (Ends → A) → A
by_ends [] h = h []
by_ends (e ∷ k) h = by_ahead e.1 (λ l. by_contents e.2 (λ x. by_ends k (λ j. h ((e.0, l, x) ∷ j))))

-- on from each end, and in each way in which the tokens may go on
abbrev pub gather : (Outcome → Ahead → Contents → Ends) → Ends → Ends
gather f [] = []
gather f (e ∷ k) = pool (by_ahead e.1 (λ l. by_contents e.2 (λ y. f e.0 l y))) (gather f k)

abbrev pub on_ways : (Ahead → Ends) → List Ahead → Ends
on_ways f [] = []
on_ways f (l ∷ ls) = pool (by_ahead l f) (on_ways f ls)

-- what is appended to nothing but the newest node, behind what stands there
abbrev pub behind : Contents → Contents → Contents
behind x astray = astray
behind x (contents a []) = with_more a x
behind x (contents a (b ∷ os)) = astray

abbrev pub is_alone : Contents → Bool
is_alone astray = false
is_alone (contents a []) = true
is_alone (contents a (b ∷ os)) = false

abbrev pub all_alone : Ends → Bool
all_alone [] = true
all_alone (e ∷ k) = let rest = all_alone k in choose (is_alone e.2) rest false

abbrev pub behind_each : Contents → Ends → Ends
behind_each x [] = []
behind_each x (e ∷ k) = (e.0, e.1, behind x e.2) ∷ behind_each x k

abbrev pub alone_or : Contents → Ends → Ends → Ends
alone_or x k last = choose (all_alone k) (behind_each x k) last

-- behind what a rule brings
abbrev pub rule_ends : Contents → List (Outcome × Content) → Ends
rule_ends x [] = []
rule_ends x (e ∷ k) = (e.0, [], with_more e.1 x) ∷ rule_ends x k

-- the ends of a turn at which its loop goes on, and the others
abbrev pub again_by : Outcome → Ahead → Contents → Ends → Ends
again_by none_left l x k = k
again_by something l x k = k
again_by block l x k = k
again_by (again c d) l x k = (again c d, l, x) ∷ k

abbrev pub agains : Ends → Ends
agains [] = []
agains (e ∷ k) = again_by e.0 e.1 e.2 (agains k)

abbrev pub last_by : Outcome → Ahead → Contents → Ends → Ends
last_by none_left l x k = (none_left, l, x) ∷ k
last_by something l x k = (something, l, x) ∷ k
last_by block l x k = (block, l, x) ∷ k
last_by (again c d) l x k = k

abbrev pub dones : Ends → Ends
dones [] = []
dones (e ∷ k) = last_by e.0 e.1 e.2 (dones k)

-- A turn of a loop, by its flags, by what comes next and by what stands there.
abbrev pub Turn : Type 0
Turn = Bool → Bool → Ahead → Contents → Ends

-- where a turn begins: its flags, and what comes next
pub record Start : Type 0 where
  pub first : Bool
  pub second : Bool
  pub next : Ahead

abbrev pub begin_at : Bool → Bool → Ahead → Start
begin_at c d l = record { first = c; second = d; next = l }

abbrev pub equal_start : Start → Start → Bool
equal_start s t =
    let next = equal_ahead s.next t.next in
    let second = choose (same_flag s.second t.second) next false in choose (same_flag s.first t.first) second false

-- from nothing on
abbrev pub turn_at : Turn → Start → Ends
turn_at g s = g s.first s.second s.next (contents nothing [])

-- Where turns begin that append to the newest node alone: where one ends that begins there; what all turns up to there
-- may have appended, but for the last ones that begin and end there; and what one of these appends.
pub record Row : Type 0 where
  pub start : Start
  pub turn : Ends
  pub arrives : List Content
  pub stays : List Content

abbrev pub any_one : List Content → Content
any_one [] = nothing
any_one (a ∷ []) = a
any_one (a ∷ b ∷ cs) = either_of a (any_one (b ∷ cs))

abbrev pub reached : Row → Content
reached r = onto (any_one r.arrives) (many (any_one r.stays))

-- where the next turn begins: at what comes next, or whatever comes next, as it is behind what is spoilt anyway
abbrev pub none_lost : Content → Bool
none_lost a = choose (is_lost a) false true

abbrev pub next_if : Bool → Bool → Bool → Ahead → Start
next_if true c d l = begin_at c d l
next_if false c d l = begin_at c d []

abbrev pub is_kept : Bool → Content → Bool
is_kept true a = none_lost a
is_kept false a = false

abbrev pub next_at : Bool → Bool → Bool → Ahead → Content → Start
next_at f c d l a = next_if (is_kept f a) c d l

-- the starts that turns lead to, from these on; at most so many
abbrev pub start_by : Bool → Outcome → Ahead → Contents → List Start → List Start
start_by f (again c d) l (contents a []) ss = next_at f c d l a ∷ ss
start_by f v l x ss = ss

abbrev pub starts_in : Bool → Ends → List Start
starts_in f [] = []
starts_in f (e ∷ k) = start_by f e.0 e.1 e.2 (starts_in f k)

abbrev pub is_seen : Start → List (Start × Ends) → Bool
is_seen s [] = false
is_seen s (w ∷ ws) = let rest = is_seen s ws in choose (equal_start s w.0) true rest

abbrev pub explored : ℕ → Bool → (Start → Ends) → List (Start × Ends) → List Start → List (Start × Ends)
explored zero f g seen todo = seen
explored (suc n) f g seen [] = seen
explored (suc n) f g seen (s ∷ todo) =
    let known = explored n f g seen todo in
    let found = by_ends (g s) (λ k. explored n f g (seen ++ (s, k) ∷ []) (todo ++ starts_in f k)) in
    choose (is_seen s seen) known found

-- in an order in which each stands behind those that lead to it, where there is one
abbrev pub is_start : Start → List Start → Bool
is_start s [] = false
is_start s (t ∷ ts) = let rest = is_start s ts in choose (equal_start s t) true rest

abbrev pub is_reached : Bool → Start → List (Start × Ends) → Bool
is_reached f s [] = false
is_reached f s (w ∷ ws) = let rest = is_reached f s ws in choose (is_start s (starts_in f w.1)) true rest

abbrev pub ordered : ℕ → Bool → List (Start × Ends) → List (Start × Ends)
ordered zero f ws = ws
ordered (suc n) f [] = []
ordered (suc n) f (w ∷ ws) =
    let later = ordered n f (ws ++ w ∷ []) in let now = w ∷ ordered n f ws in choose (is_reached f w.0 ws) later now

-- what turns append that lead to a start, and where those from it lead
abbrev pub arriving : Start → List (Start × Content) → List Content
arriving s [] = []
arriving s (w ∷ ws) = let rest = arriving s ws in choose (equal_start s w.0) (w.1 ∷ rest) rest

abbrev pub stay_by : Bool → Start → Outcome → Ahead → Contents → List Content → List Content
stay_by f s (again c d) l (contents a []) cs = let more = a ∷ cs in choose (equal_start s (next_at f c d l a)) more cs
stay_by f s v l x cs = cs

abbrev pub staying : Bool → Start → Ends → List Content
staying f s [] = []
staying f s (e ∷ k) = stay_by f s e.0 e.1 e.2 (staying f s k)

abbrev pub leave_by : Bool → Start → Content → Outcome → Ahead → Contents → List (Start × Content) →
    List (Start × Content)
leave_by f s r (again c d) l (contents a []) ws =
    let more = (next_at f c d l a, onto r a) ∷ ws in choose (equal_start s (next_at f c d l a)) ws more
leave_by f s r v l x ws = ws

abbrev pub leaving : Bool → Start → Content → Ends → List (Start × Content)
leaving f s r [] = []
leaving f s r (e ∷ k) = leave_by f s r e.0 e.1 e.2 (leaving f s r k)

abbrev pub row_of : Start × Ends → List Content → List Content → Row
row_of t arrive stay = record { start = t.0; turn = t.1; arrives = arrive; stays = stay }

abbrev pub solved : Bool → List (Start × Ends) → List (Start × Content) → List Row
solved f [] ws = []
solved f (t ∷ ts) ws =
    by_newest (arriving t.0 ws)
    (λ arrive.
    by_newest (staying f t.0 t.1)
    (λ stay. let r = row_of t arrive stay in r ∷ solved f ts (leaving f t.0 (reached r) t.1 ++ ws)))

abbrev pub rows_from : Bool → (Start → Ends) → Start → List Row
rows_from f g s = solved f (ordered 40 f (explored 24 f g [] (s ∷ []))) ((s, nothing) ∷ [])

-- Whether these are all: each turn appends alone, and where it goes on there is a row that says so.
abbrev pub has_content : Content → List Content → Bool
has_content a [] = false
has_content a (b ∷ bs) = let rest = has_content a bs in choose (equal a b) true rest

abbrev pub goes_to : Content → Start → List Row → Bool
goes_to a t [] = false
goes_to a t (q ∷ qs) =
    let here = has_content a q.arrives in let rest = goes_to a t qs in
    choose (choose (equal_start t q.start) here false) true rest

abbrev pub lands : List Row → Row → Content → Start → Bool
lands rows r a t =
    let far = goes_to (onto (reached r) a) t rows in
    choose (equal_start t r.start) (has_content a r.stays) far

abbrev pub end_lands : Bool → List Row → Row → Outcome → Ahead → Contents → Bool
end_lands f rows r v l astray = false
end_lands f rows r v l (contents a (b ∷ os)) = false
end_lands f rows r (again c d) l (contents a []) = lands rows r a (next_at f c d l a)
end_lands f rows r v l (contents a []) = true

abbrev pub all_land : Bool → List Row → Row → Ends → Bool
all_land f rows r [] = true
all_land f rows r (e ∷ k) = let rest = all_land f rows r k in choose (end_lands f rows r e.0 e.1 e.2) rest false

abbrev pub each_lands : Bool → List Row → List Row → Bool
each_lands f rows [] = true
each_lands f rows (r ∷ rs) = let rest = each_lands f rows rs in choose (all_land f rows r r.turn) rest false

abbrev pub are_all : Bool → Start → List Row → Bool
are_all f s rows = let rest = each_lands f rows rows in choose (goes_to nothing s rows) rest false

-- the last turns from each row
abbrev pub lasts : Contents → Ends → Ends
lasts x [] = []
lasts x (e ∷ k) = last_by e.0 e.1 (behind x e.2) (lasts x k)

abbrev pub row_lasts : Contents → List Row → Ends
row_lasts x [] = []
row_lasts x (r ∷ rs) = pool (by_contents (with_more (reached r) x) (λ y. lasts y r.turn)) (row_lasts x rs)

-- Else turns from what stands there, until nothing new may stand there; at most so many rounds.
abbrev pub equal_ends : Ends → Ends → Bool
equal_ends [] [] = true
equal_ends [] (e ∷ k) = false
equal_ends (e ∷ j) [] = false
equal_ends (e ∷ j) (f ∷ k) =
    let rest = equal_ends j k in let same = choose (equal_contents e.2 f.2) rest false in
    choose (same_end e.0 e.1 f) same false

abbrev pub turn_from : Turn → Outcome → Ahead → Contents → Ends
turn_from g none_left l x = []
turn_from g something l x = []
turn_from g block l x = []
turn_from g (again c d) l x = g c d l x

abbrev pub any_flags : (Bool → Bool → Ends) → Ends
any_flags f = pool (pool (f true true) (f true false)) (pool (f false true) (f false false))

abbrev pub rounds : ℕ → Turn → Ends → Ends
rounds zero g k = dones (any_flags (λ c d. g c d [] astray))
rounds (suc n) g k =
    by_ends (pool (agains (gather (turn_from g) k)) k)
    (λ j. let more = rounds n g j in choose (equal_ends j k) (dones (gather (turn_from g) k)) more)

-- A loop's ends: by rows, by rows whatever comes next, or else by rounds.
abbrev pub by_rows : Bool → Turn → Start → Contents → Ends → Ends
by_rows f g s x k =
    choose (are_all f s (rows_from f (turn_at g) s)) (row_lasts x (rows_from f (turn_at g) s)) k

abbrev pub loop_ends : Turn → Bool → Bool → Ahead → Contents → Ends
loop_ends g c d l x =
    let last = rounds 4 g ((again c d, l, x) ∷ []) in
    let more = by_rows false g (begin_at c d []) x last in by_rows true g (begin_at c d l) x more

-- Where a script ends that begins so, with what is known of the tokens that come next. What a script within another
-- appends to the newest node alone is computed from nothing on, whatever stands there.
abbrev pub ends : Script Rule → Ahead → Contents → Ends
ends (give v) l x = (v, l, x) ∷ []
ends (test h s t) l x = pool (on_ways (λ m. ends s m x) (learned h true l)) (on_ways (λ m. ends t m x) (learned h false l))
ends (ends_with k s t) l x = pool (ends s l x) (ends t l x)
ends (token k s) l x =
    by_ahead (drop (width k) l) (λ m. by_contents (with_more (leaf_of (k ∷ [])) x) (λ y. ends s m y))
ends (any s) l x = by_ahead (drop 1 l) (λ m. by_contents (with_more (next_leaf l) x) (λ y. ends s m y))
ends (bear k s) l x = by_ahead (drop 1 l) (λ m. by_contents (with_more (leaf_of (k ∷ [])) x) (λ y. ends s m y))
ends (report m s) l x = by_contents (with_more spoilt x) (λ y. ends s l y)
ends (report_next m s) l x = by_contents (with_more spoilt x) (λ y. ends s l y)
ends (skip m s) l x = by_ahead (drop 1 l) (λ m. by_contents (with_more spoilt x) (λ y. ends s m y))
ends (start s) l x = by_contents (opened x) (λ y. ends s l y)
ends (precede s) l x = by_contents (with_last x) (λ y. ends s l y)
ends (finish k s) l x = by_contents (closed k x) (λ y. ends s l y)
ends (extend s) l x = by_contents (drawn x) (λ y. ends s l y)
ends (abandon s) l x = by_contents (given_up x) (λ y. ends s l y)
ends (split_float s t) l x =
    by_ahead (drop 1 l) (λ m. by_contents (parted x) (λ y. pool (ends s m y) (ends t m y)))
ends (and_then s h) l x =
    let last = ends s l x in gather (λ v m y. ends (h v) m y) (alone_or x (ends s l (contents nothing [])) last)
ends (rule c h) l x = gather (λ v m y. ends (h v) m y) (rule_ends x (brings c))
ends (loop h a b) l x =
    loop_ends (λ c d m y. ends (h c d) m y) a b l x

-- Whether a content is one child, of these kinds.
abbrev pub has_leaves : List ℕ → Content → Bool
has_leaves ks (leaf_of js) = every_one (among js) ks
has_leaves ks (a or b) = has_leaves ks a || has_leaves ks b
has_leaves ks a = false

abbrev pub has_nodes : List ℕ → Content → Bool
has_nodes ks (node_of js) = every_one (among js) ks
has_nodes ks (a or b) = has_nodes ks a || has_nodes ks b
has_nodes ks a = false

abbrev pub has_spoilt : Content → Bool
has_spoilt spoilt = true
has_spoilt (a or b) = has_spoilt a || has_spoilt b
has_spoilt a = false

abbrev pub within : Content → Content → Bool
within (leaf_of ks) c = has_leaves ks c
within (node_of ks) c = has_nodes ks c
within spoilt c = has_spoilt c
within (a or b) c = within a c && within b c
within a c = false

-- Whether each end is one that a rule brings.
abbrev pub end_among : Outcome → Contents → List (Outcome × Content) → Bool
end_among v astray k = false
end_among v (contents a (b ∷ os)) k = false
end_among v (contents a []) [] = false
end_among v (contents a []) (e ∷ k) =
    let rest = end_among v (contents a []) k in if same_outcome v e.0 then within a e.1 else rest

abbrev pub all_among : Ends → List (Outcome × Content) → Bool
all_among [] k = true
all_among (e ∷ l) k = end_among e.0 e.2 k && all_among l k

-- no end of a rule is owed a message
abbrev pub all_settled : List (Outcome × Content) → Bool
all_settled [] = true
all_settled (e ∷ k) = is_settled e.1 && all_settled k

-- the ends of a script are what this rule brings
abbrev pub brings_all : Script Rule → List (Outcome × Content) → Bool
brings_all s k = all_among (ends s [] (contents nothing [])) k
