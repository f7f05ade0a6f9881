-- A script walked along the pieces of a row.
use Rattle.std.specs.Prelude.{ℕ, zero, suc, Bool, true, false, ◌&&◌, ◌||◌, List, [], ◌∷◌, ◌++◌, Option, Some, None}
use Rattle.rap_grammar_scripts.specs.Script.{Script, Outcome, nothing, something, block, again, give, test, ends_with, token, any, bear, report, report_next, skip, start, precede, finish, extend, abandon, split_float, after, rule, loop}
use Rattle.rap_grammar_scripts.specs.declared.rule.Rule.{Rule}
use Rattle.rap_grammar_table.specs.Category.{Category}
use Rattle.rap_grammar_table.proofs.Built.{empty, last_same, At, with_own, at_start, fold_start, after_category, after_piece, after_fold}
use Rattle.rap_grammar_table.proofs.Hints.{Table}
use Rattle.rap_grammar_table.proofs.Look.{look, after_way}
use Rattle.rap_grammar_table.proofs.Narrow.{either_is}
use Rattle.rap_grammar_table.proofs.Refusal.{word_of, stopped, ends_as, goes_on_as, too_deep, in_turn, after_turns, in_part, takes, takes_any, bears, turns, Verdict, accepted, refused, both, check, provided, by_bool, or_else_so, told_with, or_earlier, or_later}
use Rattle.rap_grammar_table.proofs.Ways.{answer_at, expose, tested, front, is_token, is_some, is_bearer, read_rule, ends_otherwise, finish_own, extend_own, abandon_own, precede_own, ends_whole, ends_so, every_outcome, same_flag}
use Rattle.rap_grammar_table.specs.Known.{Answer, sure, never, unclear, Place, anything}
use Rattle.rap_grammar_table.specs.Table.{Items, begin, close, choice, repeat, group, folds, way, unless, Piece, tok, word, comp, cat, piece}

-- a turn that goes on, or the last one
abbrev pub next_turn : Outcome → At → (Bool → Bool → At → Verdict) → (Outcome → At → Verdict) → Verdict
next_turn nothing s f k = k nothing s
next_turn something s f k = k something s
next_turn block s f k = k block s
next_turn (again a b) s f k = f a b s

abbrev pub most_turns : ℕ
most_turns = 12

-- whether turns come first, and whether they may come next in the row
abbrev pub is_repeat : Items → Bool
is_repeat (repeat a z is) = true
is_repeat (folds n ws is) = true
is_repeat is = false

abbrev pub at_repeat : Items → Bool
at_repeat (begin is) = at_repeat is
at_repeat (close kind is) = at_repeat is
at_repeat (unless h w is) = at_repeat is
at_repeat (choice a b is) = either_is (at_repeat a) (either_is (at_repeat b) (at_repeat is))
at_repeat (repeat a z is) = true
at_repeat (folds n ws is) = true
at_repeat is = false

abbrev pub Turn : Type 0
Turn = Bool → Bool → At → (Outcome → At → Verdict) → Verdict

-- one verdict where this is so, and else or where it is a refusal another
abbrev pub first_try : Bool → (Unit {0} → Verdict) → (Unit {0} → Verdict) → Verdict
first_try true f g = or_else_so (f tt) (λ u. accepted) (λ r. or_earlier r (g tt))
first_try false f g = g tt

-- a turn, and on with what comes then
abbrev pub one_turn : Turn → (Bool → Bool → At → Verdict) → Turn
one_turn f g a b s k = f a b s (λ v q. next_turn v q g k)

-- all turns of the row at once, where they come first, and else one turn
abbrev pub turns_first : Turn → (Unit {0} → Verdict) → Bool → Bool → At → (Outcome → At → Verdict) → Verdict
turns_first g one a b s k = by_bool (is_repeat s.items) (λ u. g a b s k) one

-- At most so many turns; where the row has turns too, all of them at once, after which the loop may go on.
abbrev pub turning : Table → List (List Place) → ℕ → Turn → (Turn → Turn) → Turn
turning t e zero f g a b s k = refused too_deep
turning t e (suc n) f g a b s k =
    first_try (at_repeat s.items)
    (λ u. expose t e s
    (λ q. turns_first (g (λ c d r m. turning t e n f g c d r m))
    (λ u. one_turn f (λ c d r. turning t e n f g c d r k) a b q k) a b q k))
    (λ u. one_turn f (λ c d r. turning t e n f g c d r k) a b s k)

abbrev pub Flags : Type 0
Flags = Bool × Bool

abbrev pub flags_in : List Flags → Bool → Bool → Bool
flags_in [] a b = false
flags_in (x ∷ xs) a b = (same_flag x.0 a && same_flag x.1 b) || flags_in xs a b

abbrev pub every_flags : (Bool → Bool → Verdict) → List Flags → Verdict
every_flags f [] = accepted
every_flags f (x ∷ xs) = both (f x.0 x.1) (every_flags f xs)

abbrev pub goes_on_in : List Flags → Outcome → Bool
goes_on_in xs nothing = false
goes_on_in xs something = false
goes_on_in xs block = false
goes_on_in xs (again a b) = flags_in xs a b

-- a turn with any of these flags is one of the row's, and goes on with one of them
abbrev pub turn_ends : Table → List (List Place) → List Flags → Outcome → At → Verdict
turn_ends t g xs v q = both (check (goes_on_in xs v) (goes_on_as v)) (ends_whole t g q)

abbrev pub turn_so : Table → List (List Place) → Turn → Items → List Flags → Verdict
turn_so t g f a xs = every_flags (λ c d. told_with (in_turn c d) (f c d (at_start a) (turn_ends t g xs))) xs

abbrev pub no_turns : Turn → Turn
no_turns on a b s k = refused (stopped turns s.items)

-- which flags the turns have, of some guesses
abbrev pub first_so : (List Flags → Verdict) → List (List Flags) → (List Flags → Verdict) → Verdict
first_so f [] k = refused (ends_as nothing)
first_so f (x ∷ xs) k = or_else_so (f x) (λ u. k x) (λ r. or_later r (first_so f xs k))

abbrev pub guesses : Bool → Bool → List (List Flags)
guesses a b =
    ((a, b) ∷ [])
    ∷ ((a, b) ∷ (true, b) ∷ [])
    ∷ ((a, b) ∷ (false, b) ∷ [])
    ∷ ((a, b) ∷ (true, false) ∷ [])
    ∷ ((a, b) ∷ (true, true) ∷ [])
    ∷ ((a, b) ∷ (true, true) ∷ (true, false) ∷ (false, true) ∷ (false, false) ∷ [])
    ∷ []

-- each turn that puts a node around another, before what may follow it by the number that it tells
abbrev pub fold_turn_so : Table → List (List Place) → Turn → Items → List Flags → Verdict
fold_turn_so t g f a xs = every_flags (λ c d. told_with (in_turn c d) (f c d (fold_start a) (turn_ends t g xs))) xs

abbrev pub ways_so : Table → (ℕ → List (List Place)) → (List (List Place) → Turn) → List Flags → Items → Verdict
ways_so t r f xs (way j a m ws) = both (fold_turn_so t (r m) (f (r m)) a xs) (ways_so t r f xs ws)
ways_so t r f xs is = accepted

-- what stands after the turns, with any of these flags, and then what comes with each outcome
abbrev pub then_ends : Table → List (List Place) → (Outcome → Verdict) → Outcome → At → Verdict
then_ends t g k v q = both (k v) (ends_whole t g q)

abbrev pub last_so : Table → List (List Place) → Turn → Items → (Outcome → Verdict) → List Flags → Verdict
last_so t g f z k xs =
    every_flags
    (λ c d. told_with (after_turns c d) (turning t g most_turns f no_turns c d (at_start z) (then_ends t g k))) xs

-- the loop goes on after nodes that it has put around one
abbrev pub goes_on_after : Turn → List Flags → At → (Outcome → At → Verdict) → Verdict
goes_on_after on xs s k = every_flags (λ c d. told_with (after_turns c d) (on c d s k)) xs

-- the turns that put nodes around one, and the loop goes on
abbrev pub folds_so : (List (List Place) → Turn) → Table → List (List Place) → Turn → Bool → Bool → At → ℕ → Items →
    Items → (Outcome → At → Verdict) → Verdict
folds_so f t g on a b s n ws is k =
    first_so
    (λ xs. both (check (flags_in xs a b) (goes_on_as (again a b))) (ways_so t (after_way t ws (look t is g)) f xs ws))
    (guesses a b) (λ xs. goes_on_after on xs (after_fold s is) k)

-- All turns of a row, and what stands last in them; `f` takes a turn of the loop, before what may follow it, and `on`
-- goes on with the loop.
abbrev pub repeating : (List (List Place) → Turn) → Table → List (List Place) → Turn → Items → Turn
repeating f t g on (folds n ws is) a b s k =
    provided (last_same s.nodes.0 s.row s.own) (stopped turns (folds n ws is))
    (λ u. folds_so f t g on a b s n ws is k)
repeating f t g on (repeat x z is) a b s k =
    first_so
    (λ xs. both (check (flags_in xs a b) (goes_on_as (again a b)))
    (turn_so t (look t x anything ++ look t z (look t is g)) (f (look t x anything ++ look t z (look t is g))) x xs))
    (guesses a b)
    (λ xs. last_so t (look t is g) (f (look t is g)) z (λ v. k v (after_piece s is false)) xs)
repeating f t g on is a b s k = refused (stopped turns is)

-- whether a part that is read alone comes next, or a category that is
abbrev pub is_part : Table → Piece → Bool
is_part t (tok kinds words) = false
is_part t (word j) = false
is_part t (comp j) = false
is_part t (cat c) = t.by_rows c

abbrev pub at_part : Table → Items → Bool
at_part t (begin is) = at_part t is
at_part t (close kind is) = at_part t is
at_part t (unless h w is) = at_part t is
at_part t (piece p is) = is_part t p
at_part t (choice a b is) = either_is (at_part t a) (either_is (at_part t b) (at_part t is))
at_part t (group a is) = true
at_part t is = false

-- The outcome of a script that surely takes nothing where a walk is: by what is known of its tests.
abbrev pub and_passed : Option Outcome → (Outcome → Option Outcome) → Option Outcome
and_passed None f = None
and_passed (Some v) f = f v

abbrev pub no_turn : Outcome → Option Outcome
no_turn nothing = Some nothing
no_turn something = Some something
no_turn block = Some block
no_turn (again a b) = None

abbrev pub by_sure : Answer → (Unit {0} → Option Outcome) → (Unit {0} → Option Outcome) → Option Outcome
by_sure sure f g = f tt
by_sure never f g = g tt
by_sure unclear f g = None

abbrev pub passed : Table → List (List Place) → At → Script Rule → Option Outcome
passed t f s (give v) = Some v
passed t f s (test h a b) = by_sure (answer_at t f h s) (λ u. passed t f s a) (λ u. passed t f s b)
passed t f s (after a n) = and_passed (passed t f s a) (λ v. passed t f s (n v))
passed t f s (loop h a b) = and_passed (passed t f s (h a b)) no_turn
passed t f s a = None

abbrev pub is_none : Option Outcome → Bool
is_none None = true
is_none (Some v) = false

-- whether a part may be read by a script alone: one comes next, and the script may take something
abbrev pub where_part : Bool → (Unit {0} → Bool) → Bool
where_part true f = f tt
where_part false f = false

abbrev pub takes_part : Table → List (List Place) → Script Rule → At → Bool
takes_part t f a s = where_part (at_part t s.items) (λ u. is_none (passed t f s a))

abbrev pub first_outcomes : (List Outcome → Verdict) → List (List Outcome) → (List Outcome → Verdict) → Verdict
first_outcomes f [] k = refused (ends_as nothing)
first_outcomes f (x ∷ xs) k = or_else_so (f x) (λ u. k x) (λ r. or_later r (first_outcomes f xs k))

abbrev pub outcome_guesses : List (List Outcome)
outcome_guesses =
    (something ∷ [])
    ∷ (nothing ∷ something ∷ [])
    ∷ (again false false ∷ again true false ∷ again true true ∷ again false true ∷ [])
    ∷ []

abbrev pub Walked : Type 0
Walked = At → (Outcome → At → Verdict) → Verdict

-- all of some rows
abbrev pub all_accepted : (Items → Verdict) → List Items → Verdict
all_accepted f [] = accepted
all_accepted f (r ∷ rs) = both (f r) (all_accepted f rs)

-- a part that a script reads alone, with some outcomes, and then what comes with each
abbrev pub with_outcomes : (List Outcome → Verdict) → List (List Outcome) → (Outcome → Verdict) → Verdict
with_outcomes f gs k = first_outcomes f gs (λ vs. every_outcome k vs)

abbrev pub part_so : (List (List Place) → Walked) → Table → List (List Place) → List Outcome → Items → Verdict
part_so w t g vs a = told_with in_part (w g (at_start a) (ends_so t g vs))

-- what is said of a script that is to read the rows of a category with some outcomes
abbrev pub Vouch : Type 0
Vouch = Category → Script Rule → List Outcome → Verdict

abbrev pub category_part : Vouch → Script Rule → (List (List Place) → Walked) → Table → List (List Place) → Piece →
    Items → Walked
category_part o a w t g (cat c) is s k =
    first_try (t.by_rows c)
    (λ u. with_outcomes (o c a) (t.ends c) (λ v. k v (after_category s is (t.is_node c) (t.unbraced c))))
    (λ u. w g s k)
category_part o a w t g (tok kinds words) is s k = w g s k
category_part o a w t g (word j) is s k = w g s k
category_part o a w t g (comp j) is s k = w g s k

-- what comes first is read as a category, or the script is walked on
abbrev pub category_first : Vouch → Script Rule → (List (List Place) → Walked) → Table → List (List Place) → Items →
    Walked
category_first o a w t g (piece p is) s k = category_part o a w t g p is s k
category_first o a w t g is s k = w g s k

-- a part that is marked, which may be a category itself
abbrev pub group_so : Vouch → Script Rule → (List (List Place) → Walked) → Table → List (List Place) → Items →
    List Outcome → Verdict
group_so o c w t g a vs =
    told_with in_part
    (first_try (at_part t a) (λ u. expose t g (at_start a) (λ q. category_first o c w t g q.items q (ends_so t g vs)))
    (λ u. w g (at_start a) (ends_so t g vs)))

-- what comes first is read as a part, or the script is walked on
abbrev pub parting : Vouch → Script Rule → (List (List Place) → Walked) → Table → List (List Place) → Items → Walked
parting o c w t g (group a is) s k =
    with_outcomes (group_so o c w t (look t is g) a) outcome_guesses (λ v. k v (after_piece s is false))
parting o c w t g is s k = category_first o c w t g is s k

-- Whether the script, along the rest of the row, ends as `k` says wherever it ends. What a script makes of the rows of a
-- category, where it reads them alone, is asked of `o`.
abbrev pub walk : Vouch → Table → List (List Place) → Script Rule → At → (Outcome → At → Verdict) → Verdict
walk o t f (give v) s k = k v s
walk o t f (test h a b) s k = tested t f h s (λ q. walk o t f a q k) (λ q. walk o t f b q k)
walk o t f (ends_with kind a b) s k =
    provided (ends_otherwise kind s.nodes.1 s.own) (stopped (word_of (ends_with kind a b)) s.items)
    (λ u. walk o t f b s k)
walk o t f (token kind a) s k =
    expose t f s (λ q. front (takes kind) (is_token t q.facts kind) q.items q (λ r. walk o t f a r k))
walk o t f (any a) s k = expose t f s (λ q. front takes_any is_some q.items q (λ r. walk o t f a r k))
walk o t f (bear kind a) s k =
    expose t f s (λ q. front (bears kind) (is_bearer t q.facts kind) q.items q (λ r. walk o t f a r k))
walk o t f (report bytes a) s k = refused (stopped (word_of (report bytes a)) s.items)
walk o t f (report_next bytes a) s k = refused (stopped (word_of (report_next bytes a)) s.items)
walk o t f (skip bytes a) s k = refused (stopped (word_of (skip bytes a)) s.items)
walk o t f (start a) s k = walk o t f a (with_own s empty (s.own ∷ s.owns)) k
walk o t f (precede a) s k = precede_own s (λ q. walk o t f a q k) s.own
walk o t f (finish kind a) s k = finish_own kind s (λ q. walk o t f a q k) s.owns
walk o t f (extend a) s k = extend_own s (λ q. walk o t f a q k) s.owns
walk o t f (abandon a) s k = abandon_own s (λ q. walk o t f a q k) s.owns
walk o t f (split_float a b) s k = refused (stopped (word_of (split_float a b)) s.items)
walk o t f (after a n) s k =
    first_try (takes_part t f a s)
    (λ u. expose t f s
    (λ q. parting o a (λ g r m. walk o t g a r m) t f q.items q (λ v r. walk o t f (n v) r k)))
    (λ u. walk o t f a s (λ v q. walk o t f (n v) q k))
walk o t f (rule r n) s k = expose t f s (λ q. read_rule t r q.items q (λ v p. walk o t f (n v) p k))
walk o t f (loop h a b) s k =
    turning t f most_turns (λ c d q m. walk o t f (h c d) q m)
    (λ on c d q m. repeating (λ g i j r n. walk o t g (h i j) r n) t f on q.items c d q m) a b s k

-- A script reads each row of a category, where categories that it reads alone nest so deep.
abbrev pub reads_rows : ℕ → Table → Category → Script Rule → List Outcome → Verdict
reads_rows zero t c a vs = refused too_deep
reads_rows (suc n) t c a vs =
    all_accepted (part_so (λ g r m. walk (reads_rows n t) t g a r m) t (t.follows c) vs) (t.rows c)

abbrev pub nesting : ℕ
nesting = 8

-- a script reads a row, before what may follow it, with one of these outcomes
abbrev pub reads_row_by : Vouch → Table → List (List Place) → Script Rule → List Outcome → Items → Verdict
reads_row_by o t f s vs is = walk o t f s (at_start is) (ends_so t f vs)

abbrev pub reads_row : Table → List (List Place) → Script Rule → List Outcome → Items → Verdict
reads_row t f s vs is = reads_row_by (reads_rows nesting t) t f s vs is
