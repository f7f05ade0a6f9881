-- The ways of a row: its choices, and the pieces that come first in each.
use Rattle.std.specs.Prelude.{ℕ, zero, suc, Bool, true, false, ◌&&◌, ◌||◌, ◌==◌, not, List, [], ◌∷◌}
use Rattle.rap_base.specs.TokenKind.{EOF, R_CURLY}
use Rattle.rap_events.specs.Composite.{parts}
use Rattle.rap_grammar_scripts.specs.Script.{Outcome, nothing, something, block, again}
use Rattle.rap_grammar_scripts.specs.Test.{Test, kind_so}
use Rattle.rap_grammar_scripts.specs.declared.rule.Rule.{Rule}
use Rattle.rap_grammar_table.proofs.Built.{Built, base, empty, over, tree, same, goes_on_from, is_own, joined, no_more, At, with_row, with_own, with_facts, after_category, after_piece}
use Rattle.rap_grammar_table.proofs.Evaluate.{is_kind, evaluate_all}
use Rattle.rap_grammar_table.proofs.Hints.{Table}
use Rattle.rap_grammar_table.proofs.Look.{look, look_piece, depth}
use Rattle.rap_grammar_table.proofs.Narrow.{Fact, left_by, looks_on}
use Rattle.rap_grammar_table.proofs.Refusal.{Word, obeys, finishes, precedes, extends, abandons, stopped, left_over, unequal, ends_as, too_deep, where_so, Verdict, accepted, refused, both, check, provided, in_case, told_with}
use Rattle.rap_grammar_table.specs.Known.{Answer, sure, never, unclear, Place, among, every_one, anything}
use Rattle.rap_grammar_table.specs.Table.{Piece, tok, word, comp, cat, Items, nil, begin, close, piece, choice, repeat, turns_of, group, folds, folding, way, unless, appended}

-- whether the rest of a row, before what may follow it, can begin so that these are so
abbrev pub some_way : List (List Place) → Bool
some_way [] = false
some_way (p ∷ ps) = true

abbrev pub may_be : Table → List (List Place) → List Fact → Items → Bool
may_be t g [] is = true
may_be t g (x ∷ xs) is = some_way (left_by (x ∷ xs) (look t is g))

-- the first piece of the rest of a row, in each of its ways that may be
abbrev pub exposed : Table → List (List Place) → List Fact → ℕ → Items → Built → List Built →
    (Items → Built → List Built → Verdict) → Verdict
exposed t g fs zero is x xs k = refused too_deep
exposed t g fs (suc d) nil x xs k = k nil x xs
exposed t g fs (suc d) (begin is) x xs k = exposed t g fs d is empty (x ∷ xs) k
exposed t g fs (suc d) (close kind is) x [] k = refused too_deep
exposed t g fs (suc d) (close kind is) x (y ∷ xs) k = exposed t g fs d is (over y kind x) xs k
exposed t g fs (suc d) (piece p is) x xs k = k (piece p is) x xs
exposed t g fs (suc d) (choice a b is) x xs k =
    both (in_case (may_be t g fs (appended a is)) (λ u. exposed t g fs d (appended a is) x xs k))
    (in_case (may_be t g fs (appended b is)) (λ u. exposed t g fs d (appended b is) x xs k))
exposed t g fs (suc d) (repeat a z is) x xs k = k (repeat a z is) x xs
exposed t g fs (suc d) (turns_of a z) x xs k = refused too_deep
exposed t g fs (suc d) (group a is) x xs k = k (group a is) x xs
exposed t g fs (suc d) (folds j a is) x xs k = k (folds j a is) x xs
exposed t g fs (suc d) (folding j a) x xs k = refused too_deep
exposed t g fs (suc d) (way i a j ws) x xs k = refused too_deep
exposed t g fs (suc d) (unless h w is) x xs k = exposed t g fs d is x xs k

abbrev pub expose : Table → List (List Place) → At → (At → Verdict) → Verdict
expose t g s k = exposed t g s.facts depth s.items s.row s.rows (λ is x xs. k (with_row s is x xs))

-- the choices before the first so many pieces are made, in each of their ways
abbrev pub ahead : ℕ → ℕ → Items → (Items → Verdict) → Verdict
ahead zero m is k = refused too_deep
ahead (suc d) zero is k = k is
ahead (suc d) (suc m) nil k = k nil
ahead (suc d) (suc m) (begin is) k = ahead d (suc m) is (λ js. k (begin js))
ahead (suc d) (suc m) (close kind is) k = ahead d (suc m) is (λ js. k (close kind js))
ahead (suc d) (suc m) (piece p is) k = ahead d m is (λ js. k (piece p js))
ahead (suc d) (suc m) (choice a b is) k = both (ahead d (suc m) (appended a is) k) (ahead d (suc m) (appended b is) k)
ahead (suc d) (suc m) (repeat a z is) k = k (repeat a z is)
ahead (suc d) (suc m) (turns_of a z) k = k (turns_of a z)
ahead (suc d) (suc m) (group a is) k = k (group a is)
ahead (suc d) (suc m) (folds j a is) k = k (folds j a is)
ahead (suc d) (suc m) (folding j a) k = k (folding j a)
ahead (suc d) (suc m) (way i a j ws) k = k (way i a j ws)
ahead (suc d) (suc m) (unless h w is) k = ahead d (suc m) is (λ js. k (unless h w js))

abbrev pub choose_ahead : Table → List (List Place) → At → (At → Verdict) → Verdict
choose_ahead t g s k =
    ahead depth 3 s.items (λ is. in_case (may_be t g s.facts is) (λ u. k (with_row s is s.row s.rows)))

-- the first choices are made where one way alone may be
abbrev pub of_two : Bool → Bool → (Unit {0} → Verdict) → (Unit {0} → Verdict) → (Unit {0} → Verdict) → Verdict
of_two true true f g h = f tt
of_two true false f g h = g tt
of_two false true f g h = h tt
of_two false false f g h = accepted

abbrev pub settled : Table → List (List Place) → List Fact → ℕ → Items → (Items → Verdict) → Verdict
settled t g fs zero is k = k is
settled t g fs (suc d) nil k = k nil
settled t g fs (suc d) (begin is) k = settled t g fs d is (λ js. k (begin js))
settled t g fs (suc d) (close kind is) k = settled t g fs d is (λ js. k (close kind js))
settled t g fs (suc d) (piece p is) k = k (piece p is)
settled t g fs (suc d) (choice a b is) k =
    of_two (may_be t g fs (appended a is)) (may_be t g fs (appended b is)) (λ u. k (choice a b is))
    (λ u. settled t g fs d (appended a is) k) (λ u. settled t g fs d (appended b is) k)
settled t g fs (suc d) (repeat a z is) k = k (repeat a z is)
settled t g fs (suc d) (turns_of a z) k = k (turns_of a z)
settled t g fs (suc d) (group a is) k = k (group a is)
settled t g fs (suc d) (folds j a is) k = k (folds j a is)
settled t g fs (suc d) (folding j a) k = k (folding j a)
settled t g fs (suc d) (way i a j ws) k = k (way i a j ws)
settled t g fs (suc d) (unless h w is) k = k (unless h w is)

-- on where a test is so answered
abbrev pub forked : Table → List (List Place) → Fact → At → (At → Verdict) → Verdict
forked t g x s k =
    told_with (where_so x.test x.answer)
    (in_case (may_be t g (x ∷ s.facts) s.items)
    (λ u. settled t g (x ∷ s.facts) depth s.items
    (λ is. k (with_facts (with_row s is s.row s.rows) (x ∷ s.facts)))))

-- the way of an answer
abbrev pub by_answer : Answer → (Unit {0} → Verdict) → (Unit {0} → Verdict) → (Unit {0} → Verdict) → Verdict
by_answer sure f g h = f tt
by_answer never f g h = g tt
by_answer unclear f g h = h tt

abbrev pub both_ways : Table → List (List Place) → Test → At → (At → Verdict) → (At → Verdict) → Verdict
both_ways t g h s m n =
    both (forked t g (record { test = h; answer = true }) s m) (forked t g (record { test = h; answer = false }) s n)

-- what is known of a test where a walk is
abbrev pub answer_at : Table → List (List Place) → Test → At → Answer
answer_at t g h s = evaluate_all h (left_by s.facts (look t s.items g))

-- on by one way or the other where that is known, and else by both
abbrev pub by_known : Table → List (List Place) → Test → At → (At → Verdict) → (At → Verdict) → Verdict
by_known t g h s m n =
    by_answer (answer_at t g h s) (λ u. m s) (λ u. n s) (λ u. both_ways t g h s m n)

-- A test that looks further than the next token is asked after the row's choices are made.
abbrev pub undecided : Bool → Table → List (List Place) → Test → At → (At → Verdict) → (At → Verdict) → Verdict
undecided true t g h s m n = choose_ahead t g s (λ q. by_known t g h q m n)
undecided false t g h s m n = both_ways t g h s m n

abbrev pub tested : Table → List (List Place) → Test → At → (At → Verdict) → (At → Verdict) → Verdict
tested t g h s m n =
    by_answer (answer_at t g h s) (λ u. m s) (λ u. n s) (λ u. undecided (looks_on h) t g h s m n)

-- the first of some items, if it is a piece of which this holds
abbrev pub front : Word → (Piece → Bool) → Items → At → (At → Verdict) → Verdict
front w f (piece p is) s k = provided (f p) (stopped w (piece p is)) (λ u. k (after_piece s is false))
front w f is s k = refused (stopped w is)

abbrev pub no_parts : List ℕ → Bool
no_parts [] = true
no_parts (k ∷ ks) = false

abbrev pub is_sure : Answer → Bool
is_sure sure = true
is_sure never = false
is_sure unclear = false

-- a token is of this kind, by what is known
abbrev pub has_kind : List Fact → ℕ → List (List Place) → Bool
has_kind fs k g = is_sure (evaluate_all (kind_so 0 (is_kind k)) (left_by fs g))

-- a piece that is taken as a token of this kind, as any token, and as one that bears this kind
abbrev pub is_token : Table → List Fact → ℕ → Piece → Bool
is_token t fs k (tok kinds words) = no_parts (parts k) && has_kind fs k (look_piece t (tok kinds words) anything)
is_token t fs k (word j) = false
is_token t fs k (comp j) = j == k
is_token t fs k (cat c) = false

abbrev pub is_some : Piece → Bool
is_some (tok kinds words) = every_one (λ k. not (k == EOF)) kinds
is_some (word j) = false
is_some (comp j) = false
is_some (cat c) = false

abbrev pub is_bearer : Table → List Fact → ℕ → Piece → Bool
is_bearer t fs k (tok kinds words) = has_kind fs k (look_piece t (tok kinds words) anything)
is_bearer t fs k (word j) = j == k
is_bearer t fs k (comp j) = false
is_bearer t fs k (cat c) = false

abbrev pub every_outcome : (Outcome → Verdict) → List Outcome → Verdict
every_outcome f [] = accepted
every_outcome f (v ∷ vs) = both (f v) (every_outcome f vs)

abbrev pub some_outcome : List Outcome → Bool
some_outcome [] = false
some_outcome (v ∷ vs) = true

-- the first of some items, if it is a category that a rule reads
abbrev pub read_piece : Table → Rule → Piece → Items → At → (Outcome → At → Verdict) → Verdict
read_piece t r (cat c) is s k =
    provided (some_outcome (t.reads r c)) (stopped (obeys r) (piece (cat c) is))
    (λ u. every_outcome (λ v. k v (after_category s is (t.is_node c) (t.unbraced c))) (t.reads r c))
read_piece t r p is s k = refused (stopped (obeys r) (piece p is))

abbrev pub read_rule : Table → Rule → Items → At → (Outcome → At → Verdict) → Verdict
read_rule t r (piece p is) s k = read_piece t r p is s k
read_rule t r is s k = refused (stopped (obeys r) is)

-- a node ends under a kind, is given up, or begins around the last one
abbrev pub finish_own : ℕ → At → (At → Verdict) → List Built → Verdict
finish_own kind s k [] = refused (stopped (finishes kind) s.items)
finish_own kind s k (y ∷ ys) = k (with_own s (over y kind s.own) ys)

abbrev pub abandon_own : At → (At → Verdict) → List Built → Verdict
abandon_own s k [] = refused (stopped abandons s.items)
abandon_own s k (y ∷ ys) =
    provided (is_own s.own) (stopped abandons s.items) (λ u. k (with_own s (joined y s.own) ys))

abbrev pub precede_own : At → (At → Verdict) → Built → Verdict
precede_own s k base = refused (stopped precedes s.items)
precede_own s k empty = refused (stopped precedes s.items)
precede_own s k (over a kind c) = k (with_own s (over empty kind c) (a ∷ s.owns))
precede_own s k (tree a i) =
    provided (among s.nodes.0 i) (stopped precedes s.items) (λ u. k (with_own s (tree empty i) (a ∷ s.owns)))

-- The last node begins where the newest open one does: one whose children are there, or the tree of a piece alone.
abbrev pub extend_tree : At → (At → Verdict) → Built → ℕ → Built → List Built → Verdict
extend_tree s k empty i y ys =
    provided (among s.nodes.0 i) (stopped extends s.items) (λ u. k (with_own s (tree y i) ys))
extend_tree s k base i y ys = refused (stopped extends s.items)
extend_tree s k (over a kind c) i y ys = refused (stopped extends s.items)
extend_tree s k (tree a j) i y ys = refused (stopped extends s.items)

abbrev pub extend_under : At → (At → Verdict) → Built → Built → List Built → Verdict
extend_under s k base y ys = refused (stopped extends s.items)
extend_under s k empty y ys = refused (stopped extends s.items)
extend_under s k (over a kind c) y ys =
    provided (is_own c) (stopped extends s.items) (λ u. k (with_own s (over y kind (joined a c)) ys))
extend_under s k (tree a i) y ys = extend_tree s k a i y ys

abbrev pub extend_own : At → (At → Verdict) → List Built → Verdict
extend_own s k [] = refused (stopped extends s.items)
extend_own s k (y ∷ ys) = extend_under s k s.own y ys

-- the last token is not of this kind: a `}`, where the last tree is that of a piece of which this is told
abbrev pub ends_otherwise : ℕ → List ℕ → Built → Bool
ends_otherwise kind ns base = false
ends_otherwise kind ns empty = false
ends_otherwise kind ns (over a k c) = false
ends_otherwise kind ns (tree a i) = (kind == R_CURLY) && among ns i

-- at the end of a row, what the script has made is what the row makes
abbrev pub is_nil : Items → Bool
is_nil nil = true
is_nil is = false

abbrev pub is_whole : At → Verdict
is_whole s =
    both (check (is_nil s.items) (left_over s.items))
    (check (no_more s.rows && (no_more s.owns && (same s.row s.own && goes_on_from s.own)))
    (unequal s.row s.rows s.own s.owns))

abbrev pub ends_whole : Table → List (List Place) → At → Verdict
ends_whole t g q = expose t g q (λ r. is_whole r)

-- outcomes
abbrev pub same_flag : Bool → Bool → Bool
same_flag true b = b
same_flag false true = false
same_flag false false = true

abbrev pub same_outcome : Outcome → Outcome → Bool
same_outcome nothing nothing = true
same_outcome something something = true
same_outcome block block = true
same_outcome (again a b) (again c d) = same_flag a c && same_flag b d
same_outcome v w = false

abbrev pub has_outcome : List Outcome → Outcome → Bool
has_outcome [] w = false
has_outcome (v ∷ vs) w = same_outcome v w || has_outcome vs w

-- the end of a row with one of these outcomes
abbrev pub ends_so : Table → List (List Place) → List Outcome → Outcome → At → Verdict
ends_so t g vs v q = both (check (has_outcome vs v) (ends_as v)) (ends_whole t g q)
