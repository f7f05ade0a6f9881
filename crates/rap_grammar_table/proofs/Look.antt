-- What the rest of a row begins with, and whether each of its categories is followed by what may follow it.
use Rattle.std.specs.Prelude.{ℕ, suc, zero, Bool, true, false, ◌&&◌, List, [], ◌∷◌, ◌++◌, Option, Some, None}
use Rattle.rap_base.specs.TokenKind.{IDENT}
use Rattle.rap_events.specs.Composite.{parts}
use Rattle.rap_grammar_table.proofs.Evaluate.{behind, says}
use Rattle.rap_grammar_table.proofs.Hints.{Table}
use Rattle.rap_grammar_table.proofs.Narrow.{each, narrowed}
use Rattle.rap_grammar_table.specs.Known.{Place, unclear, sure, among, anything}
use Rattle.rap_grammar_table.specs.Table.{Piece, tok, word, comp, cat, Items, nil, begin, close, piece, choice, repeat, turns_of, group, folds, folding, way, unless, appended}

-- a token, by its kinds and words
abbrev pub token_place : List ℕ → Option (List ℕ) → Place
token_place kinds words = record { kinds = Some kinds; words = words; joint = unclear }

-- tokens of these kinds, each but the last touching the next one
abbrev pub look_parts : List ℕ → List Place → List Place
look_parts [] g = g
look_parts (k ∷ []) g = record { kinds = Some (k ∷ []); words = None; joint = unclear } ∷ g
look_parts (k ∷ j ∷ ks) g =
    record { kinds = Some (k ∷ []); words = None; joint = sure } ∷ look_parts (j ∷ ks) g

abbrev pub behind_parts : List ℕ → List (List Place) → List (List Place)
behind_parts ks [] = []
behind_parts ks (g ∷ gs) = look_parts ks g ∷ behind_parts ks gs

abbrev pub look_piece : Table → Piece → List (List Place) → List (List Place)
look_piece t (tok kinds words) g = behind (token_place kinds words) g
look_piece t (word k) g = behind (token_place (IDENT ∷ []) (Some (k ∷ []))) g
look_piece t (comp k) g = behind_parts (parts k) g
look_piece t (cat c) g = t.firsts c

-- the ways of a turn that may come
abbrev pub where_there : Bool → (Unit {0} → List (List Place)) → List (List Place)
where_there true f = f tt
where_there false f = []

-- What comes next, of the rest of a row and what may follow it; of turns around a node, those for this number.
abbrev pub look_from : Table → ℕ → Items → List (List Place) → List (List Place)
look_from t n nil g = g
look_from t n (begin a) g = look_from t n a g
look_from t n (close k a) g = look_from t n a g
look_from t n (piece p a) g = look_piece t p (look_from t n a g)
look_from t n (choice a b c) g = look_from t n a (look_from t n c g) ++ look_from t n b (look_from t n c g)
look_from t n (group a c) g = look_from t n a (look_from t n c g)
look_from t n (folds m ws c) g = look_from t m ws [] ++ look_from t n c g
look_from t n (folding m ws) g = look_from t m ws [] ++ g
look_from t n (way js a m ws) g = where_there (among js n) (λ u. look_from t 0 a anything) ++ look_from t n ws g
look_from t n (unless h w a) g = each (λ p. narrowed h false p) (look_from t n a g)
look_from t n (repeat a z c) g = look_from t n a anything ++ look_from t n z (look_from t n c g)
look_from t n (turns_of a z) g = look_from t n a anything ++ look_from t n z g

abbrev pub look : Table → Items → List (List Place) → List (List Place)
look t is g = look_from t 0 is g

-- what comes next after a turn that tells this number
abbrev pub after_way : Table → Items → List (List Place) → ℕ → List (List Place)
after_way t ws g m = look_from t m ws [] ++ g

-- Each category is followed by what may follow it, and the row by what its conditions ask: what comes next behind these
-- items, what does behind the row, and what does behind a turn by the number that it tells.
abbrev pub followed_piece : Table → Piece → List (List Place) → Bool
followed_piece t (tok kinds words) g = true
followed_piece t (word k) g = true
followed_piece t (comp k) g = true
followed_piece t (cat c) g = says g (t.follows c)

abbrev pub no_ways : ℕ → List (List Place)
no_ways m = []

abbrev pub followed_in : Table → (ℕ → List (List Place)) → Items → List (List Place) → List (List Place) → Bool
followed_in t r nil g e = true
followed_in t r (begin a) g e = followed_in t r a g e
followed_in t r (close k a) g e = followed_in t r a g e
followed_in t r (piece p a) g e = followed_piece t p (look t a g) && followed_in t r a g e
followed_in t r (choice a b c) g e =
    followed_in t r a (look t c g) e && (followed_in t r b (look t c g) e && followed_in t r c g e)
followed_in t r (group a c) g e = followed_in t no_ways a (look t c g) (look t c g) && followed_in t r c g e
followed_in t r (folds n ws c) g e = followed_in t (after_way t ws (look t c g)) ws [] [] && followed_in t r c g e
followed_in t r (folding n ws) g e = followed_in t (after_way t ws g) ws [] []
followed_in t r (way j a m ws) g e = followed_in t no_ways a (r m) (r m) && followed_in t r ws g e
followed_in t r (unless h w a) g e = says e w && followed_in t r a g e
followed_in t r (repeat a z c) g e =
    followed_in t no_ways a (look t a anything ++ look t z (look t c g)) (look t a anything ++ look t z (look t c g)) &&
    (followed_in t no_ways z (look t c g) (look t c g) && followed_in t r c g e)
followed_in t r (turns_of a z) g e =
    followed_in t no_ways a (look t a anything ++ look t z g) (look t a anything ++ look t z g) &&
    followed_in t no_ways z g g

abbrev pub followed : Table → Items → List (List Place) → List (List Place) → Bool
followed t is g e = followed_in t no_ways is g e

-- Whether the tree of a row is one node: nodes alone stand around the first one; then its end comes, with so many nodes
-- open; then the row begins with it, or with a category whose tree is one.
abbrev pub only_folds : Items → Bool
only_folds nil = true
only_folds (folds n ws is) = only_folds is
only_folds is = false

abbrev pub in_node : ℕ → ℕ → Items → Bool
in_node zero n is = false
in_node (suc d) n nil = false
in_node (suc d) n (begin is) = in_node d (suc n) is
in_node (suc d) zero (close k is) = only_folds is
in_node (suc d) (suc n) (close k is) = in_node d n is
in_node (suc d) n (piece p is) = in_node d n is
in_node (suc d) n (choice a b is) = in_node d n (appended a is) && in_node d n (appended b is)
in_node (suc d) n (repeat a z is) = in_node d n is
in_node (suc d) n (turns_of a z) = false
in_node (suc d) n (group a is) = in_node d n is
in_node (suc d) n (folds m ws is) = in_node d n is
in_node (suc d) n (folding m ws) = false
in_node (suc d) n (way j a m ws) = false
in_node (suc d) n (unless h w is) = in_node d n is

abbrev pub is_node_piece : Table → Piece → Bool
is_node_piece t (tok kinds words) = false
is_node_piece t (word k) = false
is_node_piece t (comp k) = false
is_node_piece t (cat c) = t.is_node c

abbrev pub is_one_node : Table → ℕ → Items → Bool
is_one_node t zero is = false
is_one_node t (suc d) (begin is) = in_node d 0 is
is_one_node t (suc d) (piece p is) = is_node_piece t p && only_folds is
is_one_node t (suc d) (unless h w is) = is_one_node t d is
is_one_node t (suc d) (choice a b is) = is_one_node t d (appended a is) && is_one_node t d (appended b is)
is_one_node t (suc d) is = false

-- how deep a row may nest
abbrev pub depth : ℕ
depth = 60
