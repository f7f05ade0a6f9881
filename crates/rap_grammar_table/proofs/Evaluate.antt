-- What is known of a test by what is known of the tokens that come next.
use Rattle.std.specs.Prelude.{ℕ, Bool, true, false, ◌&&◌, ◌||◌, ◌==◌, not, List, [], ◌∷◌, ◌++◌, drop, Option, Some, None}
use Rattle.rap_base.specs.Keyword.{is_keyword}
use Rattle.rap_base.specs.TokenKind.{EOF, IDENT}
use Rattle.rap_base.specs.declared.edition.Edition.TheVariants.{Edition2024}
use Rattle.rap_events.specs.Composite.{parts}
use Rattle.rap_events.specs.OperatorTable.{operators}
use Rattle.rap_grammar_scripts.specs.Test.{Test, kind_so, word_so, edition_so, comes, borne, negated, also, or_else, told, operator_so}
use Rattle.rap_grammar_table.specs.Known.{Answer, sure, never, unclear, Place, place_at, among, every_one}

-- one more place before each of the ways to go on
abbrev pub behind : Place → List (List Place) → List (List Place)
behind p [] = []
behind p (g ∷ gs) = (p ∷ g) ∷ behind p gs

abbrev pub judged : Bool → Bool → Answer
judged true b = sure
judged false true = never
judged false false = unclear

abbrev pub decided : (ℕ → Bool) → Option (List ℕ) → Answer
decided f None = unclear
decided f (Some ks) = judged (every_one f ks) (every_one (λ k. not (f k)) ks)

abbrev pub not_so : Answer → Answer
not_so sure = never
not_so never = sure
not_so unclear = unclear

abbrev pub and_so : Answer → Answer → Answer
and_so sure b = b
and_so never b = never
and_so unclear sure = unclear
and_so unclear never = never
and_so unclear unclear = unclear

abbrev pub or_so : Answer → Answer → Answer
or_so sure b = sure
or_so never b = b
or_so unclear sure = sure
or_so unclear never = unclear
or_so unclear unclear = unclear

abbrev pub of_truth : Bool → Answer
of_truth true = sure
of_truth false = never

-- an answer that counts only where another one is sure
abbrev pub where_sure : Answer → Answer → Answer
where_sure sure b = b
where_sure never b = unclear
where_sure unclear b = unclear

abbrev pub is_kind : ℕ → ℕ → Bool
is_kind k j = j == k

abbrev pub begin_so : List ℕ → List Place → Answer
begin_so [] ps = sure
begin_so (k ∷ []) ps = where_sure (of_truth (not (k == EOF))) (decided (is_kind k) (place_at 0 ps).kinds)
begin_so (k ∷ j ∷ ks) ps =
    where_sure (of_truth (not (k == EOF)))
    (and_so (decided (is_kind k) (place_at 0 ps).kinds)
    (and_so (place_at 0 ps).joint (begin_so (j ∷ ks) (drop 1 ps))))

abbrev pub comes_so : List ℕ → ℕ → List Place → Answer
comes_so [] k ps = decided (is_kind k) (place_at 0 ps).kinds
comes_so (j ∷ js) k ps = begin_so (j ∷ js) ps

abbrev pub borne_so : ℕ → Place → Answer
borne_so k p =
    where_sure (decided (λ j. not (j == EOF)) p.kinds)
    (or_so (decided (is_kind k) p.kinds)
    (or_so (and_so (decided (is_kind IDENT) p.kinds) (decided (is_kind k) p.words))
    (and_so (of_truth (k == IDENT)) (decided (λ j. is_keyword j Edition2024) p.kinds))))

-- the same where the second answer is asked for only if it counts
abbrev pub and_then : Answer → (Unit {0} → Answer) → Answer
and_then sure f = f tt
and_then never f = never
and_then unclear f = and_so unclear (f tt)

abbrev pub or_then : Answer → (Unit {0} → Answer) → Answer
or_then sure f = sure
or_then never f = f tt
or_then unclear f = or_so unclear (f tt)

-- The operators that may come next: by the first token, those that it begins, up to the first that surely comes.
abbrev pub and_more : Answer → ℕ → (Unit {0} → List ℕ) → List ℕ
and_more sure op f = op ∷ []
and_more never op f = f tt
and_more unclear op f = op ∷ f tt

abbrev pub goes_so : List ℕ → List Place → Answer
goes_so [] ps = sure
goes_so (k ∷ ks) ps = and_so (place_at 0 ps).joint (begin_so (k ∷ ks) (drop 1 ps))

abbrev pub operators_begun : List (ℕ × ℕ × List ℕ) → List Place → List ℕ
operators_begun [] ps = EOF ∷ []
operators_begun (op ∷ ops) ps = and_more (goes_so op.2 ps) op.0 (λ u. operators_begun ops ps)

abbrev pub by_row_so : Bool → (Unit {0} → List ℕ) → (Unit {0} → List ℕ) → List ℕ
by_row_so true f g = f tt
by_row_so false f g = g tt

abbrev pub operators_at : List (ℕ × List (ℕ × ℕ × List ℕ)) → ℕ → List Place → List ℕ
operators_at [] kind ps = EOF ∷ []
operators_at (row ∷ rows) kind ps =
    by_row_so (row.0 == kind) (λ u. operators_begun row.1 ps) (λ u. operators_at rows kind ps)

abbrev pub operators_of : List (ℕ × List (ℕ × ℕ × List ℕ)) → List ℕ → List Place → List ℕ
operators_of rows [] ps = []
operators_of rows (k ∷ ks) ps = operators_at rows k ps ++ operators_of rows ks ps

abbrev pub operators_known : Option (List ℕ) → List Place → Option (List ℕ)
operators_known None ps = None
operators_known (Some ks) ps = Some (operators_of operators ks ps)

-- what is known of a test
abbrev pub evaluate : Test → List Place → Answer
evaluate (kind_so n f) ps = decided f (place_at n ps).kinds
evaluate (word_so n f) ps = decided f (place_at n ps).words
evaluate (edition_so n f) ps = unclear
evaluate (comes n k) ps = comes_so (parts k) k (drop n ps)
evaluate (borne n k) ps = borne_so k (place_at 0 (drop n ps))
evaluate (negated t) ps = not_so (evaluate t ps)
evaluate (also s t) ps = and_then (evaluate s ps) (λ u. evaluate t ps)
evaluate (or_else s t) ps = or_then (evaluate s ps) (λ u. evaluate t ps)
evaluate (told b) ps = of_truth b
evaluate (operator_so f) ps = decided f (operators_known (place_at 0 ps).kinds ps)

abbrev pub either_so : Answer → Answer → Answer
either_so sure sure = sure
either_so never never = never
either_so a b = unclear

-- what is known of a test, by each of the ways in which the tokens may go on
abbrev pub evaluate_all : Test → List (List Place) → Answer
evaluate_all h [] = sure
evaluate_all h (p ∷ []) = evaluate h p
evaluate_all h (p ∷ q ∷ ps) = either_so (evaluate h p) (evaluate_all h (q ∷ ps))

-- whether what is known says the second
abbrev pub says_of : Option (List ℕ) → Option (List ℕ) → Bool
says_of a None = true
says_of None (Some ks) = false
says_of (Some js) (Some ks) = every_one (among ks) js

abbrev pub says_so : Answer → Answer → Bool
says_so a unclear = true
says_so sure sure = true
says_so never never = true
says_so a b = false

abbrev pub says_place : Place → Place → Bool
says_place p q = says_of p.kinds q.kinds && (says_of p.words q.words && says_so p.joint q.joint)

abbrev pub says_one : List Place → List Place → Bool
says_one ps [] = true
says_one [] (q ∷ qs) = false
says_one (p ∷ ps) (q ∷ qs) = says_place p q && says_one ps qs

abbrev pub says_some : List Place → List (List Place) → Bool
says_some p [] = false
says_some p (q ∷ qs) = says_one p q || says_some p qs

abbrev pub says : List (List Place) → List (List Place) → Bool
says [] qs = true
says (p ∷ ps) qs = says_some p qs && says ps qs
