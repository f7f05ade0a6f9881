-- All rules of the knot end at the levels that their table says: expressions and statements by hand, where the dots
-- of a range are read behind a float that ends in a dot, and the others computed from their scripts.
use Rattle.std.proofs.Common.{◌≡◌, ℕ, Bool, true, false, ◌&&◌, ◌||◌, ◌==◌, not, nat_lt, List, [], ◌∷◌, if◌then◌else◌, inl, inr, refl, sym, ap, ◌∙◌, subst, arith}
use Rattle.std.proofs.lemmas.Bool.Decides.{nat_tests}
use Rattle.rap_base.specs.TokenKind.{EOF, DOT, DOT2, DOT2EQ, EQ, R_CURLY}
use Rattle.rap_events.proofs.Truth.{and_left, and_right, or_either}
use Rattle.rap_events.specs.Composite.{is_at, begins_with}
use Rattle.rap_events.specs.OperatorTable.{operators, powers}
use Rattle.rap_events.specs.Power.{power, power_in}
use Rattle.rap_events.specs.Record.{Record, next_kind}
use Rattle.rap_grammar_scripts.specs.Attributes.{outer_attrs}
use Rattle.rap_grammar_scripts.specs.ThroughKnot.{as_statement}
use Rattle.rap_grammar_scripts.specs.Postfix.{after_dot_turn, postfix_dot_expr, postfix_turn, postfix_expr}
use Rattle.rap_grammar_scripts.specs.Operators.{operation, climb_turn, climb}
use Rattle.rap_grammar_scripts.specs.Expressions.{lhs, expr_from}
use Rattle.rap_grammar_scripts.specs.Items.{opt_item}
use Rattle.rap_grammar_scripts.specs.Blocks.{let_stmt}
use Rattle.rap_base.specs.NodeKind.{LET_STMT}
use Rattle.rap_grammar_scripts.specs.Knot.{script_of}
use Rattle.rap_grammar_scripts.specs.Operator.{operator_at, operator_in}
use Rattle.rap_grammar_scripts.specs.declared.rule.Rule.{Rule}
use Rattle.rap_grammar_scripts.specs.declared.rule.Rule.TheVariants as knot
use Rattle.rap_grammar_scripts.specs.Test.{Test, holds}
use Rattle.rap_grammar_scripts.specs.Script.{Script, Outcome, nothing, something, block, again, give, test, finish, extend, abandon}
use Rattle.rap_grammar_scripts.specs.Statements.{ends_block, expr_stmt_end, expr_as_stmt, stmt}
use Rattle.rap_grammar_scripts.specs.Words.{done, if_some, is_block, call, by_operator, by_operator_of, ◌▸◌}
use Rattle.rap_grammar_scripts.specs.declared.arguments.Restrictions.{Restrictions}
use Rattle.rap_grammar_scripts.specs.declared.arguments.Semicolon.{Semicolon}
use Rattle.rap_grammar_scripts.specs.declared.arguments.Semicolon.TheVariants as kind
use Rattle.rap_grammar_ends.proofs.Endings.{every, Turned}
use Rattle.rap_grammar_scripts.proofs.Scripts.{scripts}
use Rattle.rap_grammar_ends.proofs.DotEnds.{Level, inside, ranged, free, within, Levels, levels, same_lower, as_good, extended, dot_ends}
use Rattle.rap_grammar_ends.proofs.DotFits.{Next, Implies, Never, at_range, both, but, Fits, fits_give, fits_settled, fits_test, fits_token, fits_start, fits_precede, fits_extend, fits_split, fits_after, fits_loop, both_implies, but_implies, range_implies, same_lower_is, computed}
use Rattle.rap_grammar_ends.proofs.DotKeeps.{as_said, Sound}

-- The dots of a range begin with a dot, and are an operator of power 2.
same_kind : (k j : ℕ) → (k == j) ≡ true → k ≡ j
same_kind k j h = grind (arith, nat_tests)

dot_first : (k : ℕ) (ks : List ℕ) (rs : List Record) → begins_with (DOT ∷ k ∷ ks) rs ≡ true → next_kind rs ≡ DOT
dot_first k ks [] h = absurd cc
dot_first k ks (r ∷ rs) h = same_kind r.kind DOT (and_left (r.kind == DOT) _ h)

range_first : (rs : List Record) → at_range rs ≡ true → next_kind rs ≡ DOT
range_first rs h = elim (or_either (is_at DOT2EQ rs) (is_at DOT2 rs) h) [
  | inl i ↦ dot_first DOT (EQ ∷ []) rs i
  | inr i ↦ dot_first DOT [] rs i
]

at_dots : (k : ℕ) (rs : List Record) → k ≡ DOT →
    operator_in operators k rs ≡ (if is_at DOT2EQ rs then DOT2EQ else (if is_at DOT2 rs then DOT2 else EOF))
at_dots k rs e = rw e refl

power_of_dots : (b c : Bool) → (b || c) ≡ true → power (if b then DOT2EQ else (if c then DOT2 else EOF)) ≡ 2
power_of_dots true c h = refl
power_of_dots false true h = refl
power_of_dots false false h = absurd cc

range_power : (rs : List Record) → at_range rs ≡ true → power (operator_at rs) ≡ 2
unfolding operator_at
range_power rs h =
    ap power (at_dots (next_kind rs) rs (range_first rs h)) ∙ power_of_dots (is_at DOT2EQ rs) (is_at DOT2 rs) h

-- What goes on after both tests.
tested : {n : Next} {h : Test} {s t : Script Rule} {l : Level} {ls : List Bool} {f : Outcome → Levels → Bool} →
    Implies n at_range → (Implies (both n (holds h)) at_range → Fits (both n (holds h)) s l ls f) →
    (Implies (but n (holds h)) at_range → Fits (but n (holds h)) t l ls f) → Fits n (test h s t) l ls f
tested {n = n} {h = h} i s t =
    fits_test (s (both_implies n (holds h) at_range i)) (t (but_implies n (holds h) at_range i))

by_computing : {n : Next} {s : Script Rule} {l : Level} {ls : List Bool} {f : Outcome → Levels → Bool} →
    Implies n at_range → every f (dot_ends s l ls) ≡ true → Fits n s l ls f
by_computing {n = n} {s = s} {l = l} {ls = ls} {f = f} i e = computed s n l ls f i e

-- at this level or a better one, above these
good_lower : (m : Level) (ms : List Bool) (l : Level) (ls : List Bool) → as_good m ms (levels l ls) ≡ true → ls ≡ ms
good_lower m ms l ls h = same_lower_is ls ms (and_right (within l m) (same_lower ls ms) h)

good_level : (m : Level) (ms : List Bool) (l : Level) (ls : List Bool) → as_good m ms (levels l ls) ≡ true →
    within l m ≡ true
good_level m ms l ls h = and_left (within l m) (same_lower ls ms) h

-- what an operand leaves behind a dot: the last node may end in the dot of a float where nothing is answered
abbrev dot_end : Outcome → Levels → Bool
dot_end nothing n = as_good ranged (true ∷ []) n
dot_end something n = as_good inside (true ∷ []) n
dot_end block n = false
dot_end (again a b) n = false

after_turn : (a b : Bool) →
    Fits at_range (after_dot_turn a b) free (true ∷ true ∷ []) (Turned (as_good free (true ∷ true ∷ [])) dot_end)
unfolding scripts
after_turn a b =
    tested range_implies
    (λ i. fits_split (fits_test (fits_give (λ rs e. e) refl) (fits_precede (fits_give range_implies refl)))
    (fits_give range_implies refl))
    (λ i. by_computing i refl)

behind_dot : {n : Next} → Fits n postfix_dot_expr inside (true ∷ []) dot_end
unfolding scripts
behind_dot = fits_precede (fits_token (fits_loop range_implies refl after_turn))

-- what an operand leaves
abbrev operand_end : Outcome → Levels → Bool
operand_end nothing n = as_good inside (true ∷ []) n
operand_end something n = as_good ranged (true ∷ []) n
operand_end block n = as_good ranged (true ∷ []) n
operand_end (again a b) n = false

abbrev turn_end : Outcome → Levels → Bool
turn_end = Turned (as_good inside (true ∷ [])) operand_end

-- an operand that goes on as a block or not
as_it_was : {n : Next} (blocky : Bool) (l : Level) → Implies n at_range → within l ranged ≡ true →
    Fits n (give (if blocky then block else something)) l (true ∷ []) turn_end
as_it_was true l i w = fits_give i (rw w refl)
as_it_was false l i w = fits_give i (rw w refl)

access_on : (blocky : Bool) (v : Outcome) (l : Level) (ls : List Bool) → dot_end v (levels l ls) ≡ true →
    Fits at_range (if_some v (give (again true false)) (give (if blocky then block else something))) l ls turn_end
access_on blocky nothing l ls e =
    rw (good_lower ranged (true ∷ []) l ls e) (as_it_was blocky l range_implies (good_level ranged (true ∷ []) l ls e))
access_on blocky something l ls e = fits_give range_implies e
access_on blocky block l ls e = absurd cc
access_on blocky (again a b) l ls e = absurd cc

operand_turn : (calls blocky : Bool) → Fits at_range (postfix_turn calls blocky) inside (true ∷ []) turn_end
unfolding scripts
operand_turn calls blocky =
    tested range_implies (λ i. by_computing i refl)
    (λ j. tested j (λ i. by_computing i refl)
    (λ k. tested k (λ i. fits_after behind_dot (access_on blocky))
    (λ m. tested m (λ i. by_computing i refl)
    (λ i. as_it_was blocky inside i refl))))

operand : {n : Next} (a b : Bool) → Implies n at_range → Fits n (postfix_expr a b) inside (true ∷ []) operand_end
unfolding scripts
operand a b i = fits_loop i refl operand_turn

-- what an atom leaves
abbrev flat_end : Outcome → Levels → Bool
flat_end nothing n = as_good inside (true ∷ []) n
flat_end something n = as_good inside (true ∷ []) n
flat_end block n = as_good inside (true ∷ []) n
flat_end (again a b) n = false

is_inside : (l : Level) → within l inside ≡ true → l ≡ inside
is_inside inside h = refl
is_inside ranged h = absurd cc
is_inside free h = absurd cc

abbrev restrictions : Bool → Bool → Restrictions
restrictions a b = record { forbid_structs = a; prefer_stmt = b }

atom_on : (a b : Bool) (v : Outcome) (l : Level) (ls : List Bool) → flat_end v (levels l ls) ≡ true →
    Fits at_range (if_some v (postfix_expr (not (b && is_block v)) (is_block v)) (give nothing)) l ls operand_end
atom_on a b nothing l ls e = fits_give range_implies e
atom_on a b something l ls e =
    rw (is_inside l (good_level inside (true ∷ []) l ls e), good_lower inside (true ∷ []) l ls e)
    (operand (not (b && false)) false range_implies)
atom_on a b block l ls e =
    rw (is_inside l (good_level inside (true ∷ []) l ls e), good_lower inside (true ∷ []) l ls e)
    (operand (not (b && true)) true range_implies)
atom_on a b (again c d) l ls e = absurd cc

left_side : {n : Next} (a b : Bool) → Implies n at_range →
    Fits n (lhs (restrictions a b)) inside (true ∷ []) operand_end
unfolding scripts
left_side a true i =
    tested i (λ j. by_computing j refl)
    (λ k. tested k (λ j. by_computing j refl)
    (λ m. tested m (λ j. by_computing j refl)
    (λ o. tested o (λ j. by_computing j refl)
    (λ j. fits_after (by_computing {f = flat_end} j refl) (atom_on a true)))))
left_side a false i =
    tested i (λ j. by_computing j refl)
    (λ k. tested k (λ j. by_computing j refl)
    (λ m. tested m (λ j. by_computing j refl)
    (λ o. tested o (λ j. by_computing j refl)
    (λ j. fits_after (by_computing {f = flat_end} j refl) (atom_on a false)))))

-- Operators of at least a power: where that is no more than the power of a range, the dots of one are read.
abbrev climb_end : Bool → Outcome → Levels → Bool
climb_end true v n = as_good ranged [] n
climb_end false v n = as_good inside [] n

abbrev all_rows : (Outcome → Levels → Bool) → (ℕ → Script Rule) → List (ℕ × ℕ) → Bool
all_rows f h [] = true
all_rows f h (row ∷ rows) = every f (dot_ends (h row.0) ranged []) && all_rows f h rows

none_left : (b c : Bool) → c ≡ false → (b ≡ true → c ≡ true) → b ≡ false
none_left true c e i = let z : true ≡ false = sym (i refl) ∙ e in absurd cc
none_left false c e i = refl

later_row : (b : Bool) (k m : ℕ) → not b ≡ true → nat_lt 0 (if b then k else m) ≡ true → nat_lt 0 m ≡ true
later_row true k m h e = absurd cc
later_row false k m h e = e

by_rows : (rows : List (ℕ × ℕ)) (h : ℕ → Script Rule) (n : Next) (f : Outcome → Levels → Bool) →
    Implies n at_range → ((rs : List Record) → n rs ≡ true → nat_lt 0 (power_in rows (operator_at rs)) ≡ true) →
    all_rows f h rows ≡ true → f something (levels inside []) ≡ true → Fits n (by_operator_of rows h) ranged [] f
by_rows [] h n f i p e s = fits_settled (λ rs. none_left (n rs) false refl (p rs)) s
by_rows (row ∷ rows) h n f i p e s =
    let here : Next = λ rs. row.0 == operator_at rs in
    tested i (λ j. computed (h row.0) (both n here) ranged [] f j (and_left _ _ e))
    (λ j. by_rows rows h (but n here) f j
    (λ rs k. later_row (row.0 == operator_at rs) row.1 (power_in rows (operator_at rs))
    (and_right (n rs) (not (here rs)) k) (p rs (and_left (n rs) (not (here rs)) k)))
    (and_right (every f (dot_ends (h row.0) ranged [])) _ e) s)

climb_turn_end : Bool → Outcome → Levels → Bool
climb_turn_end w v n = Turned (as_good ranged []) (climb_end w) v n

rows_end : (r : Restrictions) (w : Bool) → all_rows (climb_turn_end w) (operation r) powers ≡ true
unfolding scripts climb_turn_end
rows_end r true = refl
rows_end r false = refl

climb_settled : (bp : ℕ) → nat_lt 2 bp ≡ false → Never (both at_range (λ rs. nat_lt (power (operator_at rs)) bp))
climb_settled bp h rs =
    none_left (at_range rs && nat_lt (power (operator_at rs)) bp) (nat_lt 2 bp) h
    (λ e. subst (λ (k : ℕ). nat_lt k bp ≡ true) (range_power rs (and_left (at_range rs) _ e))
    (and_right (at_range rs) _ e))

some_power : (n : Next) → Implies n at_range → (rs : List Record) → n rs ≡ true →
    nat_lt 0 (power_in powers (operator_at rs)) ≡ true
some_power n i rs e = rw (range_power rs (i rs e)) refl

climbs : (r : Restrictions) (bp : ℕ) (w : Bool) → nat_lt 2 bp ≡ w → (a b : Bool) →
    Fits at_range (climb_turn r bp a b) ranged [] (climb_turn_end w)
unfolding by_operator climb_turn_end
climbs r bp true h a b =
    tested range_implies (λ i. fits_give i refl)
    (λ j. by_rows powers (operation r) _ (climb_turn_end true) j (some_power _ j) (rows_end r true) refl)
climbs r bp false h a b =
    tested range_implies (λ i. fits_settled (climb_settled bp h) refl)
    (λ j. by_rows powers (operation r) _ (climb_turn_end false) j (some_power _ j) (rows_end r false) refl)

climb_fits : {n : Next} (r : Restrictions) (bp : ℕ) (w : Bool) → nat_lt 2 bp ≡ w → (l : Level) → Implies n at_range →
    within l ranged ≡ true → Fits n (climb r bp) l [] (climb_end w)
unfolding climb climb_turn_end
climb_fits r bp w h l i near = fits_loop i near (climbs r bp w h)

climbed : (r : Restrictions) (bp : ℕ) (w : Bool) → nat_lt 2 bp ≡ w → (l : Level) (ls : List Bool) (v : Outcome) →
    climb_end w v (levels l ls) ≡ true → as_said (knot.ExprBp r bp) something (levels l ls) ≡ true
climbed r bp true h l [] v e = rw h (and_left (within l ranged) true e)
climbed r bp false h l [] v e = rw h (and_left (within l inside) true e)
climbed r bp true h l (c ∷ ls) v e = let z = and_right (within l ranged) false e in absurd cc
climbed r bp false h l (c ∷ ls) v e = let z = and_right (within l inside) false e in absurd cc

-- the operators behind an operand
operators_on : {n : Next} (r : Restrictions) (bp : ℕ) (l : Level) → Implies n at_range → within l ranged ≡ true →
    Fits n (call (climb r bp) ▸ done) l [] (as_said (knot.ExprBp r bp))
operators_on r bp l i near =
    fits_after (climb_fits r bp (nat_lt 2 bp) refl l i near)
    (λ v m ms e. fits_give range_implies (climbed r bp (nat_lt 2 bp) refl m ms v e))

extended_near : (l : Level) → within l ranged ≡ true → within (extended l true) ranged ≡ true
extended_near inside h = refl
extended_near ranged h = refl
extended_near free h = absurd cc

operand_on : (a b : Bool) (bp : ℕ) (v : Outcome) (l : Level) (ls : List Bool) → operand_end v (levels l ls) ≡ true →
    Fits at_range (if_some v (extend ▸ (if b && is_block v then give block
    else (call (climb (restrictions a b) bp) ▸ done))) (abandon ▸ give nothing)) l ls
    (as_said (knot.ExprBp (restrictions a b) bp))
operand_on a b bp nothing l ls e =
    rw (is_inside l (good_level inside (true ∷ []) l ls e), good_lower inside (true ∷ []) l ls e)
    (by_computing range_implies refl)
operand_on a true bp something l ls e =
    rw (good_lower ranged (true ∷ []) l ls e)
    (fits_extend (operators_on (restrictions a true) bp (extended l true) range_implies
    (extended_near l (good_level ranged (true ∷ []) l ls e))))
operand_on a false bp something l ls e =
    rw (good_lower ranged (true ∷ []) l ls e)
    (fits_extend (operators_on (restrictions a false) bp (extended l true) range_implies
    (extended_near l (good_level ranged (true ∷ []) l ls e))))
operand_on a true bp block l ls e =
    rw (good_lower ranged (true ∷ []) l ls e)
    (fits_extend (fits_give range_implies (extended_near l (good_level ranged (true ∷ []) l ls e))))
operand_on a false bp block l ls e =
    rw (good_lower ranged (true ∷ []) l ls e)
    (fits_extend (operators_on (restrictions a false) bp (extended l true) range_implies
    (extended_near l (good_level ranged (true ∷ []) l ls e))))
operand_on a b bp (again c d) l ls e = absurd cc

from_node : {n : Next} (a b : Bool) (bp : ℕ) → Implies n at_range →
    Fits n (expr_from (restrictions a b) bp) inside (true ∷ []) (as_said (knot.ExprBp (restrictions a b) bp))
unfolding scripts
from_node a b bp i =
    tested i (λ j. fits_after (left_side a b j) (operand_on a b bp)) (λ j. by_computing j refl)

-- what is left flat
flat_level : (v : Outcome) (l : Level) (ls : List Bool) → flat_end v (levels l ls) ≡ true → l ≡ inside
flat_level nothing l ls e = is_inside l (good_level inside (true ∷ []) l ls e)
flat_level something l ls e = is_inside l (good_level inside (true ∷ []) l ls e)
flat_level block l ls e = is_inside l (good_level inside (true ∷ []) l ls e)
flat_level (again a b) l ls e = absurd cc

flat_lower : (v : Outcome) (l : Level) (ls : List Bool) → flat_end v (levels l ls) ≡ true → ls ≡ true ∷ []
flat_lower nothing l ls e = good_lower inside (true ∷ []) l ls e
flat_lower something l ls e = good_lower inside (true ∷ []) l ls e
flat_lower block l ls e = good_lower inside (true ∷ []) l ls e
flat_lower (again a b) l ls e = absurd cc

-- behind attributes
attributed : {n : Next} {s : Script Rule} {f : Outcome → Levels → Bool} → Implies n at_range →
    Fits at_range s inside (true ∷ []) f → Fits n (call outer_attrs ▸ s) inside (true ∷ []) f
unfolding scripts
attributed i s =
    fits_after (by_computing {f = flat_end} i refl)
    (λ v l ls e. rw (flat_level v l ls e, flat_lower v l ls e) s)

an_expression : (a b : Bool) (bp : ℕ) →
    Fits at_range (script_of (knot.ExprBp (restrictions a b) bp)) inside []
    (as_said (knot.ExprBp (restrictions a b) bp))
unfolding scripts
an_expression a b bp = fits_start (attributed range_implies (from_node a b bp range_implies))

-- The dots of a range end no block.
no_kind : (k : ℕ) (rs : List Record) → next_kind rs ≡ DOT → (DOT == k) ≡ false → (next_kind rs == k) ≡ false
no_kind k rs e h = rw e h

goes_on : (semi : Semicolon) (rs : List Record) → next_kind rs ≡ DOT → holds (ends_block semi) rs ≡ false
goes_on kind.Required rs e = no_kind R_CURLY rs e refl
goes_on kind.Optional rs e = rw (no_kind R_CURLY rs e refl, no_kind EOF rs e refl) refl
goes_on kind.Forbidden rs e = rw (no_kind R_CURLY rs e refl, no_kind EOF rs e refl) refl

block_goes_on : (semi : Semicolon) → Never (both at_range (holds (ends_block semi)))
block_goes_on semi rs =
    none_left (at_range rs && holds (ends_block semi) rs) false refl
    (λ e. sym (goes_on semi rs (range_first rs (and_left (at_range rs) _ e))) ∙ and_right (at_range rs) _ e)

-- an expression that ends a statement
ended : (semi : Semicolon) (like : Bool) (l : Level) → within l ranged ≡ true →
    Fits at_range (expr_stmt_end semi like) l [] (as_said (knot.Stmt semi))
unfolding scripts
ended kind.Required true inside h = by_computing range_implies refl
ended kind.Required false inside h = by_computing range_implies refl
ended kind.Optional like inside h = by_computing range_implies refl
ended kind.Forbidden like inside h = by_computing range_implies refl
ended kind.Required true ranged h =
    tested range_implies (λ i. fits_settled (block_goes_on kind.Required) refl) (λ i. by_computing i refl)
ended kind.Required false ranged h =
    tested range_implies (λ i. fits_settled (block_goes_on kind.Required) refl) (λ i. by_computing i refl)
ended kind.Optional like ranged h =
    tested range_implies (λ i. fits_settled (block_goes_on kind.Optional) refl) (λ i. by_computing i refl)
ended kind.Forbidden like ranged h =
    tested range_implies (λ i. fits_settled (block_goes_on kind.Forbidden) refl) (λ i. by_computing i refl)
ended semi like free h = absurd cc

near_ranged : (l : Level) → within l inside ≡ true → within l ranged ≡ true
near_ranged inside h = refl
near_ranged ranged h = absurd cc
near_ranged free h = absurd cc

value_on : (semi : Semicolon) (v : Outcome) (l : Level) (ls : List Bool) →
    as_said (knot.ExprBp as_statement 1) v (levels l ls) ≡ true →
    Fits at_range (if_some v (expr_stmt_end semi (is_block v)) done) l ls (as_said (knot.Stmt semi))
value_on semi v l (c ∷ ls) e = absurd cc
value_on semi nothing l [] e = fits_give range_implies e
value_on semi something l [] e = ended semi false l (near_ranged l e)
value_on semi block l [] e = ended semi true l e
value_on semi (again a b) l [] e = absurd cc

-- an item in the place of a statement, or none
abbrev item_end : Outcome → Levels → Bool
item_end nothing n = as_good inside (true ∷ []) n
item_end something n = as_good inside [] n
item_end block n = false
item_end (again a b) n = false

value : {n : Next} (semi : Semicolon) → Implies n at_range →
    Fits n (expr_as_stmt semi) inside (true ∷ []) (as_said (knot.Stmt semi))
unfolding scripts
value semi i =
    tested i (λ j. fits_after (from_node false true 1 j) (value_on semi)) (λ j. by_computing j refl)

no_item_on : (semi : Semicolon) (v : Outcome) (l : Level) (ls : List Bool) → item_end v (levels l ls) ≡ true →
    Fits at_range (if_some v done (expr_as_stmt semi)) l ls (as_said (knot.Stmt semi))
no_item_on semi nothing l ls e =
    rw (is_inside l (good_level inside (true ∷ []) l ls e), good_lower inside (true ∷ []) l ls e)
    (value semi range_implies)
no_item_on semi something l ls e =
    rw (is_inside l (good_level inside [] l ls e), good_lower inside [] l ls e)
    (by_computing range_implies refl)
no_item_on semi block l ls e = absurd cc
no_item_on semi (again a b) l ls e = absurd cc

let_ends : (semi : Semicolon) →
    every (as_said (knot.Stmt semi)) (dot_ends (call (let_stmt semi) ▸ finish LET_STMT ▸ done) inside (true ∷ []))
    ≡ true
unfolding scripts
let_ends kind.Required = refl
let_ends kind.Optional = refl
let_ends kind.Forbidden = refl

item_ends : every item_end (dot_ends (opt_item false) inside (true ∷ [])) ≡ true
unfolding scripts
item_ends = refl

a_statement : (semi : Semicolon) → Fits at_range (stmt semi) inside [] (as_said (knot.Stmt semi))
unfolding stmt
a_statement semi =
    tested range_implies (λ i. fits_token (fits_give range_implies refl))
    (λ i. fits_start (attributed range_implies
    (tested range_implies
    (λ j. computed (call (let_stmt semi) ▸ finish LET_STMT ▸ done) _ inside (true ∷ []) _ j (let_ends semi))
    (λ j. fits_after (computed (opt_item false) _ inside (true ∷ []) item_end j item_ends) (no_item_on semi)))))

-- the rules that are computed
abbrev Computes : Rule → Type 0
Computes c = every (as_said c) (dot_ends (script_of c) inside []) ≡ true

-- lemmas: written by crates/rap_grammar_scripts/rules up to "end"
of_type_with_bounds_cond_true : Computes (knot.TypeWithBoundsCond true)
unfolding scripts
of_type_with_bounds_cond_true = refl

of_type_with_bounds_cond_false : Computes (knot.TypeWithBoundsCond false)
unfolding scripts
of_type_with_bounds_cond_false = refl

of_path_type_bounds : Computes knot.PathTypeBounds
unfolding scripts
of_path_type_bounds = refl

of_generic_arg : Computes knot.GenericArg
unfolding scripts
of_generic_arg = refl

of_generic_param_list : Computes knot.GenericParamList
unfolding scripts
of_generic_param_list = refl

of_bounds_without_colon : Computes knot.BoundsWithoutColon
unfolding scripts
of_bounds_without_colon = refl

of_where_clause : Computes knot.WhereClause
unfolding scripts
of_where_clause = refl

of_pattern : Computes knot.Pattern
unfolding scripts
of_pattern = refl

of_pattern_single : Computes knot.PatternSingle
unfolding scripts
of_pattern_single = refl

of_arm_pattern : Computes knot.ArmPattern
unfolding scripts
of_arm_pattern = refl

of_if_expr : Computes knot.IfExpr
unfolding scripts
of_if_expr = refl

of_item_or_macro_true_true : Computes (knot.ItemOrMacro true true)
unfolding scripts
of_item_or_macro_true_true = refl

of_item_or_macro_true_false : Computes (knot.ItemOrMacro true false)
unfolding scripts
of_item_or_macro_true_false = refl

of_item_or_macro_false_true : Computes (knot.ItemOrMacro false true)
unfolding scripts
of_item_or_macro_false_true = refl

of_item_or_macro_false_false : Computes (knot.ItemOrMacro false false)
unfolding scripts
of_item_or_macro_false_false = refl

of_use_tree : Computes knot.UseTree
unfolding scripts
of_use_tree = refl

of_meta : Computes knot.Meta
unfolding scripts
of_meta = refl

of_cfg_predicate : Computes knot.CfgPredicate
unfolding scripts
of_cfg_predicate = refl

of_token_tree : Computes knot.TokenTree
unfolding scripts
of_token_tree = refl

-- end

-- all rules
from_computed : (c : Rule) → Computes c → Fits at_range (script_of c) inside [] (as_said c)
from_computed c e = computed (script_of c) at_range inside [] (as_said c) range_implies e

statement_said : (semi : Semicolon) → Fits at_range (script_of (knot.Stmt semi)) inside [] (as_said (knot.Stmt semi))
unfolding script_of
statement_said semi = a_statement semi

pub dots_sound : Sound
dots_sound (knot.ExprBp r bp) = an_expression r.forbid_structs r.prefer_stmt bp
dots_sound (knot.Stmt semi) = statement_said semi
-- dots_sound: written by crates/rap_grammar_scripts/rules up to "end"
dots_sound (knot.TypeWithBoundsCond true) = from_computed (knot.TypeWithBoundsCond true) of_type_with_bounds_cond_true
dots_sound (knot.TypeWithBoundsCond false) =
    from_computed (knot.TypeWithBoundsCond false) of_type_with_bounds_cond_false
dots_sound knot.PathTypeBounds = from_computed knot.PathTypeBounds of_path_type_bounds
dots_sound knot.GenericArg = from_computed knot.GenericArg of_generic_arg
dots_sound knot.GenericParamList = from_computed knot.GenericParamList of_generic_param_list
dots_sound knot.BoundsWithoutColon = from_computed knot.BoundsWithoutColon of_bounds_without_colon
dots_sound knot.WhereClause = from_computed knot.WhereClause of_where_clause
dots_sound knot.Pattern = from_computed knot.Pattern of_pattern
dots_sound knot.PatternSingle = from_computed knot.PatternSingle of_pattern_single
dots_sound knot.ArmPattern = from_computed knot.ArmPattern of_arm_pattern
dots_sound knot.IfExpr = from_computed knot.IfExpr of_if_expr
dots_sound (knot.ItemOrMacro true true) = from_computed (knot.ItemOrMacro true true) of_item_or_macro_true_true
dots_sound (knot.ItemOrMacro true false) = from_computed (knot.ItemOrMacro true false) of_item_or_macro_true_false
dots_sound (knot.ItemOrMacro false true) = from_computed (knot.ItemOrMacro false true) of_item_or_macro_false_true
dots_sound (knot.ItemOrMacro false false) = from_computed (knot.ItemOrMacro false false) of_item_or_macro_false_false
dots_sound knot.UseTree = from_computed knot.UseTree of_use_tree
dots_sound knot.Meta = from_computed knot.Meta of_meta
dots_sound knot.CfgPredicate = from_computed knot.CfgPredicate of_cfg_predicate
dots_sound knot.TokenTree = from_computed knot.TokenTree of_token_tree

-- end
