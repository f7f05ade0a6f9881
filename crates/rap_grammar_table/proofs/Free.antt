-- What falls out of a checked table: one tree for the same tokens, and no message in it.
use Rattle.std.proofs.Common.{◌≡◌, ℕ, ◌+◌, List, [], ◌∷◌, refl, ap, sym, ◌∙◌, arith, true}
use Rattle.rap_events.specs.Forest.{Forest, none, ◌⧺◌, message_count}
use Rattle.rap_events.specs.Record.{Record}
use Rattle.rap_grammar_scripts.proofs.Forests.{message_count-⧺}
use Rattle.rap_grammar_scripts.proofs.OneEnd.{one_end}
use Rattle.rap_grammar_scripts.specs.Script.{Spot}
use Rattle.rap_grammar_scripts.specs.declared.rule.Rule.{Rule}
use Rattle.rap_grammar_table.specs.Category.{Category}
use Rattle.rap_grammar_table.proofs.Good.{Good, good_category, Reads}
use Rattle.rap_grammar_table.specs.Known.{Sees}
use Rattle.rap_grammar_table.proofs.Hints.{Table}
use Rattle.rap_grammar_table.specs.Table.{Grammar, Goal, one, rest_of, cat, Derives, by_row, a_token, a_word, an_operator, ended, begun, closed, put, first_way, second_way, last_turn, one_turn, repeated, grouped, folded_none, folded_more, folded, guarded}
use Rattle.rap_grammar_table.proofs.Ways.{some_outcome}
use Rattle.rap_grammar_table.proofs.Sound.{Checked, claim}
use Rattle.rap_grammar_table.proofs.Values.{none-⧺}

read_alone : {t : Table} {c : Category} {ks l : List Record} {y : Forest} (r : Rule) → some_outcome (t.reads r c) ≡ true →
    Good t (cat c) ks y l → Reads t r c ks y l none []
read_alone r h (good_category x n p o z) = z r none [] h

-- the same tokens of a category have one tree, before tokens that may follow
pub unique : {t : Table} → Checked t → (c : Category) (r : Rule) → some_outcome (t.reads r c) ≡ true → {ks : List Record}
    {y z : Forest} → Derives t.rows (one (cat c)) ks y → Derives t.rows (one (cat c)) ks z → (l : List Record) → Sees (t.follows c) l → y ≡ z
unique o c r h {y = y} {z = z} d e l s =
    let m = read_alone r h (claim o d l s) in
    let n = read_alone r h (claim o e l s) in
    let same = one_end m.run n.run in
    sym (none-⧺ y) ∙ (ap (λ (p : Spot). p.forest) same.spot ∙ none-⧺ z)

-- no message
abbrev none_in : List Forest → Type 0
none_in [] = Unit {0}
none_in (x ∷ xs) = (message_count x ≡ 0) × none_in xs

abbrev Clean : Goal → Forest → Type 0
Clean (one p) y = message_count y ≡ 0
Clean (rest_of is x xs) y = message_count x ≡ 0 → none_in xs → message_count y ≡ 0

both_clean : (x u : Forest) → message_count x ≡ 0 → message_count u ≡ 0 → message_count (x ⧺ u) ≡ 0
both_clean x u h i = omega (arith, message_count-⧺ x u, h, i)

sum_clean : (a b : ℕ) → a ≡ 0 → b ≡ 0 → a + b ≡ 0
sum_clean a b h i = omega (arith, h, i)

left_clean : (a b : ℕ) → a + b ≡ 0 → a ≡ 0
left_clean a b h = omega (arith, h)

right_clean : (a b : ℕ) → a + b ≡ 0 → b ≡ 0
right_clean a b h = omega (arith, h)

pub clean : {g : Grammar} {q : Goal} {ks : List Record} {y : Forest} → Derives g q ks y → Clean q y
clean (by_row n e d) = clean d refl tt
clean (a_token m w) = refl
clean (a_word e i) = refl
clean (an_operator x) = refl
clean ended = λ h i. h
clean (begun d) = λ h i. clean d refl (h, i)
clean (closed {x = x} {z = z} d) = λ h i. clean d (sum_clean (message_count z) (message_count x) i.0 h) i.1
clean (put {x = x} {u = u} d e) = λ h i. clean e (both_clean x u h (clean d)) i
clean (first_way d) = λ h i. clean d h i
clean (second_way d) = λ h i. clean d h i
clean (last_turn d) = λ h i. clean d refl tt
clean (one_turn {x = x} {y = y} d e) = λ h i. both_clean x y (clean d refl tt) (clean e refl tt)
clean (repeated {x = x} {u = u} d e) = λ h i. clean e (both_clean x u h (clean d refl tt)) i
clean (grouped {x = x} {u = u} d e) = λ h i. clean e (both_clean x u h (clean d refl tt)) i
clean (guarded g d) = λ h i. clean d h i
clean folded_none = λ h i. h
clean (folded_more w i d e) = λ h i. clean e (clean d h (refl, tt)) tt
clean (folded {c = cs} {x = x} {u = u} d e) = λ h i.
    clean e (both_clean x u (left_clean (message_count x) (message_count cs) h)
    (clean d (sum_clean 0 (message_count cs) refl (right_clean (message_count x) (message_count cs) h)) tt)) i
