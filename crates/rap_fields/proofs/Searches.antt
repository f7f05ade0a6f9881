-- A search from left to right: what a list says is what it says of the element here, or of those behind it. A name in
-- the table of names.
use Rattle.std.proofs.Common.{◌≡◌, ◌≢◌, ℕ, ◌+◌, ◌<◌, ◌≤◌, ◌==◌, ◌||◌, length, get_or, drop, map, true, false, Bool, Bor, List, [], ◌∷◌, if◌then◌else◌, refl, sym, ap, ◌∙◌, arith}
use Rattle.std.proofs.lemmas.Bool.{eq-eqb, eqb-true}
use Rattle.std.proofs.lemmas.List.{drop_more, get_or-map, length-map}
use Rattle.std.proofs.lemmas.Simd.{map-map}
use Rattle.std.specs.Prelude.{slice_index_or}
use Rattle.rap_fields.specs.FieldNames.{YIELD_TOKEN, names, numbered}
use Rattle.rap_fields.specs.Rule.{Look, Row, look_of, of_field}
use Rattle.rap_fields.specs.RuleOf.{name_of}
use Rattle.rap_fields.specs.declared.rule.Step.{Step}
use Rattle.rap_grammar_table.proofs.Table.{table}
use Rattle.rap_grammar_table.specs.Known.{among}

pub unequal : {a b : ℕ} → a ≢ b → (a == b) ≡ false
unequal {a} {b} n = by_test (a == b) refl where
  by_test : (t : Bool) → (a == b) ≡ t → (a == b) ≡ false
  by_test false e = e
  by_test true e = absurd (n (eqb-true a b e))

pub among_here : (ks : List ℕ) (i k : ℕ) → i < length ks → get_or ks i 0 ≡ k → among (drop i ks) k ≡ true
among_here ks i k l e =
    ap (λ (js : List ℕ). among js k) (drop_more ks i 0 l)
    ∙ ap (λ b. b || among (drop (i + 1) ks) k) (eq-eqb (get_or ks i 0) k e)

pub among_later : (ks : List ℕ) (i k : ℕ) → i < length ks → get_or ks i 0 ≢ k →
    among (drop i ks) k ≡ among (drop (i + 1) ks) k
among_later ks i k l n =
    ap (λ (js : List ℕ). among js k) (drop_more ks i 0 l)
    ∙ ap (λ b. b || among (drop (i + 1) ks) k) (unequal n)

pub field_here : (f : ℕ) (r : Row) (rs : List Row) → r.0 ≡ f → of_field f (r ∷ rs) ≡ r.1
field_here f (g, ls) rs e = ap (λ b. if b then ls else of_field f rs) (eq-eqb g f e)

pub field_later : (f : ℕ) (r : Row) (rs : List Row) → r.0 ≢ f → of_field f (r ∷ rs) ≡ of_field f rs
field_later f (g, ls) rs n = ap (λ b. if b then ls else of_field f rs) (unequal n)

-- a row as contracts see it
abbrev row_seen : ℕ × Bor (List Step) → Row
row_seen row = (row.0, map {B = Look} look_of row.1.now)

pub rule_here : (f : ℕ) (rows : List (ℕ × Bor (List Step))) (i : ℕ) (none : ℕ × Bor (List Step)) → i < length rows →
    (get_or rows i none).0 ≡ f → of_field f (map row_seen (drop i rows)) ≡ map look_of (get_or rows i none).1.now
rule_here f rows i none l e =
    ap (λ (rs : List (ℕ × Bor (List Step))). of_field f (map row_seen rs)) (drop_more rows i none l)
    ∙ field_here f (row_seen (get_or rows i none)) (map row_seen (drop (i + 1) rows)) e

pub rule_later : (f : ℕ) (rows : List (ℕ × Bor (List Step))) (i : ℕ) (none : ℕ × Bor (List Step)) → i < length rows →
    (get_or rows i none).0 ≢ f → of_field f (map row_seen (drop i rows)) ≡ of_field f (map row_seen (drop (i + 1) rows))
rule_later f rows i none l n =
    ap (λ (rs : List (ℕ × Bor (List Step))). of_field f (map row_seen rs)) (drop_more rows i none l)
    ∙ field_later f (row_seen (get_or rows i none)) (map row_seen (drop (i + 1) rows)) n

-- a row of the table of names as contracts see it
abbrev named_row : Bor (List ℕ) × ℕ → List ℕ × ℕ
named_row row = (row.0.now, row.1)

-- the text at a field's number is its name, where the table's rows are the names and the numbers
pub name_at : (table : List (Bor (List ℕ) × ℕ)) (number field : ℕ) (none : Bor (List ℕ) × ℕ) →
    map named_row table ≡ numbered → number ≡ field → field ≤ YIELD_TOKEN →
    (slice_index_or table number none).0.now ≡ name_of field
name_at table number field none rows same last =
    let long : length table ≡ 226 = sym (length-map table named_row) ∙ ap length rows in
    let texts : map (λ row. row.0.now) table ≡ names =
    sym (map-map (λ row. row.0) named_row table) ∙ ap (λ l. map (λ row. row.0) l) rows in
    sym (get_or-map (λ row. row.0.now) table number none [] (omega arith))
    ∙ ap (λ l. slice_index_or l number []) texts
    ∙ ap name_of same
