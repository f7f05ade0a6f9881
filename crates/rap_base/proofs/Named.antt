-- A kind's name is looked up in the table.
use Rattle.std.proofs.Common.{List, [], length, map, ℕ, ◌≡◌, ◌≤◌, Bor, ap, sym, ◌∙◌, arith}
use Rattle.std.proofs.lemmas.List.{get_or-map, length-map}
use Rattle.std.proofs.lemmas.Simd.{map-map}
use Rattle.std.specs.Prelude.{slice_index_or}
use Rattle.rap_base.specs.Names.{names, name_of}
use Rattle.rap_base.specs.NodeKind.{PATH_META}
use Rattle.rap_base.specs.Numbered.{numbered}

-- a row of the table as a contract sees it
abbrev row_of : Bor (List ℕ) × ℕ → List ℕ × ℕ
row_of row = (row.0.now, row.1)

-- the text at a kind's number is its name, where the table's rows are the names and the numbers
pub table-names : (table : List (Bor (List ℕ) × ℕ)) (number kind : ℕ) (none : Bor (List ℕ) × ℕ) → map row_of table ≡ numbered → number ≡ kind → kind ≤ PATH_META → (slice_index_or table number none).0.now ≡ name_of kind
table-names table number kind none rows same last =
    let long : length table ≡ 330 = sym (length-map table row_of) ∙ ap length rows in
    let texts : map (λ row. row.0.now) table ≡ names = sym (map-map (λ row. row.0) row_of table) ∙ ap (λ l. map (λ row. row.0) l) rows in
    let found = get_or-map (λ row. row.0.now) table number none [] (omega arith) in
    sym found ∙ ap (λ texts. slice_index_or texts number []) texts ∙ ap name_of same
