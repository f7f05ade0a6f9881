-- Ranges, each in the one after it.
use Rattle.std.proofs.Common.{◌≡◌, ℕ, zero, suc, ◌+◌, ◌<◌, ◌≤◌, List, ◌++◌, codes, drop, length, get_or, refl, ap, sym, ◌∙◌, append_assoc, arith}
use Rattle.std.proofs.lemmas.List.{drop_all, drop_more}
use Rattle.rast_answers.specs.declared.extent.Extent.{Extent}
use Rattle.rast_document.specs.declared.document.Document.{Document}
use Rattle.rast_server.specs.SelectionText.{closing, extent_text, nested_from}

closing-suc : (n : ℕ) → closing (suc n) ≡ closing n ++ codes "}"
closing-suc zero = refl
closing-suc (suc n) = ap (λ l. codes "}" ++ l) (closing-suc n)

pub closing_more : (start : List ℕ) (n : ℕ) → start ++ closing (n + 1) ≡ (start ++ closing n) ++ codes "}"
closing_more start n =
    let next : n + 1 ≡ suc n = omega arith in
    ap (λ k. start ++ closing k) next ∙ ap (λ l. start ++ l) (closing-suc n) ∙ sym (append_assoc start (closing n) (codes "}"))

-- those from an index on, with the brackets that close them and those before
abbrev pub rest_nested : Document → List ℕ → List Extent → ℕ → List ℕ
rest_nested d before xs i = nested_from d before (drop i xs) ++ closing i

pub none_nested : (d : Document) (before : List ℕ) (xs : List Extent) (i : ℕ) → length xs ≤ i → rest_nested d before xs i ≡ closing i
none_nested d before xs i h = ap (λ l. nested_from d before l ++ closing i) (drop_all i xs h)

-- one more is written
pub range_written : (d : Document) (xs : List Extent) (i : ℕ) (none : Extent) (before json more goal : List ℕ) → i < length xs
    → more ≡ (json ++ before) ++ extent_text d (get_or xs i none) → json ++ rest_nested d before xs i ≡ goal
    → more ++ rest_nested d (codes ",\"parent\":{\"range\":") xs (i + 1) ≡ goal
range_written d xs i none before json more goal low w h =
    let inner : List ℕ = nested_from d (codes ",\"parent\":{\"range\":") (drop (i + 1) xs) in
    let here : List ℕ = extent_text d (get_or xs i none) in
    let next : i + 1 ≡ suc i = omega arith in
    let first : rest_nested d before xs i ≡ (before ++ (here ++ (inner ++ codes "}"))) ++ closing i =
    ap (λ l. nested_from d before l ++ closing i) (drop_more xs i none low) in
    let same : ((json ++ before) ++ here) ++ (inner ++ closing (suc i)) ≡ json ++ ((before ++ (here ++ (inner ++ codes "}"))) ++ closing i) = simp append_assoc in
    ap (λ l. l ++ (inner ++ closing (i + 1))) w ∙ ap (λ k. ((json ++ before) ++ here) ++ (inner ++ closing k)) next ∙ same ∙ ap (λ l. json ++ l) (sym first) ∙ h
