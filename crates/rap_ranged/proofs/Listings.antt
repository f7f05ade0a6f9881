-- The list of a tree when all of its steps have come.
use Rattle.std.proofs.Common.{◌≡◌, ℕ, ◌+◌, ◌<◌, List, [], ◌∷◌, ◌++◌, Some, refl, ap, sym, ◌∙◌, append_assoc, append-nil, length, length-append, add-zero, arith}
use Rattle.std.specs.List.{slice_get}
use Rattle.std.proofs.lemmas.Option.{slice_get-get_or}
use Rattle.std.proofs.Math.Seq.{get_or-append_seam, set-append_seam}
use Rattle.rap_lexed.specs.StrForest.{StrForest, str_none, str_node, str_leaf, str_message, str_flat, str_joined}
use Rattle.rap_lexed.specs.StrStep.{StrStepValue, str_enter, str_exit, str_token, str_error}
use Rattle.rap_ranged.specs.Listed.{ListedElement, listed}
use Rattle.rap_ranged.specs.Listing.{Listing, newest, ended, listing_after, listing_after_all}
use Rattle.rap_ranged.specs.Ranged.{end_from, ranged}
use Rattle.rap_ranged.specs.RangedForest.{RangedForest, ranged_none, ranged_node, ranged_leaf, forest_size}

-- a list, its open nodes, and the end of the last leaf
abbrev pub held : List ListedElement → List ℕ → ℕ → Listing
held es open_nodes at = record { elements = es; opened = open_nodes; at = at }

pub size-listed : (f : RangedForest) (first parent : ℕ) → length (listed first parent f) ≡ forest_size f
size-listed ranged_none first parent = refl
size-listed (ranged_node before kind start end children) first parent =
    let n : ListedElement = record { kind = kind; start = start; end = end; after = first + forest_size before + 1 + forest_size children; parent = parent } in
    omega (
      arith,
      length-append (listed first parent before) (n ∷ listed (first + forest_size before + 1) (first + forest_size before) children),
      size-listed before first parent,
      size-listed children (first + forest_size before + 1) (first + forest_size before),
    )
size-listed (ranged_leaf before kind start end) first parent =
    let l : ListedElement = record { kind = kind; start = start; end = end; after = first + forest_size before + 1; parent = parent } in
    omega (arith, length-append (listed first parent before) (l ∷ []), size-listed before first parent)

-- the element after a list
get_past : (es : List ListedElement) (x : ListedElement) (xs : List ListedElement) → slice_get (es ++ x ∷ xs) (length es) ≡ Some x
get_past es x xs =
    let inside : length es < length (es ++ x ∷ xs) = omega (arith, length-append es (x ∷ xs)) in
    slice_get-get_or (es ++ x ∷ xs) (length es) x inside ∙ ap Some (get_or-append_seam es x xs x)

-- the newest open node ends, that stands after a list and has these after it
ended-node : (es xs : List ListedElement) (n : ListedElement) (open_nodes : List ℕ) (at : ℕ)
    → listing_after (held (es ++ n ∷ xs) (length es ∷ open_nodes) at) str_exit ≡ held (es ++ record n { end = at; after = length es + 1 + length xs } ∷ xs) open_nodes at
ended-node es xs n open_nodes at =
    let count : length (es ++ n ∷ xs) ≡ length es + 1 + length xs = omega (arith, length-append es (n ∷ xs)) in
    ap (λ o. held (ended (es ++ n ∷ xs) (length es) at o) open_nodes at) (get_past es n xs)
    ∙ (ap (λ l. held l open_nodes at) (set-append_seam es n xs (record n { end = at; after = length (es ++ n ∷ xs) }))
    ∙ ap (λ k. held (es ++ record n { end = at; after = k } ∷ xs) open_nodes at) count)

end_of-node : (at : ℕ) (xs ys : List ℕ) → (at + length xs) + length ys ≡ at + length (xs ++ ys)
end_of-node at xs ys = omega (arith, length-append xs ys)

-- the steps of a forest add its elements, with its places
abbrev pub added : List ListedElement → List ℕ → ℕ → StrForest → Listing
added es open_nodes at f = held (es ++ listed (length es) (newest open_nodes) (ranged at f)) open_nodes (end_from at f)

pub listing-flat : (f : StrForest) (ss : List StrStepValue) (es : List ListedElement) (open_nodes : List ℕ) (at : ℕ)
    → listing_after_all (held es open_nodes at) (str_flat f ++ ss) ≡ listing_after_all (added es open_nodes at f) ss
listing-flat str_none ss es open_nodes at =
    ap (λ l. listing_after_all (held l open_nodes at) ss) (sym (append-nil es)) ∙ ap (λ n. listing_after_all (held (es ++ []) open_nodes n) ss) (sym (add-zero at))
listing-flat (str_node before kind children) ss es open_nodes at =
    let regroup : str_flat (str_node before kind children) ++ ss ≡ str_flat before ++ (str_enter kind ∷ (str_flat children ++ (str_exit ∷ ss))) = simp append_assoc in
    let parent : ℕ = newest open_nodes in
    let here : ℕ = end_from at before in
    let end : ℕ = end_from here children in
    let bs : List ListedElement = listed (length es) parent (ranged at before) in
    let front : List ListedElement = es ++ bs in
    let n : ListedElement = record { kind = kind; start = here; end = here; after = 0; parent = parent } in
    let inner : RangedForest = ranged here children in
    let inside : List ℕ = length front ∷ open_nodes in
    let cs : List ListedElement = listed (length (front ++ n ∷ [])) (length front) inner in
    let count : length front ≡ length es + forest_size (ranged at before) = omega (arith, length-append es bs, size-listed (ranged at before) (length es) parent) in
    let first : length (front ++ n ∷ []) ≡ length es + forest_size (ranged at before) + 1 = omega (arith, count, length-append front (n ∷ [])) in
    let past : length front + 1 + length cs ≡ length es + forest_size (ranged at before) + 1 + forest_size inner = omega (arith, count, size-listed inner (length (front ++ n ∷ [])) (length front)) in
    ap (λ l. listing_after_all (held es open_nodes at) l) regroup
    ∙ (listing-flat before (str_enter kind ∷ (str_flat children ++ (str_exit ∷ ss))) es open_nodes at
    ∙ (listing-flat children (str_exit ∷ ss) (front ++ n ∷ []) inside here
    ∙ (ap (λ l. listing_after_all (listing_after (held l inside end) str_exit) ss) (append_assoc front (n ∷ []) cs)
    ∙ (ap (λ b. listing_after_all b ss) (ended-node front cs n open_nodes end)
    ∙ (ap (λ k. listing_after_all (held (front ++ record n { end = end; after = k } ∷ cs) open_nodes end) ss) past
    ∙ (ap (λ k. listing_after_all (held (front ++ record n { end = end; after = length es + forest_size (ranged at before) + 1 + forest_size inner } ∷ listed k (length front) inner) open_nodes end) ss) first
    ∙ (ap (λ k. listing_after_all (held (front ++ record n { end = end; after = length es + forest_size (ranged at before) + 1 + forest_size inner } ∷ listed (length es + forest_size (ranged at before) + 1) k inner) open_nodes end) ss) count
    ∙ (ap (λ l. listing_after_all (held l open_nodes end) ss) (append_assoc es bs (record n { end = end; after = length es + forest_size (ranged at before) + 1 + forest_size inner } ∷ listed (length es + forest_size (ranged at before) + 1) (length es + forest_size (ranged at before)) inner))
    ∙ ap (λ k. listing_after_all (held (es ++ listed (length es) parent (ranged at (str_node before kind children))) open_nodes k) ss) (end_of-node at (str_joined before) (str_joined children))))))))))
listing-flat (str_leaf before kind text) ss es open_nodes at =
    let parent : ℕ = newest open_nodes in
    let here : ℕ = end_from at before in
    let bs : List ListedElement = listed (length es) parent (ranged at before) in
    let front : List ListedElement = es ++ bs in
    let count : length front + 1 ≡ length es + forest_size (ranged at before) + 1 = omega (arith, length-append es bs, size-listed (ranged at before) (length es) parent) in
    ap (λ l. listing_after_all (held es open_nodes at) l) (append_assoc (str_flat before) (str_token kind text ∷ []) ss)
    ∙ (listing-flat before (str_token kind text ∷ ss) es open_nodes at
    ∙ (ap (λ k. listing_after_all (held (front ++ record { kind = kind; start = here; end = here + length text; after = k; parent = parent } ∷ []) open_nodes (here + length text)) ss) count
    ∙ (ap (λ l. listing_after_all (held l open_nodes (here + length text)) ss) (append_assoc es bs (record { kind = kind; start = here; end = here + length text; after = length es + forest_size (ranged at before) + 1; parent = parent } ∷ []))
    ∙ ap (λ n. listing_after_all (held (es ++ listed (length es) parent (ranged at (str_leaf before kind text))) open_nodes n) ss) (end_of-node at (str_joined before) text))))
listing-flat (str_message before bytes pos) ss es open_nodes at =
    ap (λ l. listing_after_all (held es open_nodes at) l) (append_assoc (str_flat before) (str_error bytes pos ∷ []) ss)
    ∙ listing-flat before (str_error bytes pos ∷ ss) es open_nodes at

-- from nothing
pub listing-whole : (f : StrForest) (open_nodes : List ℕ) → listing_after_all (held [] open_nodes 0) (str_flat f) ≡ held (listed 0 (newest open_nodes) (ranged 0 f)) open_nodes (end_from 0 f)
listing-whole f open_nodes =
    ap (λ l. listing_after_all (held [] open_nodes 0) l) (sym (append-nil (str_flat f))) ∙ listing-flat f [] [] open_nodes 0
