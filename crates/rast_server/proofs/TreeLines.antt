-- The lines of a tree, and how deep its elements are.
use Rattle.std.proofs.Common.{◌≡◌, ℕ, zero, suc, ◌+◌, ◌*◌, ◌/◌, ◌%◌, ◌<◌, ◌≤◌, Bool, true, false, List, [], ◌∷◌, ◌++◌, Some, codes, drop, length, get_or, refl, ap, sym, ◌∙◌, append_assoc, arith, inl, inr}
use Rattle.std.specs.List.{slice_get}
use Rattle.std.specs.Prelude.{if◌then◌else◌, nat_eq}
use Rattle.std.proofs.lemmas.Bool.{cases_lt}
use Rattle.std.proofs.lemmas.Grind.{flat_map-append}
use Rattle.std.proofs.Math.Seq.{get_or-append_seam}
use Rattle.std.proofs.lemmas.List.{drop_all, drop_more, get_or_append_left, length-append}
use Rattle.std.proofs.lemmas.Option.{slice_get_read}
use Rattle.json.specs.Print.{escape, escape_byte}
use Rattle.rast_common.specs.Indented.{indent}
use Rattle.flat_tree.specs.Order.{ParentsComeFirst, climbing, parent_of}
use Rattle.flat_tree.specs.declared.element.Element.{Element}
use Rattle.flat_tree.proofs.Climbing.{climbing_first}
use Rattle.rast_server.specs.TreeText.{AreDepths, depth_at, element_text, lines_from, tree_text}

-- ---- the spaces

indent-append : (m n : ℕ) → indent m ++ indent n ≡ indent (m + n)
indent-append zero n = let e : n ≡ 0 + n = omega arith in ap indent e
indent-append (suc m) n = let more : suc (m + n) ≡ suc m + n = omega arith in ap (λ l. codes "  " ++ l) (indent-append m n) ∙ ap indent more

-- the spaces of eight levels more, and of those that are left
pub indent_eight : (start : List ℕ) (n : ℕ) → start ++ indent (8 * (n + 1)) ≡ (start ++ indent (8 * n)) ++ codes "                "
indent_eight start n =
    let next : 8 * (n + 1) ≡ 8 * n + 8 = omega arith in
    ap (λ k. start ++ indent k) next ∙ ap (λ l. start ++ l) (sym (indent-append (8 * n) 8)) ∙ sym (append_assoc start (indent (8 * n)) (indent 8))

pub indent_rest : (start : List ℕ) (levels : ℕ) → (start ++ indent (8 * (levels / 8))) ++ indent (levels % 8) ≡ start ++ indent levels
indent_rest start levels =
    let whole : 8 * (levels / 8) + levels % 8 ≡ levels = omega arith in
    append_assoc start (indent (8 * (levels / 8))) (indent (levels % 8)) ∙ ap (λ l. start ++ l) (indent-append (8 * (levels / 8)) (levels % 8) ∙ ap indent whole)

escape-append : (xs ys : List ℕ) → escape (xs ++ ys) ≡ escape xs ++ escape ys
escape-append xs ys = flat_map-append escape_byte xs ys

escape-indent : (n : ℕ) → escape (indent n) ≡ indent n
unfolding escape_byte
escape-indent zero = refl
escape-indent (suc n) = ap (λ l. codes "  " ++ l) (escape-indent n)

length-indent : (n : ℕ) → length (indent n) ≡ 2 * n
length-indent zero = refl
length-indent (suc n) = omega (arith, length-indent n)

-- ---- the lines

-- those from an index on
abbrev pub rest_of_lines : List ℕ → List Element → ℕ → List ℕ
rest_of_lines text es i = lines_from text es i (drop i es)

pub no_more_lines : (text : List ℕ) (es : List Element) (i : ℕ) → length es ≤ i → escape (rest_of_lines text es i) ≡ []
no_more_lines text es i h = ap (λ l. escape (lines_from text es i l)) (drop_all i es h)

pub more_lines : (text : List ℕ) (es : List Element) (i : ℕ) (e : Element) → i < length es → e ≡ get_or es i e
    → escape (rest_of_lines text es i) ≡ indent (depth_at es i) ++ (escape (element_text text e) ++ escape (rest_of_lines text es (i + 1)))
more_lines text es i e low is =
    let rest : List ℕ = rest_of_lines text es (i + 1) in
    let here : List ℕ = element_text text e in
    let first : rest_of_lines text es i ≡ indent (depth_at es i) ++ (here ++ rest) =
    ap (λ l. lines_from text es i l) (drop_more es i e low)
    ∙ ap (λ (x : Element). indent (depth_at es i) ++ (element_text text x ++ rest)) (sym is) in
    ap escape first
    ∙ escape-append (indent (depth_at es i)) (here ++ rest)
    ∙ ap (λ l. l ++ escape (here ++ rest)) (escape-indent (depth_at es i))
    ∙ ap (λ l. indent (depth_at es i) ++ l) (escape-append here rest)

-- how long they are
pub len_more_lines : (text : List ℕ) (es : List Element) (i : ℕ) (e : Element) → i < length es → e ≡ get_or es i e
    → length (escape (rest_of_lines text es i)) ≡ 2 * depth_at es i + length (escape (element_text text e)) + length (escape (rest_of_lines text es (i + 1)))
len_more_lines text es i e low is =
    let rest : List ℕ = escape (rest_of_lines text es (i + 1)) in
    let here : List ℕ = escape (element_text text e) in
    omega (arith, ap length (more_lines text es i e low is), length-append (indent (depth_at es i)) (here ++ rest), length-append here rest, length-indent (depth_at es i))

-- ---- the depths

few_more : (b : Bool) (up n : ℕ) (rest : List ℕ) → length rest ≤ n → length (if b then [] else (up ∷ rest)) ≤ suc n
few_more true up n rest h = omega arith
few_more false up n rest h = omega (arith, h)

climbs_few : (es : List Element) (n at : ℕ) → length (climbing es n at) ≤ n
climbs_few es zero at = omega arith
climbs_few es (suc n) at = few_more (nat_eq at 0) (parent_of (slice_get es at)) n (climbing es n (parent_of (slice_get es at))) (climbs_few es n (parent_of (slice_get es at)))

pub depth_low : (es : List Element) (i : ℕ) → depth_at es i ≤ i
depth_low es i = climbs_few es i i

-- that of an element is one more than that of its parent
pub one_deeper : (es : List Element) (depths : List ℕ) (at up : ℕ) (e : Element) → ParentsComeFirst es → at < length es → 0 < at → e ≡ get_or es at e → AreDepths es at depths
    → up ≡ e.parent → get_or depths up 0 + 1 ≡ depth_at es at
one_deeper es depths at up e first low some is h here =
    let stands : slice_get es at ≡ Some e = slice_get_read es (length es) at e refl low is in
    let before : e.parent < at = first at e some stands in
    let known : get_or depths e.parent 0 ≡ depth_at es e.parent = h.each e.parent before in
    omega (arith, ap (λ k. get_or depths k 0) here, known, ap length (climbing_first es at e first low some stands))

pub depths_more : (es : List Element) (n : ℕ) (depths more : List ℕ) (depth : ℕ) → AreDepths es n depths → depth ≡ depth_at es n → more ≡ depths ++ depth ∷ []
    → AreDepths es (n + 1) more
depths_more es n depths more depth h is e = record {
  count = omega (arith, ap length e, length-append depths (depth ∷ []), h.count);
  each = λ i low. elim (cases_lt i n) [
    | inl before ↦ ap (λ l. get_or l i 0) e ∙ get_or_append_left depths (depth ∷ []) 0 i (omega (arith, before, h.count)) ∙ h.each i before
    | inr past ↦
        let here : i ≡ n = omega (arith, low, past) in
        let end : n ≡ length depths = sym h.count in
        ap (λ k. get_or more k 0) (here ∙ end) ∙ ap (λ l. get_or l (length depths) 0) e ∙ get_or-append_seam depths depth [] 0 ∙ is ∙ ap (depth_at es) (sym here)
  ];
}

-- a line is written
pub line_written : (text : List ℕ) (es : List Element) (i depth : ℕ) (e : Element) (start json more : List ℕ) → i < length es → e ≡ get_or es i e → depth ≡ depth_at es i
    → more ≡ json ++ (indent depth ++ escape (element_text text e)) → json ++ escape (rest_of_lines text es i) ≡ start ++ escape (tree_text text es)
    → more ++ escape (rest_of_lines text es (i + 1)) ≡ start ++ escape (tree_text text es)
line_written text es i depth e start json more low is deep w h =
    let rest : List ℕ = escape (rest_of_lines text es (i + 1)) in
    let here : List ℕ = escape (element_text text e) in
    ap (λ l. l ++ rest) w
    ∙ append_assoc json (indent depth ++ here) rest
    ∙ ap (λ l. json ++ l) (append_assoc (indent depth) here rest ∙ ap (λ n. indent n ++ (here ++ rest)) deep ∙ sym (more_lines text es i e low is))
    ∙ h
