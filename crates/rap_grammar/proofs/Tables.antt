-- What a parse of a whole input makes of what the table of the grammar derives.
use Rattle.std.proofs.Common.{◌≡◌, ℕ, ◌+◌, [], ◌∷◌, List, true, false, refl, ap, ◌∙◌}
use Rattle.rap_base.specs.NodeKind.{MACRO_ITEMS, MACRO_STMTS, SOURCE_FILE}
use Rattle.rap_events.specs.Forest.{Forest, none, node, message_count, one_tree}
use Rattle.rap_events.specs.Record.{Record}
use Rattle.rap_grammar_scripts.specs.Entry.{macro_stmts, source_file}
use Rattle.rap_grammar_scripts.specs.Modules.{mod_contents}
use Rattle.rap_grammar_scripts.specs.Script.{Script, Spot}
use Rattle.rap_grammar_scripts.specs.ThroughKnot.{expr, meta, pattern, type_}
use Rattle.rap_grammar_scripts.specs.declared.rule.Rule.{Rule}
use Rattle.rap_grammar_scripts.proofs.OneEnd.{one_end}
use Rattle.rap_grammar_ends.specs.Dots.{dots_inside}
use Rattle.rap_grammar_table.specs.Category.{Expr, Meta, Pattern, Ty}
use Rattle.rap_grammar_table.proofs.Good.{IsNode}
use Rattle.rap_grammar_table.specs.Tops.{Makes, MakesRow, file_row, items_row, stmts_row}
use Rattle.rap_grammar_table.proofs.Fronts.{category_clean, row_clean}
use Rattle.rap_grammar_table.proofs.Tops.{MakesAll, expr_is_node, expr_made, file_made, items_made, meta_is_node, meta_made, pattern_is_node, pattern_made, stmts_made, type_is_node, type_made}
use Rattle.rap_grammar.specs.Top.{IsRootOf, IsTopOf}
use Rattle.rap_grammar.proofs.DotsInside.{expression_makes_none, meta_makes_none, pattern_makes_none, type_makes_none}
use Rattle.rap_grammar.proofs.Outputs.{root_of, top_tree-whole}

-- what a node adds
over : {n : ℕ} → n ≡ 0 → 0 + n ≡ 0
over h = rw h refl

-- a file, and the items of a macro, stand under the node of their entry
pub file_of_table : {input : List Record} {t output : Forest} → IsRootOf SOURCE_FILE source_file input output →
    MakesRow file_row input t → (output ≡ node none SOURCE_FILE t) × (message_count output ≡ 0)
file_of_table i d = let e = root_of i (file_made d (none ∷ [])) in (e, ap message_count e ∙ over (row_clean d))

pub items_of_table : {input : List Record} {t output : Forest} →
    IsRootOf MACRO_ITEMS (mod_contents false) input output → MakesRow items_row input t →
    (output ≡ node none MACRO_ITEMS t) × (message_count output ≡ 0)
items_of_table i d = let e = root_of i (items_made d (none ∷ [])) in (e, ap message_count e ∙ over (row_clean d))

pub stmts_of_table : {input : List Record} {t output : Forest} → IsRootOf MACRO_STMTS macro_stmts input output →
    MakesRow stmts_row input t → (output ≡ node none MACRO_STMTS t) × (message_count output ≡ 0)
stmts_of_table i d = let e = root_of i (stmts_made d (none ∷ [])) in (e, ap message_count e ∙ over (row_clean d))

-- one node is one tree, unless it ends with a float's dot
one_of_node : {t : Forest} → IsNode t → dots_inside t ≡ true → one_tree t ≡ true
one_of_node n h = rw n.node_is (rw n.node_is at h)

-- what is read alone, of one node, is that node
top_of : {s : Script Rule} {input : List Record} {t output : Forest} → IsTopOf s input output → MakesAll s input t →
    one_tree t ≡ true → output ≡ t
top_of {t = t} i m h =
    let e = one_end i.run (m (none ∷ [])) in
    i.tree ∙ rw (ap (λ (p : Spot). p.forest) e.spot, ap (λ (p : Spot). p.rest) e.spot) (top_tree-whole t h)

pub type_of_table : {input : List Record} {t output : Forest} → IsTopOf type_ input output → Makes Ty input t →
    (output ≡ t) × (message_count output ≡ 0)
type_of_table i d =
    let e = top_of i (type_made d) (one_of_node (type_is_node d) (type_makes_none (type_made d []))) in
    (e, ap message_count e ∙ category_clean d)

pub expression_of_table : {input : List Record} {t output : Forest} → IsTopOf expr input output → Makes Expr input t →
    (output ≡ t) × (message_count output ≡ 0)
expression_of_table i d =
    let e = top_of i (expr_made d) (one_of_node (expr_is_node d) (expression_makes_none (expr_made d []))) in
    (e, ap message_count e ∙ category_clean d)

pub pattern_of_table : {input : List Record} {t output : Forest} → IsTopOf pattern input output → Makes Pattern input t →
    (output ≡ t) × (message_count output ≡ 0)
pattern_of_table i d =
    let e = top_of i (pattern_made d) (one_of_node (pattern_is_node d) (pattern_makes_none (pattern_made d []))) in
    (e, ap message_count e ∙ category_clean d)

pub meta_of_table : {input : List Record} {t output : Forest} → IsTopOf meta input output → Makes Meta input t →
    (output ≡ t) × (message_count output ≡ 0)
meta_of_table i d =
    let e = top_of i (meta_made d) (one_of_node (meta_is_node d) (meta_makes_none (meta_made d []))) in
    (e, ap message_count e ∙ category_clean d)
