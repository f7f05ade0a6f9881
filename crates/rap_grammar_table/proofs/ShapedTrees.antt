-- The children of each node of a tree that the table derives are of a shape of its kind.
use Rattle.std.proofs.Common.{◌≡◌, ℕ, true, false, List, [], ◌++◌, refl}
use Rattle.rap_base.specs.NodeKind.{MACRO_ITEMS, MACRO_STMTS, SOURCE_FILE}
use Rattle.rap_events.specs.Forest.{Forest, none, node}
use Rattle.rap_events.specs.Record.{Record}
use Rattle.rap_grammar_table.proofs.Places.{every}
use Rattle.rap_grammar_table.specs.Category.{Category}
use Rattle.rap_grammar_table.specs.Numbers.{categories}
use Rattle.rap_grammar_table.specs.Again.{IsTableTree, a_file, of_category, some_items, some_stmts}
use Rattle.rap_grammar_table.specs.Shaped.{HaveShapes}
use Rattle.rap_grammar_table.specs.Shapes.{Shape, nothing, ends, nodes_over, nodes_each, all_nodes, roots, root_in, shapes_among}
use Rattle.rap_grammar_table.specs.Table.{Items}
use Rattle.rap_grammar_table.specs.Tops.{MakesRow, file_row, items_row, stmts_row}
use Rattle.rap_grammar_table.proofs.Shaped.{AllSo, OfChildren, RowsFit, found, shaped}
use Rattle.rap_grammar_table.proofs.ShapedRows.{AllHave, HasOne, rows_so, have_all, have_left, have_right, part_so, rows_fit, spells_any, whole_fits}

all_so : every (rows_so (root_in roots)) categories ≡ true
all_so = refl

-- what stands under the node of an entry
top_so : (f : Category → Shape) (H : OfChildren) (kind : ℕ) (row : Items) {ks : List Record} {y : Forest} → RowsFit f H →
    AllHave H (nodes_over f kind row) → part_so f false nothing [] row ≡ true → MakesRow row ks y →
    AllSo H (node none kind y)
top_so f H kind row {y = y} r o h d =
    let q = shaped r d (ends f nothing [] row) (whole_fits f H row o.1 h) tt tt in
    (tt, q.0, o.0 _ q.1)

-- the nodes under each entry's node, and behind these those of the others and of all rows
abbrev of_kind : ℕ → Items → List (ℕ × Shape)
of_kind kind row = nodes_over (root_in roots) kind row

abbrev of_rows : List (ℕ × Shape)
of_rows = nodes_each (root_in roots) categories

abbrev from_stmts : List (ℕ × Shape)
from_stmts = of_kind MACRO_STMTS stmts_row ++ of_rows

abbrev from_items : List (ℕ × Shape)
from_items = of_kind MACRO_ITEMS items_row ++ from_stmts

abbrev Known : OfChildren
Known = HasOne all_nodes

known_files : AllHave Known (of_kind SOURCE_FILE file_row)
known_files = have_left Known (of_kind SOURCE_FILE file_row) from_items (have_all all_nodes)

known_from_items : AllHave Known from_items
known_from_items = have_right Known (of_kind SOURCE_FILE file_row) from_items (have_all all_nodes)

known_items : AllHave Known (of_kind MACRO_ITEMS items_row)
known_items = have_left Known (of_kind MACRO_ITEMS items_row) from_stmts known_from_items

known_from_stmts : AllHave Known from_stmts
known_from_stmts = have_right Known (of_kind MACRO_ITEMS items_row) from_stmts known_from_items

known_stmts : AllHave Known (of_kind MACRO_STMTS stmts_row)
known_stmts = have_left Known (of_kind MACRO_STMTS stmts_row) of_rows known_from_stmts

known_rows : AllHave Known of_rows
known_rows = have_right Known (of_kind MACRO_STMTS stmts_row) of_rows known_from_stmts

table_fits : RowsFit (root_in roots) Known
table_fits = rows_fit (root_in roots) Known known_rows all_so

tree_so : {ks : List Record} {t : Forest} → IsTableTree ks t → AllSo Known t
tree_so (of_category d) = (shaped table_fits d).0
tree_so (a_file d) = top_so (root_in roots) Known SOURCE_FILE file_row table_fits known_files refl d
tree_so (some_items d) = top_so (root_in roots) Known MACRO_ITEMS items_row table_fits known_items refl d
tree_so (some_stmts d) = top_so (root_in roots) Known MACRO_STMTS stmts_row table_fits known_stmts refl d

pub have_shapes : HaveShapes
have_shapes kind tokens tree children place d p = spells_any (shapes_among kind all_nodes) (found Known p (tree_so d))
