-- What the core grammar derives of an input, and of what is parsed again, the table derives with the same tree.
use Rattle.std.proofs.Common.{ℕ, List, [], ◌∷◌, ◌++◌, refl, append-nil}
use Rattle.rap_events.specs.Forest.{Forest, none, ◌⧺◌}
use Rattle.rap_events.specs.Record.{Record}
use Rattle.rap_small_grammar.specs.Derives.{Derives, File, file_of}
use Rattle.rap_grammar_table.specs.Category.{Item, ItemList, RecordFields}
use Rattle.rap_small_grammar.specs.Inclusion.{HoldsBlock, HoldsContents, HoldsExpression, HoldsFieldList, HoldsFile, HoldsItem, HoldsItemList, HoldsItems, HoldsStatements, HoldsType, InBlock, InFile}
use Rattle.rap_small_grammar.proofs.Included.{included}
use Rattle.rap_small_grammar.proofs.IncludedItems.{FieldsSo, fields_in, ItemsSo, items_in}
use Rattle.rap_small_grammar.proofs.IncludedLists.{AnyNumber, and_more, any_number, no_more}
use Rattle.rap_small_grammar.proofs.IncludedRows.{Row, Turns, done, opens, closes, makes, one_way, other_way, none_comes, puts_token, repeats}
use Rattle.rap_small_grammar.proofs.IncludedStatements.{BlockSo, block_in, block_made, ContentsSo, empty, full}
use Rattle.rap_grammar_ends.proofs.Ways.{none-⧺}
use Rattle.rap_grammar_table.specs.Category as categories
use Rattle.rap_grammar_table.specs.Table as rows
use Rattle.rap_grammar_table.specs.Table.{nil, repeat}
use Rattle.rap_grammar_table.specs.Tops.{Makes, MakesRow, file_row, items_row, stmts_row}

-- a row that is turns alone
turns_alone : {a z : rows.Items} {ks : List Record} {t : Forest} → Turns a z ks t → Row (repeat a z nil) none [] ks t
turns_alone {a = a} {z = z} {ks = ks} {t = t} m =
    let r : Row (repeat a z nil) none [] (ks ++ []) (none ⧺ t) = repeats m done in rw (append-nil, none-⧺) at r

pub type_holds : HoldsType
type_holds ks t d = (included d).any

pub expression_holds : HoldsExpression
expression_holds ks t d = (included d).any

pub item_holds : HoldsItem
item_holds ks t d = included d

pub items_hold : HoldsItems
items_hold ks t d = none_comes (turns_alone (any_number (included d)))

pub block_holds : HoldsBlock
block_holds ks t d = block_made (included d)

list_of : {ks : List Record} {t : Forest} → BlockSo ks t → InBlock ks t
list_of (block_in {x = x} d) = record { list = x; node_is = refl; derives = d }

pub statements_hold : HoldsStatements
statements_hold ks t d = list_of (included d)

item_list : {ks : List Record} {t : Forest} → ItemsSo ks t → Makes ItemList ks t
item_list (items_in o m e) = makes 0 refl (opens (puts_token o (none_comes (repeats m (puts_token e (closes done))))))

pub item_list_holds : HoldsItemList
item_list_holds ks t d = item_list (included d)

field_list : {ks : List Record} {t : Forest} → FieldsSo ks t → Makes RecordFields ks t
field_list (fields_in o m e) = makes 0 refl (opens (puts_token o (repeats m (puts_token e (closes done)))))

pub field_list_holds : HoldsFieldList
field_list_holds ks t d = field_list (included d)

contents : {ks : List Record} {t : Forest} → ContentsSo ks t → MakesRow stmts_row ks t
contents empty = one_way (other_way done)
contents (full m n) = one_way (one_way (turns_alone n))

pub contents_hold : HoldsContents
contents_hold ks t d = contents (included d)

in_file : {ks : List Record} {t : Forest} → Derives File ks t → InFile ks t
in_file (file_of {t = t} d) =
    record {
      forest = t;
      node_is = refl;
      derives = other_way (other_way (none_comes (turns_alone (any_number (included d)))));
    }

pub file_holds : HoldsFile
file_holds ks t d = in_file d

-- one item alone as all items of a macro, and as those of a file
one_of_number : {c : categories.Category} {ks : List Record} {t : Forest} → Makes c ks t → AnyNumber (Makes c) ks t
one_of_number {c = c} {ks = ks} {t = t} d =
    let m : AnyNumber (Makes c) (ks ++ []) t = and_more d no_more in rw append-nil at m

pub item_alone : {ks : List Record} {t : Forest} → Makes Item ks t → MakesRow items_row ks t
item_alone d = none_comes (turns_alone (any_number (one_of_number d)))

pub item_in_file : {ks : List Record} {t : Forest} → Makes Item ks t → MakesRow file_row ks t
item_in_file d = other_way (other_way (none_comes (turns_alone (any_number (one_of_number d)))))
