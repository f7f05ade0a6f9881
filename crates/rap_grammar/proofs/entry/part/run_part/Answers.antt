use Rattle.std.proofs.Common.{le_refl}
use Rattle.rap_grammar.proofs.Depth.{goes}
use Rattle.rap_grammar.proofs.entry.part.run_part.Goals as goal

pub returns-in_ok-opt_visibility-in-Visibility-clause-script : goal.returns-in_ok-opt_visibility-in-Visibility-clause-script
returns-in_ok-opt_visibility-in-Visibility-clause-script c = rw c.in-Visibility.is (goes c.in_ok-opt_visibility-in-Visibility.ensures.script)

pub returns-in_ok-sym_path-in-Path-clause-script : goal.returns-in_ok-sym_path-in-Path-clause-script
returns-in_ok-sym_path-in-Path-clause-script c = rw c.in-Path.is (goes c.in_ok-sym_path-in-Path.ensures.script)

pub returns-in_ok-block_expr-in-Block-clause-script : goal.returns-in_ok-block_expr-in-Block-clause-script
returns-in_ok-block_expr-in-Block-clause-script c = rw c.in-Block.is (goes c.in_ok-block_expr-in-Block.ensures.script)

pub returns-in_ok-record_field_list-in-RecordFieldList-clause-script : goal.returns-in_ok-record_field_list-in-RecordFieldList-clause-script
returns-in_ok-record_field_list-in-RecordFieldList-clause-script c = rw c.in-RecordFieldList.is (goes c.in_ok-record_field_list-in-RecordFieldList.ensures.script)

pub returns-in_ok-record_expr_field_list-in-RecordExprFieldList-clause-script : goal.returns-in_ok-record_expr_field_list-in-RecordExprFieldList-clause-script
returns-in_ok-record_expr_field_list-in-RecordExprFieldList-clause-script c = rw c.in-RecordExprFieldList.is (goes c.in_ok-record_expr_field_list-in-RecordExprFieldList.ensures.script)

pub returns-in_ok-variant_list-in-VariantList-clause-script : goal.returns-in_ok-variant_list-in-VariantList-clause-script
returns-in_ok-variant_list-in-VariantList-clause-script c = rw c.in-VariantList.is (goes c.in_ok-variant_list-in-VariantList.ensures.script)

pub returns-in_ok-match_arm_list-in-MatchArmList-clause-script : goal.returns-in_ok-match_arm_list-in-MatchArmList-clause-script
returns-in_ok-match_arm_list-in-MatchArmList-clause-script c = rw c.in-MatchArmList.is (goes c.in_ok-match_arm_list-in-MatchArmList.ensures.script)

pub returns-in_ok-use_tree_list-in-UseTreeList-clause-script : goal.returns-in_ok-use_tree_list-in-UseTreeList-clause-script
returns-in_ok-use_tree_list-in-UseTreeList-clause-script c = rw c.in-UseTreeList.is (goes c.in_ok-use_tree_list-in-UseTreeList.ensures.script)

pub returns-in_ok-extern_item_list-in-ExternItemList-clause-script : goal.returns-in_ok-extern_item_list-in-ExternItemList-clause-script
returns-in_ok-extern_item_list-in-ExternItemList-clause-script c = rw c.in-ExternItemList.is (goes c.in_ok-extern_item_list-in-ExternItemList.ensures.script)

pub returns-in_ok-token_tree-in-TokenTree-clause-script : goal.returns-in_ok-token_tree-in-TokenTree-clause-script
returns-in_ok-token_tree-in-TokenTree-clause-script c = rw c.in-TokenTree.is (goes (c.in_ok-token_tree-in-TokenTree.ensures.script _ (le_refl _)))

pub returns-in_ok-assoc_item_list-in-AssocItemList-clause-script : goal.returns-in_ok-assoc_item_list-in-AssocItemList-clause-script
returns-in_ok-assoc_item_list-in-AssocItemList-clause-script c = rw c.in-AssocItemList.is (goes c.in_ok-assoc_item_list-in-AssocItemList.ensures.script)

pub returns-in_ok-item_list-in-ItemList-clause-script : goal.returns-in_ok-item_list-in-ItemList-clause-script
returns-in_ok-item_list-in-ItemList-clause-script c = rw c.in-ItemList.is (goes c.in_ok-item_list-in-ItemList.ensures.script)
