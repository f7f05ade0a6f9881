use Rattle.rap_grammar_table.proofs.OneTree.{one_of_anchored_paths, one_of_arm_lists, one_of_assoc_lists, one_of_blocks, one_of_expressions, one_of_extern_lists, one_of_field_lists, one_of_files, one_of_global_paths, one_of_item_lists, one_of_items, one_of_last_statements, one_of_macro_items, one_of_macro_statements, one_of_metas, one_of_paths, one_of_patterns, one_of_single_patterns, one_of_statements, one_of_token_trees, one_of_types, one_of_use_lists, one_of_value_lists, one_of_variant_lists, one_of_visibilities}
use Rattle.rap_grammar_table.proofs.table_laws.one_tree_each.Goals as goal

pub returns-clause-types : goal.returns-clause-types
returns-clause-types c = one_of_types

pub returns-clause-expressions : goal.returns-clause-expressions
returns-clause-expressions c = one_of_expressions

pub returns-clause-patterns : goal.returns-clause-patterns
returns-clause-patterns c = one_of_patterns

pub returns-clause-single_patterns : goal.returns-clause-single_patterns
returns-clause-single_patterns c = one_of_single_patterns

pub returns-clause-metas : goal.returns-clause-metas
returns-clause-metas c = one_of_metas

pub returns-clause-paths : goal.returns-clause-paths
returns-clause-paths c = one_of_paths

pub returns-clause-global_paths : goal.returns-clause-global_paths
returns-clause-global_paths c = one_of_global_paths

pub returns-clause-anchored_paths : goal.returns-clause-anchored_paths
returns-clause-anchored_paths c = one_of_anchored_paths

pub returns-clause-last_statements : goal.returns-clause-last_statements
returns-clause-last_statements c = one_of_last_statements

pub returns-clause-items : goal.returns-clause-items
returns-clause-items c = one_of_items

pub returns-clause-visibilities : goal.returns-clause-visibilities
returns-clause-visibilities c = one_of_visibilities

pub returns-clause-statements : goal.returns-clause-statements
returns-clause-statements c = one_of_statements

pub returns-clause-blocks : goal.returns-clause-blocks
returns-clause-blocks c = one_of_blocks

pub returns-clause-field_lists : goal.returns-clause-field_lists
returns-clause-field_lists c = one_of_field_lists

pub returns-clause-value_lists : goal.returns-clause-value_lists
returns-clause-value_lists c = one_of_value_lists

pub returns-clause-variant_lists : goal.returns-clause-variant_lists
returns-clause-variant_lists c = one_of_variant_lists

pub returns-clause-arm_lists : goal.returns-clause-arm_lists
returns-clause-arm_lists c = one_of_arm_lists

pub returns-clause-use_lists : goal.returns-clause-use_lists
returns-clause-use_lists c = one_of_use_lists

pub returns-clause-extern_lists : goal.returns-clause-extern_lists
returns-clause-extern_lists c = one_of_extern_lists

pub returns-clause-assoc_lists : goal.returns-clause-assoc_lists
returns-clause-assoc_lists c = one_of_assoc_lists

pub returns-clause-item_lists : goal.returns-clause-item_lists
returns-clause-item_lists c = one_of_item_lists

pub returns-clause-token_trees : goal.returns-clause-token_trees
returns-clause-token_trees c = one_of_token_trees

pub returns-clause-files : goal.returns-clause-files
returns-clause-files c = one_of_files

pub returns-clause-macro_items : goal.returns-clause-macro_items
returns-clause-macro_items c = one_of_macro_items

pub returns-clause-macro_statements : goal.returns-clause-macro_statements
returns-clause-macro_statements c = one_of_macro_statements
