-- The names of all scripts, by their modules.
-- Written by crates/rap_grammar_scripts/all_scripts from the scripts: an edit here is lost.
use Rattle.rap_grammar_scripts.specs.Adt as adt
use Rattle.rap_grammar_scripts.specs.Asm as asm
use Rattle.rap_grammar_scripts.specs.Atom as atom
use Rattle.rap_grammar_scripts.specs.Attributes as attributes
use Rattle.rap_grammar_scripts.specs.Blocks as blocks
use Rattle.rap_grammar_scripts.specs.Builtin as builtin
use Rattle.rap_grammar_scripts.specs.Closures as closures
use Rattle.rap_grammar_scripts.specs.ConstArgs as const_args
use Rattle.rap_grammar_scripts.specs.Consts as consts
use Rattle.rap_grammar_scripts.specs.Control as control
use Rattle.rap_grammar_scripts.specs.EffectBlocks as effect_blocks
use Rattle.rap_grammar_scripts.specs.Entry as entry
use Rattle.rap_grammar_scripts.specs.Expressions as expressions
use Rattle.rap_grammar_scripts.specs.Functions as functions
use Rattle.rap_grammar_scripts.specs.GenericArgList as generic_arg_list
use Rattle.rap_grammar_scripts.specs.GenericArgs as generic_args
use Rattle.rap_grammar_scripts.specs.GenericParams as generic_params
use Rattle.rap_grammar_scripts.specs.Items as items
use Rattle.rap_grammar_scripts.specs.Jumps as jumps
use Rattle.rap_grammar_scripts.specs.Knot as knot
use Rattle.rap_grammar_scripts.specs.Lists as lists
use Rattle.rap_grammar_scripts.specs.Literals as literals
use Rattle.rap_grammar_scripts.specs.Macros as macros
use Rattle.rap_grammar_scripts.specs.Matches as matches
use Rattle.rap_grammar_scripts.specs.Modifiers as modifiers
use Rattle.rap_grammar_scripts.specs.Modules as modules
use Rattle.rap_grammar_scripts.specs.Names as names
use Rattle.rap_grammar_scripts.specs.Operators as operators
use Rattle.rap_grammar_scripts.specs.Params as params
use Rattle.rap_grammar_scripts.specs.PathType as path_type
use Rattle.rap_grammar_scripts.specs.Paths as paths
use Rattle.rap_grammar_scripts.specs.Patterns as patterns
use Rattle.rap_grammar_scripts.specs.Postfix as postfix
use Rattle.rap_grammar_scripts.specs.Ranges as ranges
use Rattle.rap_grammar_scripts.specs.Records as records
use Rattle.rap_grammar_scripts.specs.Statements as statements
use Rattle.rap_grammar_scripts.specs.ThroughKnot as through_knot
use Rattle.rap_grammar_scripts.specs.TokenTree as token_tree
use Rattle.rap_grammar_scripts.specs.Traits as traits
use Rattle.rap_grammar_scripts.specs.Types as types
use Rattle.rap_grammar_scripts.specs.UseItem as use_item
use Rattle.rap_grammar_scripts.specs.Visibility as visibility
use Rattle.rap_grammar_scripts.specs.Words as words

-- what an answer unfolds to compute with scripts
unfoldable pub scripts : Unit {0}
unfolding adt.missing_in_list adt.comma_in_braces adt.opt_value adt.mut_restriction adt.opt_mut_restriction
    adt.opt_unsafe adt.named_field adt.restricted_field adt.visible_field adt.record_field adt.field_or_block
    adt.record_fields adt.record_field_list adt.typed_field adt.restricted_tuple_field adt.tuple_field
    adt.tuple_field_list adt.variant_fields adt.after_variant_name adt.named_variant adt.variant adt.variant_or_block
    adt.variants adt.variant_list adt.enum_ adt.fields_behind_where adt.tuple_fields adt.struct_fields adt.fields
    adt.struct_or_union adt.strukt adt.union
    asm.asm_template asm.reg_spec asm.parse_reg asm.clobber_abis asm.parse_clobber_abi asm.flow_option asm.option_name
    asm.asm_options asm.parse_options asm.operand_name asm.dir_spec asm.reg_operand asm.asm_sym asm.asm_operand
    asm.missing_operand asm.no_operand asm.named_operand asm.asm_piece asm.asm_pieces asm.parse_asm_expr
    atom.path_expr atom.tuple_elements atom.tuple_expr atom.after_element atom.array_elements atom.array_expr
    atom.underscore_expr atom.jump_expr atom.control_expr atom.bracketed_expr atom.atom_expr
    attributes.cfg_value attributes.cfg_predicate attributes.cfg_meta attributes.cfg_attr_metas attributes.cfg_attr_meta
    attributes.unsafe_meta attributes.attr_value attributes.path_meta attributes.meta attributes.attr_mark
    attributes.attr_brackets attributes.attr attributes.outer_attrs attributes.inner_attrs
    blocks.statements blocks.expr_block_contents blocks.stmt_list blocks.block_expr blocks.error_block blocks.let_type
    blocks.let_value blocks.value_before_else blocks.else_block blocks.let_else blocks.let_end blocks.let_stmt
    blocks.error_let_stmt
    builtin.offset_of_fields builtin.offset_of builtin.opt_arg_name builtin.format_arguments builtin.format_args
    builtin.cfg builtin.asm_name builtin.other_builtin builtin.builtin_expr
    closures.closure_binder closures.closure_keywords closures.closing_angles closures.closure_body
    closures.closure_expr
    const_args.negative_const const_args.const_path const_args.missing_const const_args.const_arg_expr
    const_args.const_arg
    consts.const_name consts.const_params consts.missing_const_type consts.const_type consts.const_value
    consts.const_where consts.const_or_static consts.konst consts.static_
    control.else_branch control.if_expr control.let_expr control.loop_from control.while_from control.for_from
    control.loop_expr control.while_expr control.for_expr control.label control.labelled_from control.labelled_expr
    effect_blocks.plain_block effect_blocks.try_modifier effect_blocks.try_block_expr effect_blocks.effects
    effect_blocks.effect_block effect_blocks.effect_expr
    entry.source_file entry.macro_stmts
    expressions.lhs expressions.missing_expr expressions.expr_from expressions.expr_bp
    functions.fn_params functions.fn_ret_type functions.unbalanced_brackets functions.fn_body functions.signature
    functions.fn_
    generic_arg_list.generic_arg_list generic_arg_list.opt_generic_arg_list_expr
    generic_args.lifetime_arg generic_args.type_arg generic_args.assoc_value generic_args.bounded_arg
    generic_args.macro_arg generic_args.path_arg generic_args.named_arg generic_args.generic_arg
    generic_params.use_bound_arg generic_params.use_bound_args generic_params.use_bound generic_params.bound_constness
    generic_params.bound_macro_call generic_params.path_type_bound generic_params.bare_bound generic_params.type_bound
    generic_params.type_bounds generic_params.bounds_without_colon_m generic_params.bounds_without_colon
    generic_params.bounds generic_params.lifetime_bound generic_params.lifetime_bound_list
    generic_params.lifetime_bounds generic_params.lifetime_param generic_params.type_default generic_params.type_param
    generic_params.const_type generic_params.const_default generic_params.const_param generic_params.generic_param
    generic_params.attributed_param generic_params.generic_params generic_params.generic_param_list
    generic_params.predicate_bounds generic_params.type_predicate generic_params.where_predicate
    generic_params.after_predicate generic_params.where_predicates generic_params.where_clause
    items.opt_extern_crate items.opt_named_const items.opt_static items.global_asm items.opt_item_by_name
    items.opt_item_without_modifiers items.opt_const items.opt_extern_block items.opt_item_with_modifiers items.refuse
    items.opt_modified_item items.opt_item items.after_item items.path_item items.unmatched_brace items.missing_item
    items.macro_or_error items.marked_item items.item_or_macro
    jumps.opt_expr jumps.opt_lifetime jumps.return_expr jumps.become_expr jumps.yield_expr jumps.yeet_expr
    jumps.continue_expr jumps.break_expr
    knot.script_of
    lists.elements lists.delimited
    literals.literal
    macros.rules_in_brackets macros.macro_rules macros.macro_def_body macros.macro_def_tokens macros.macro_def
    macros.macro_call
    matches.match_guard matches.arm_head matches.arm_end matches.arm_body matches.match_arm matches.match_arms
    matches.match_arm_list matches.match_expr
    modifiers.impl_restriction modifiers.opt_impl_restriction modifiers.modifier modifiers.modifier_as
    modifiers.qualifiers modifiers.safety modifiers.opt_abi modifiers.opt_default modifiers.auto_or_default
    modifiers.modifiers
    modules.extern_crate modules.items modules.mod_contents modules.item_list modules.extern_item_list modules.mod_body
    modules.mod_item modules.alias_bounds modules.aliased_type modules.type_alias modules.type_item
    names.name_ref_mod_path names.name_ref_mod_path_or_index names.lifetime names.name_r names.name
    names.name_ref_or_index names.name_ref_or_upper_self names.abi names.name_ref_or_self names.name_any_identifier
    names.opt_rename
    operators.bin_expr operators.cast_expr operators.climb operators.ref_qualifier operators.ref_expr
    operators.prefix_expr
    params.self_as_name params.self_value params.self_mut params.self_ref params.opt_self_param params.variadic_param
    params.param_type params.fn_def_param params.fn_ptr_param params.closure_param params.after_param
    params.marked_param params.attributed_param params.params params.after_self params.first_param params.fn_def_params
    params.list_ params.param_list_fn_def params.param_list_fn_ptr params.param_list_closure
    path_type.path_type
    paths.type_arg_element paths.parenthesized_args paths.return_type_syntax paths.path_type_args
    paths.opt_path_type_args paths.opt_path_args paths.missing_segment_name paths.segment_name paths.anchor_trait
    paths.type_anchor paths.path_segment paths.path_for_qualifier paths.path paths.use_path paths.attr_path
    paths.type_path paths.expr_path paths.vis_path paths.type_path_for_qualifier
    patterns.binding patterns.at_pattern patterns.ident_pat patterns.box_pat patterns.const_block_pat
    patterns.literal_pat patterns.wildcard_pat patterns.ref_pat patterns.not_null_pat patterns.pat_list
    patterns.slice_pat patterns.leading_comma patterns.tuple_patterns patterns.tuple_pat patterns.record_pat_field
    patterns.record_pat_element patterns.record_pat_fields patterns.record_pat_field_list patterns.tuple_pat_fields
    patterns.path_or_macro_pat patterns.builtin_pat patterns.missing_pat patterns.symbol_pat patterns.atom_pat
    patterns.range_from_pat patterns.range_op patterns.range_to_pat patterns.rest_pat patterns.pattern_single_r
    patterns.alternatives patterns.pattern_r
    postfix.arg_list postfix.call_expr postfix.index_expr postfix.try_expr postfix.method_arguments
    postfix.method_call_expr postfix.await_expr postfix.field_expr postfix.name_after_dot postfix.after_dot
    postfix.postfix_dot_expr postfix.postfix_expr
    ranges.range_expr ranges.prefix_range
    records.field_name records.base_without_dots records.named_field records.base_of_record records.marked_field
    records.record_field records.record_fields records.record_expr_field_list
    statements.expr_semicolon statements.expr_stmt_end statements.expr_as_stmt statements.stmt
    through_knot.expr through_knot.expr_no_struct through_knot.expr_stmt through_knot.type_ through_knot.type_no_bounds
    through_knot.path_type_bounds through_knot.generic_arg_element through_knot.generic_param_list through_knot.pattern
    through_knot.pattern_single through_knot.meta through_knot.cfg_predicate_element through_knot.opt_generic_param_list
    through_knot.bounds through_knot.bounds_without_colon through_knot.opt_where_clause through_knot.arm_pattern
    through_knot.if_expr through_knot.item_or_macro through_knot.use_tree through_knot.opt_ret_type
    through_knot.opt_no_arrow_ret_type through_knot.ascription through_knot.for_binder
    token_tree.tokens_to token_tree.token_tree token_tree.macro_call_after_excl
    traits.assoc_item traits.assoc_items traits.assoc_item_list traits.expect_assoc_item_list traits.trait_alias
    traits.opt_bounds traits.trait_body traits.trait_ traits.impl_params traits.opt_negative traits.impl_type
    traits.impl_types traits.impl_
    types.tuple_types types.paren_or_tuple_type types.never_type types.ptr_qualifier types.ptr_type types.array_length
    types.array_or_slice_type types.ref_type types.infer_type types.fn_qualifiers types.fn_ptr_params types.fn_ptr_type
    types.opt_type_bounds_as_dyn_trait_type types.for_type types.impl_trait_type types.dyn_trait_type
    types.dyn_trait_type_weak types.bare_dyn_trait_type types.pattern_type_parts types.pattern_type types.path_or_macro
    types.path_or_macro_type types.path_type_bounds types.missing_type types.named_type types.type_with_bounds_cond
    use_item.nested_use_tree use_item.use_tree_list use_item.group use_item.group_behind use_item.after_use_path
    use_item.use_tree use_item.expect_use_tree use_item.use_
    visibility.restriction visibility.in_restriction visibility.opt_visibility_inner visibility.opt_visibility
    words.by_operator
scripts = tt
