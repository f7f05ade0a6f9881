-- The core grammar with what the checker is told of each category.
use Rattle.rap_base.specs.NodeKind.{ITEM_LIST, ASSOC_ITEM_LIST, EXTERN_ITEM_LIST}
use Rattle.rap_grammar_table.proofs.AttributeHints.{attr_entry, cfg_entry, inner_attr_entry, macro_path_entry, meta_entry, token_tree_entry}
use Rattle.rap_grammar_table.proofs.Entry.{Entry, table_of}
use Rattle.rap_grammar_table.proofs.ExprHints.{arg_list_entry, atom_entry, atom_path_entry, brace_tree_entry, cast_path_entry, cast_type_entry, last_cast_type_entry, let_entry, closed_entry, condition_entry, else_prefixed_entry, else_value_entry, expr_entry, guard_entry, name_expr_entry, open_atom_entry, open_or_entry, open_and_entry, open_prefixed_entry, operand_entry, plain_atom_entry, prefixed_entry, range_end_entry, record_value_entry, round_tree_entry, stmt_operand_entry, stmt_prefixed_entry, with_cast_entry, assigned_entry}
use Rattle.rap_grammar_table.proofs.GenericHints.{argument_entry, generics_entry, param_entry, predicate_entry, where_entry}
use Rattle.rap_grammar_table.proofs.Hints.{Table}
use Rattle.rap_grammar_table.proofs.ItemHints.{field_entry, fn_params_entry, item_entry, in_braces, use_tree_entry, variant_entry, visibility_entry}
use Rattle.rap_grammar_table.proofs.PatternHints.{named_rest_entry, param_pattern_entry, pattern_entry, path_entry as path_entry_of_patterns, rest_entry, single_entry}
use Rattle.rap_grammar_table.proofs.StmtHints.{arm_entry, attr_expr_entry, block_entry, block_stmt_entry, empty_stmt_entry, ending_block_entry, front_stmt_entry, if_entry, last_arm_entry, last_stmt_entry, macro_tail_entry, stmt_block_entry, stmt_entry, stmt_expr_entry, stmt_list_entry, tail_entry, with_block_entry}
use Rattle.rap_grammar_table.proofs.TypeHints.{anchor_entry, anchored_path_entry, args_entry, before_plus_entry, bound_entry, bounds_entry, expr_path_entry, simple_path_entry, trait_ref_entry, fn_pointer_params_entry, global_path_entry, param_name_entry, path_before_plus_entry, path_entry, plain_entry, symbol_entry, type_entry, use_path_entry}
use Rattle.rap_grammar_table.specs.Category.{Category, Ty, PlainTy, TyBeforePlus, AnchorTrait, SymbolTy, Path, PathBeforePlus, UsePath, GlobalPath, AnchoredPath, Args, Argument, Bound, Bounds, GenericParam, Generics, Predicate, Where, ParamName, FnPointerParams, Pattern, Expr, Stmt, Block, Visibility, RecordField, Variant, FnParams, Item, TokenTree, Attr, Meta, Cfg, MacroPath, ExprPath, SimplePath, TraitRef, UseTree, InnerAttr, SinglePattern, PatternPath, RestPattern, ParamPattern, AtomPath, RoundTree, BraceTree, ArgList, NameExpr, CastTy, CastPath, StmtList, If, WithBlock, Arm, LastArm, Atom, Operand, Prefixed, StmtOperand, StmtPrefixed, OpenAtom, OpenPrefixed, Condition, Guard, RangeEnd, Assigned, StmtExpr, StmtBlock, BlockStmt, Tail, Closed, WithCast, OpenOr, OpenAnd, EndingBlock, EmptyStmt, MacroTail, PlainAtom, ElseValue, ElsePrefixed, RecordFields, Variants, UseTrees, ItemList, AssocItems, ExternItems, RecordValues, MatchArms, FrontStmt, LastStmt, RecordValue, AttrExpr, LastCastTy, NamedRest, Let}
use Rattle.rap_grammar_table.specs.ExprRows.{record_values}
use Rattle.rap_grammar_table.specs.ItemRows.{items_under, record_fields, use_list, variant_list}
use Rattle.rap_grammar_table.specs.Rows.{grammar}
use Rattle.rap_grammar_table.specs.StmtRows.{match_arms}

abbrev pub entry : Category → Entry
entry Ty = type_entry
entry PlainTy = plain_entry
entry TyBeforePlus = before_plus_entry
entry AnchorTrait = anchor_entry
entry SymbolTy = symbol_entry
entry Path = path_entry
entry PathBeforePlus = path_before_plus_entry
entry UsePath = use_path_entry
entry GlobalPath = global_path_entry
entry AnchoredPath = anchored_path_entry
entry Args = args_entry
entry Argument = argument_entry
entry Bound = bound_entry
entry Bounds = bounds_entry
entry GenericParam = param_entry
entry Generics = generics_entry
entry Predicate = predicate_entry
entry Where = where_entry
entry ParamName = param_name_entry
entry FnPointerParams = fn_pointer_params_entry
entry Pattern = pattern_entry
entry Expr = expr_entry
entry Stmt = stmt_entry
entry Block = block_entry
entry Visibility = visibility_entry
entry RecordField = field_entry
entry Variant = variant_entry
entry FnParams = fn_params_entry
entry Item = item_entry
entry TokenTree = token_tree_entry
entry Attr = attr_entry
entry Meta = meta_entry
entry Cfg = cfg_entry
entry MacroPath = macro_path_entry
entry ExprPath = expr_path_entry
entry SimplePath = simple_path_entry
entry TraitRef = trait_ref_entry
entry UseTree = use_tree_entry
entry InnerAttr = inner_attr_entry
entry SinglePattern = single_entry
entry PatternPath = path_entry_of_patterns
entry RestPattern = rest_entry
entry ParamPattern = param_pattern_entry
entry AtomPath = atom_path_entry
entry RoundTree = round_tree_entry
entry BraceTree = brace_tree_entry
entry ArgList = arg_list_entry
entry NameExpr = name_expr_entry
entry CastTy = cast_type_entry
entry CastPath = cast_path_entry
entry StmtList = stmt_list_entry
entry If = if_entry
entry WithBlock = with_block_entry
entry Arm = arm_entry
entry LastArm = last_arm_entry
entry (Atom forbid) = atom_entry forbid
entry (Operand forbid) = operand_entry forbid
entry (Prefixed forbid) = prefixed_entry forbid
entry StmtOperand = stmt_operand_entry
entry StmtPrefixed = stmt_prefixed_entry
entry OpenAtom = open_atom_entry
entry OpenPrefixed = open_prefixed_entry
entry Condition = condition_entry
entry Guard = guard_entry
entry (RangeEnd forbid) = range_end_entry forbid
entry Assigned = assigned_entry
entry StmtExpr = stmt_expr_entry
entry StmtBlock = stmt_block_entry
entry BlockStmt = block_stmt_entry
entry Tail = tail_entry
entry (Closed forbid level) = closed_entry forbid level
entry (WithCast forbid level) = with_cast_entry forbid level
entry OpenOr = open_or_entry
entry OpenAnd = open_and_entry
entry EndingBlock = ending_block_entry
entry EmptyStmt = empty_stmt_entry
entry MacroTail = macro_tail_entry
entry PlainAtom = plain_atom_entry
entry ElseValue = else_value_entry
entry ElsePrefixed = else_prefixed_entry
entry RecordFields = in_braces record_fields
entry Variants = in_braces variant_list
entry UseTrees = in_braces use_list
entry ItemList = in_braces (items_under ITEM_LIST)
entry AssocItems = in_braces (items_under ASSOC_ITEM_LIST)
entry ExternItems = in_braces (items_under EXTERN_ITEM_LIST)
entry RecordValues = in_braces record_values
entry MatchArms = in_braces match_arms
entry FrontStmt = front_stmt_entry
entry LastStmt = last_stmt_entry
entry RecordValue = record_value_entry
entry AttrExpr = attr_expr_entry
entry LastCastTy = last_cast_type_entry
entry NamedRest = named_rest_entry
entry (Let forbid) = let_entry forbid

abbrev pub table : Table
table = table_of grammar entry
