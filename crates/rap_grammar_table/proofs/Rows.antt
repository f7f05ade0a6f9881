-- The table is checked, so what it derives is what the scripts make.
use Rattle.std.proofs.Common.{false, true, refl}
use Rattle.rap_events.specs.Forest.{Forest}
use Rattle.rap_events.specs.Record.{Record}
use Rattle.rap_grammar_table.specs.Category.{Category, Ty, PlainTy, TyBeforePlus, AnchorTrait, SymbolTy, Path, PathBeforePlus, UsePath, GlobalPath, AnchoredPath, Args, Argument, Bound, Bounds, GenericParam, Generics, Predicate, Where, ParamName, FnPointerParams, Pattern, Expr, Stmt, Block, Visibility, RecordField, Variant, FnParams, Item, TokenTree, Attr, Meta, Cfg, MacroPath, ExprPath, SimplePath, TraitRef, UseTree, InnerAttr, SinglePattern, PatternPath, RestPattern, ParamPattern, AtomPath, RoundTree, BraceTree, ArgList, NameExpr, CastTy, CastPath, StmtList, If, WithBlock, Arm, LastArm, Atom, Operand, Prefixed, StmtOperand, StmtPrefixed, OpenAtom, OpenPrefixed, Condition, Guard, RangeEnd, Assigned, StmtExpr, StmtBlock, BlockStmt, Tail, Closed, WithCast, OpenOr, OpenAnd, EndingBlock, EmptyStmt, MacroTail, PlainAtom, ElseValue, ElsePrefixed, RecordFields, Variants, UseTrees, ItemList, AssocItems, ExternItems, RecordValues, MatchArms, FrontStmt, LastStmt, RecordValue, AttrExpr, LastCastTy, NamedRest, Let}
use Rattle.rap_grammar_table.specs.Rows.{grammar}
use Rattle.rap_grammar_table.proofs.Table.{table, entry}
use Rattle.rap_grammar_table.proofs.AttributeRows.{attributes, conditions as cfg_conditions, macro_paths, metas, token_trees, inner_attributes}
use Rattle.rap_grammar_table.proofs.ClosedRows.{closed, with_cast}
use Rattle.rap_grammar_table.proofs.Entries.{CategoryChecked, checked_of}
use Rattle.rap_grammar_table.proofs.ExprRows.{atoms, atoms_forbidden, arg_lists, atom_paths, brace_trees, cast_paths, cast_types, last_cast_types, lets, lets_forbidden, else_prefixed, else_values, name_exprs, open_atoms_so, open_prefixed, operands, operands_forbidden, plain_atoms_so, prefixed, prefixed_forbidden, round_trees, stmt_operands, stmt_prefixed}
use Rattle.rap_grammar_table.proofs.FrontRows.{arm_lists, assoc_lists, extern_lists, field_lists, front_stmts, item_lists, last_stmts, record_value_rows, use_lists, value_lists, variant_lists}
use Rattle.rap_grammar_table.proofs.GenericRows.{arguments, generic_params, generics, predicates, wheres}
use Rattle.rap_grammar_table.proofs.ItemRows.{fn_params, items, record_fields_so, variants, visibilities, use_trees}
use Rattle.rap_grammar_table.proofs.OperatorRows.{assigneds, conditions, expressions, guards, open_or, open_and, range_ends, range_ends_forbidden}
use Rattle.rap_grammar_table.proofs.PatternRows.{named_rests, param_patterns, pattern_paths, patterns, rest_patterns, single_patterns}
use Rattle.rap_grammar_table.proofs.Sound.{Checked}
use Rattle.rap_grammar_table.proofs.StmtRows.{arms, attr_exprs, block_stmts, blocks, empty_stmts, ending_blocks, ifs, last_arms, macro_tails, stmt_blocks, stmt_exprs_so, stmt_lists, stmts, tails, with_blocks_so}
use Rattle.rap_grammar_table.proofs.TypeRows.{anchor_traits, anchored_paths, bound_lists, bounds, fn_pointer_params, global_paths, param_names, path_args, paths, paths_before_plus, plain_types, symbol_types_so, types, types_before_plus, use_paths, expr_paths, simple_paths, trait_refs}

each : (c : Category) → CategoryChecked grammar entry c
each Ty = record { rows_are = refl; is_checked = types }
each PlainTy = record { rows_are = refl; is_checked = plain_types }
each TyBeforePlus = record { rows_are = refl; is_checked = types_before_plus }
each AnchorTrait = record { rows_are = refl; is_checked = anchor_traits }
each SymbolTy = record { rows_are = refl; is_checked = symbol_types_so }
each Path = record { rows_are = refl; is_checked = paths }
each PathBeforePlus = record { rows_are = refl; is_checked = paths_before_plus }
each UsePath = record { rows_are = refl; is_checked = use_paths }
each GlobalPath = record { rows_are = refl; is_checked = global_paths }
each AnchoredPath = record { rows_are = refl; is_checked = anchored_paths }
each Args = record { rows_are = refl; is_checked = path_args }
each Argument = record { rows_are = refl; is_checked = arguments }
each Bound = record { rows_are = refl; is_checked = bounds }
each Bounds = record { rows_are = refl; is_checked = bound_lists }
each GenericParam = record { rows_are = refl; is_checked = generic_params }
each Generics = record { rows_are = refl; is_checked = generics }
each Predicate = record { rows_are = refl; is_checked = predicates }
each Where = record { rows_are = refl; is_checked = wheres }
each ParamName = record { rows_are = refl; is_checked = param_names }
each FnPointerParams = record { rows_are = refl; is_checked = fn_pointer_params }
each Pattern = record { rows_are = refl; is_checked = patterns }
each Expr = record { rows_are = refl; is_checked = expressions }
each Stmt = record { rows_are = refl; is_checked = stmts }
each Block = record { rows_are = refl; is_checked = blocks }
each Visibility = record { rows_are = refl; is_checked = visibilities }
each RecordField = record { rows_are = refl; is_checked = record_fields_so }
each Variant = record { rows_are = refl; is_checked = variants }
each FnParams = record { rows_are = refl; is_checked = fn_params }
each Item = record { rows_are = refl; is_checked = items }
each TokenTree = record { rows_are = refl; is_checked = token_trees }
each Attr = record { rows_are = refl; is_checked = attributes }
each Meta = record { rows_are = refl; is_checked = metas }
each Cfg = record { rows_are = refl; is_checked = cfg_conditions }
each MacroPath = record { rows_are = refl; is_checked = macro_paths }
each ExprPath = record { rows_are = refl; is_checked = expr_paths }
each SimplePath = record { rows_are = refl; is_checked = simple_paths }
each TraitRef = record { rows_are = refl; is_checked = trait_refs }
each UseTree = record { rows_are = refl; is_checked = use_trees }
each InnerAttr = record { rows_are = refl; is_checked = inner_attributes }
each SinglePattern = record { rows_are = refl; is_checked = single_patterns }
each PatternPath = record { rows_are = refl; is_checked = pattern_paths }
each RestPattern = record { rows_are = refl; is_checked = rest_patterns }
each ParamPattern = record { rows_are = refl; is_checked = param_patterns }
each AtomPath = record { rows_are = refl; is_checked = atom_paths }
each RoundTree = record { rows_are = refl; is_checked = round_trees }
each BraceTree = record { rows_are = refl; is_checked = brace_trees }
each ArgList = record { rows_are = refl; is_checked = arg_lists }
each NameExpr = record { rows_are = refl; is_checked = name_exprs }
each CastTy = record { rows_are = refl; is_checked = cast_types }
each CastPath = record { rows_are = refl; is_checked = cast_paths }
each StmtList = record { rows_are = refl; is_checked = stmt_lists }
each If = record { rows_are = refl; is_checked = ifs }
each WithBlock = record { rows_are = refl; is_checked = with_blocks_so }
each Arm = record { rows_are = refl; is_checked = arms }
each LastArm = record { rows_are = refl; is_checked = last_arms }
each (Atom false) = record { rows_are = refl; is_checked = atoms }
each (Atom true) = record { rows_are = refl; is_checked = atoms_forbidden }
each (Operand false) = record { rows_are = refl; is_checked = operands }
each (Operand true) = record { rows_are = refl; is_checked = operands_forbidden }
each (Prefixed false) = record { rows_are = refl; is_checked = prefixed }
each (Prefixed true) = record { rows_are = refl; is_checked = prefixed_forbidden }
each StmtOperand = record { rows_are = refl; is_checked = stmt_operands }
each StmtPrefixed = record { rows_are = refl; is_checked = stmt_prefixed }
each OpenAtom = record { rows_are = refl; is_checked = open_atoms_so }
each OpenPrefixed = record { rows_are = refl; is_checked = open_prefixed }
each Condition = record { rows_are = refl; is_checked = conditions }
each Guard = record { rows_are = refl; is_checked = guards }
each (RangeEnd false) = record { rows_are = refl; is_checked = range_ends }
each (RangeEnd true) = record { rows_are = refl; is_checked = range_ends_forbidden }
each Assigned = record { rows_are = refl; is_checked = assigneds }
each StmtExpr = record { rows_are = refl; is_checked = stmt_exprs_so }
each StmtBlock = record { rows_are = refl; is_checked = stmt_blocks }
each BlockStmt = record { rows_are = refl; is_checked = block_stmts }
each Tail = record { rows_are = refl; is_checked = tails }
each (Closed forbid level) = record { rows_are = refl; is_checked = closed forbid level }
each (WithCast forbid level) = record { rows_are = refl; is_checked = with_cast forbid level }
each OpenOr = record { rows_are = refl; is_checked = open_or }
each OpenAnd = record { rows_are = refl; is_checked = open_and }
each EndingBlock = record { rows_are = refl; is_checked = ending_blocks }
each EmptyStmt = record { rows_are = refl; is_checked = empty_stmts }
each MacroTail = record { rows_are = refl; is_checked = macro_tails }
each PlainAtom = record { rows_are = refl; is_checked = plain_atoms_so }
each ElseValue = record { rows_are = refl; is_checked = else_values }
each ElsePrefixed = record { rows_are = refl; is_checked = else_prefixed }
each RecordFields = record { rows_are = refl; is_checked = field_lists }
each Variants = record { rows_are = refl; is_checked = variant_lists }
each UseTrees = record { rows_are = refl; is_checked = use_lists }
each ItemList = record { rows_are = refl; is_checked = item_lists }
each AssocItems = record { rows_are = refl; is_checked = assoc_lists }
each ExternItems = record { rows_are = refl; is_checked = extern_lists }
each RecordValues = record { rows_are = refl; is_checked = value_lists }
each MatchArms = record { rows_are = refl; is_checked = arm_lists }
each FrontStmt = record { rows_are = refl; is_checked = front_stmts }
each LastStmt = record { rows_are = refl; is_checked = last_stmts }
each RecordValue = record { rows_are = refl; is_checked = record_value_rows }
each AttrExpr = record { rows_are = refl; is_checked = attr_exprs }
each LastCastTy = record { rows_are = refl; is_checked = last_cast_types }
each NamedRest = record { rows_are = refl; is_checked = named_rests }
each (Let false) = record { rows_are = refl; is_checked = lets }
each (Let true) = record { rows_are = refl; is_checked = lets_forbidden }

pub checked : Checked table
checked = checked_of grammar entry each
