-- The core grammar: the rows of each category.
use Rattle.std.specs.Prelude.{false, List, [], ◌∷◌}
use Rattle.rap_base.specs.NodeKind.{ITEM_LIST, ASSOC_ITEM_LIST, EXTERN_ITEM_LIST, EXPR_STMT, PATH, PATH_TYPE, ARG_LIST, REST_PAT, MATCH_ARM, PATH_EXPR, PATH_SEGMENT, RECORD_FIELD}
use Rattle.rap_base.specs.TokenKind.{L_CURLY, R_CURLY, DOT2, L_PAREN, R_PAREN, SEMICOLON, COLON, IDENT}
use Rattle.rap_grammar_table.specs.AttributeRows.{token_tree_rows, attr_rows, meta_rows, cfg_rows, macro_path_rows, inner_attr_rows, tree_in}
use Rattle.rap_grammar_table.specs.Category.{Category, Ty, PlainTy, TyBeforePlus, AnchorTrait, SymbolTy, Path, PathBeforePlus, UsePath, GlobalPath, AnchoredPath, Args, Argument, Bound, Bounds, GenericParam, Generics, Predicate, Where, ParamName, FnPointerParams, Pattern, Expr, Stmt, Block, Visibility, RecordField, Variant, FnParams, Item, TokenTree, Attr, Meta, Cfg, MacroPath, ExprPath, SimplePath, TraitRef, UseTree, InnerAttr, SinglePattern, PatternPath, RestPattern, ParamPattern, AtomPath, RoundTree, BraceTree, ArgList, NameExpr, CastTy, CastPath, StmtList, If, WithBlock, Arm, LastArm, Atom, Operand, Prefixed, StmtOperand, StmtPrefixed, OpenAtom, OpenPrefixed, Condition, Guard, RangeEnd, Assigned, StmtExpr, StmtBlock, BlockStmt, Tail, Closed, WithCast, OpenOr, OpenAnd, EndingBlock, EmptyStmt, MacroTail, PlainAtom, ElseValue, ElsePrefixed, RecordFields, Variants, UseTrees, ItemList, AssocItems, ExternItems, RecordValues, MatchArms, FrontStmt, LastStmt, RecordValue, And, AttrExpr, LastCastTy, NamedRest, Let}
use Rattle.rap_grammar_table.specs.ExprRows.{record_values, expr_rows, round_tree_rows, cast_type_rows, cast_path_rows, operand_rows, stmt_operand_rows, open_atoms, open_prefixed_rows, condition_rows, guard_rows, open_or_rows, plain_atoms, else_rows, without_let, atoms, block_part, open_prefixes, record_field, value, let_expr}
use Rattle.rap_grammar_table.specs.GenericRows.{argument_rows, param_rows, generics_rows, predicate_rows, where_rows}
use Rattle.rap_grammar_table.specs.ItemRows.{items_under, record_fields, use_list, variant_list, visibility_rows, variant_rows, fn_params_rows, item_rows, use_tree_rows, opt_visibility}
use Rattle.rap_grammar_table.specs.Notation.{each_under, rows_of, Part, ◌⊳◌, around, c, node, commas, op, t}
use Rattle.rap_grammar_table.specs.Operators.{cast_turns, closed_turns, fresh, levels, tighter}
use Rattle.rap_grammar_table.specs.PatternRows.{or_rows, single_rows, named_rest_rows, param_pattern_rows}
use Rattle.rap_grammar_table.specs.SharedRows.{path_names, use_names, attrs, name, name_ref}
use Rattle.rap_grammar_table.specs.StmtRows.{match_arms, stmt_rows, stmt_list_rows, arm_rows, stmt_exprs, block_stmt_rows, tail_rows, front_rows, if_expr, with_blocks, attributed_exprs, arm_head}
use Rattle.rap_grammar_table.specs.Table.{Grammar}
use Rattle.rap_grammar_table.specs.TypeRows.{type_rows, plain_type_rows, type_before_plus_rows, anchor_trait_rows, symbol_type_rows, args_rows, param_name_rows, fn_pointer_params_rows, expr_path_rows, alone_or_in_parens, anchored_path, bare_bounds, bound_list, global_path, more_segments, named_paths, segment}

-- The rows of each category. A `forbid` says that no record literal may stand in it.
abbrev pub rows : Category → List Part
rows Ty = type_rows
rows PlainTy = plain_type_rows
rows TyBeforePlus = type_before_plus_rows
rows AnchorTrait = anchor_trait_rows
rows SymbolTy = symbol_type_rows
rows Path = named_paths PlainTy path_names
rows PathBeforePlus = named_paths TyBeforePlus path_names
rows UsePath = named_paths TyBeforePlus use_names
rows GlobalPath = global_path ∷ []
rows AnchoredPath = anchored_path ∷ []
rows Args = args_rows
rows Argument = argument_rows
rows Bound = alone_or_in_parens bare_bounds
rows Bounds = bound_list ∷ []
rows GenericParam = param_rows
rows Generics = generics_rows
rows Predicate = predicate_rows
rows Where = where_rows
rows ParamName = param_name_rows
rows FnPointerParams = fn_pointer_params_rows
rows Pattern = or_rows
rows Expr = expr_rows
rows Stmt = stmt_rows
rows Block = block_part ∷ []
rows Visibility = visibility_rows
rows RecordField = node RECORD_FIELD (attrs ⊳ opt_visibility ⊳ name ⊳ t COLON ⊳ c Ty) ∷ []
rows Variant = variant_rows
rows FnParams = fn_params_rows
rows Item = item_rows
rows TokenTree = token_tree_rows
rows Attr = attr_rows
rows Meta = meta_rows
rows Cfg = cfg_rows
rows MacroPath = macro_path_rows
rows ExprPath = expr_path_rows
rows SimplePath = (node PATH (segment path_names) ⊳ more_segments) ∷ []
rows TraitRef = node PATH_TYPE (c SimplePath) ∷ node PATH_TYPE (c GlobalPath) ∷ []
rows UseTree = use_tree_rows
rows InnerAttr = inner_attr_rows
rows SinglePattern = single_rows
rows PatternPath = expr_path_rows
rows RestPattern = node REST_PAT (op DOT2) ∷ []
rows ParamPattern = param_pattern_rows
rows AtomPath = expr_path_rows
rows RoundTree = round_tree_rows
rows BraceTree = tree_in L_CURLY R_CURLY ∷ []
rows ArgList = node ARG_LIST (t L_PAREN ⊳ commas value ⊳ t R_PAREN) ∷ []
rows NameExpr = node PATH_EXPR (node PATH (node PATH_SEGMENT (name_ref (IDENT ∷ [])))) ∷ []
rows CastTy = cast_type_rows
rows CastPath = cast_path_rows
rows StmtList = stmt_list_rows
rows If = if_expr ∷ []
rows WithBlock = with_blocks
rows Arm = arm_rows
rows LastArm = node MATCH_ARM (arm_head ⊳ c StmtExpr) ∷ []
rows (Atom forbid) = atoms forbid
rows (Operand forbid) = operand_rows forbid
rows (Prefixed forbid) = c (Operand forbid) ∷ []
rows StmtOperand = stmt_operand_rows
rows StmtPrefixed = c StmtOperand ∷ []
rows OpenAtom = open_atoms
rows OpenPrefixed = open_prefixed_rows
rows Condition = condition_rows
rows Guard = guard_rows
rows (RangeEnd forbid) = (c (Operand forbid) ⊳ around fresh (cast_turns forbid levels)) ∷ []
rows Assigned = without_let
rows StmtExpr = stmt_exprs
rows StmtBlock = c EndingBlock ∷ []
rows BlockStmt = block_stmt_rows
rows Tail = tail_rows
rows (Closed forbid level) = (c (Operand forbid) ⊳ around fresh (closed_turns forbid (tighter level))) ∷ []
rows (WithCast forbid level) = (c (Operand forbid) ⊳ around fresh (cast_turns forbid (tighter level))) ∷ []
rows OpenOr = open_or_rows
rows OpenAnd = (c (Operand false) ⊳ around fresh (cast_turns false (tighter And))) ∷ c OpenAtom ∷ open_prefixes
rows EndingBlock = with_blocks
rows EmptyStmt = t SEMICOLON ∷ []
rows MacroTail = tail_rows
rows PlainAtom = plain_atoms
rows ElseValue = else_rows
rows ElsePrefixed = else_rows
rows RecordFields = record_fields ∷ []
rows Variants = variant_list ∷ []
rows UseTrees = use_list ∷ []
rows ItemList = items_under ITEM_LIST ∷ []
rows AssocItems = items_under ASSOC_ITEM_LIST ∷ []
rows ExternItems = items_under EXTERN_ITEM_LIST ∷ []
rows RecordValues = record_values ∷ []
rows MatchArms = match_arms ∷ []
rows FrontStmt = front_rows (each_under EXPR_STMT tail_rows)
rows LastStmt = front_rows tail_rows
rows RecordValue = record_field ∷ []
rows AttrExpr = attributed_exprs (Prefixed false)
rows LastCastTy = plain_type_rows
rows NamedRest = named_rest_rows
rows (Let forbid) = let_expr forbid ∷ []

-- the core grammar
abbrev pub grammar : Grammar
grammar category = rows_of (rows category)
