-- What each recursive rule appends.
use Rattle.std.specs.Prelude.{List, [], ◌∷◌}
use Rattle.rap_base.specs.NodeKind.{ASSOC_TYPE_ARG, CFG_ATOM, CFG_COMPOSITE, CONST_ARG, DYN_TRAIT_TYPE, GENERIC_PARAM_LIST, IF_EXPR, LIFETIME_ARG, PATH_TYPE, TOKEN_TREE, TYPE_ARG, TYPE_BOUND_LIST, USE_TREE, WHERE_CLAUSE}
use Rattle.rap_base.specs.TokenKind.{SEMICOLON}
use Rattle.rap_grammar_scripts.specs.Script.{Outcome, nothing as none_left, something, block}
use Rattle.rap_grammar_scripts.specs.declared.rule.Rule.{Rule}
use Rattle.rap_grammar_scripts.specs.declared.rule.Rule.TheVariants as knot
use Rattle.rap_grammar_shapes.proofs.Content.{Content, leaf_of, node_of, spoilt, ◌or◌}
use Rattle.rap_grammar_shapes.specs.Shapes.{expressions, items, metas, operands, patterns, single_patterns, statement_nodes, types}

-- What a rule appends to the node that is open, by its outcome: one leaf or one node of these kinds, or what is spoilt.
abbrev pub brings : Rule → List (Outcome × Content)
brings (knot.ExprBp r bp) = (something, node_of expressions) ∷ (block, node_of operands) ∷ (none_left, spoilt) ∷ []
brings (knot.TypeWithBoundsCond b) = (something, node_of types or spoilt) ∷ []
brings knot.PathTypeBounds = (something, node_of (DYN_TRAIT_TYPE ∷ PATH_TYPE ∷ [])) ∷ []
brings knot.GenericArg = (something, node_of (TYPE_ARG ∷ LIFETIME_ARG ∷ CONST_ARG ∷ ASSOC_TYPE_ARG ∷ [])) ∷ []
brings knot.GenericParamList = (something, node_of (GENERIC_PARAM_LIST ∷ [])) ∷ []
brings knot.BoundsWithoutColon = (something, node_of (TYPE_BOUND_LIST ∷ [])) ∷ []
brings knot.WhereClause = (something, node_of (WHERE_CLAUSE ∷ [])) ∷ []
brings knot.Pattern = (something, node_of patterns or spoilt) ∷ []
brings knot.PatternSingle = (something, node_of single_patterns or spoilt) ∷ []
brings knot.ArmPattern = (something, node_of patterns or spoilt) ∷ []
brings (knot.Stmt s) = (something, leaf_of (SEMICOLON ∷ []) or node_of statement_nodes or spoilt) ∷ []
brings knot.IfExpr = (something, node_of (IF_EXPR ∷ [])) ∷ []
brings (knot.ItemOrMacro a b) = (something, node_of items or spoilt) ∷ []
brings knot.UseTree = (something, node_of (USE_TREE ∷ [])) ∷ []
brings knot.Meta = (something, node_of metas) ∷ []
brings knot.CfgPredicate = (something, node_of (CFG_ATOM ∷ CFG_COMPOSITE ∷ [])) ∷ []
brings knot.TokenTree = (something, node_of (TOKEN_TREE ∷ [])) ∷ []
