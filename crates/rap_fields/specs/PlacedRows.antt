-- Written by crates/rap_base/fields from fields.txt beside it and the shapes of nodes: an edit here is lost.
-- The fields that are found by their places too, with how many children of a whole node stand there.
use Rattle.std.specs.Prelude.{List, Some, [], ℕ, ◌∷◌}
use Rattle.rap_base.specs.NodeKind.{ARRAY_EXPR, ASM_OPERAND_EXPR, BIN_EXPR, BLOCK_EXPR, FOR_EXPR, IF_EXPR, IMPL, INDEX_EXPR, MACRO_DEF, RANGE_EXPR, RANGE_PAT, TOKEN_TREE, TYPE_ALIAS, TYPE_ANCHOR, WHERE_CLAUSE, WHILE_EXPR}
use Rattle.rap_base.specs.TokenKind.{AS_KW, DOT2, DOT2EQ, DOT3, ELSE_KW, EQ, FAT_ARROW, FOR_KW, L_BRACK, SEMICOLON}
use Rattle.rap_fields.specs.Field.{any_number, at_most_one, between, exactly_one}
use Rattle.rap_fields.specs.Place.{FieldRow, at, behind, leaf_mark, node_mark, only_until, past, past_before, until, until_last, until_last_before}
use Rattle.rap_fields.specs.declared.rule.Which.TheVariants.{All, First, Last}
use Rattle.rap_grammar_shapes.specs.Shapes.{expressions, operators, patterns, types}
use Rattle.rap_fields.specs.FieldNames as field

abbrev pub type_anchor_placed : List FieldRow
type_anchor_placed =
    at field.TY First (exactly_one types) (until (leaf_mark (AS_KW ∷ []))) ∷
    at field.PATH_TYPE First (at_most_one types) (behind (leaf_mark (AS_KW ∷ []))) ∷ []

abbrev pub range_expr_placed : List FieldRow
range_expr_placed =
    at field.START First (at_most_one expressions) (until (leaf_mark (DOT2 ∷ DOT2EQ ∷ []))) ∷
    at field.END First (at_most_one expressions) (behind (leaf_mark (DOT2 ∷ DOT2EQ ∷ []))) ∷ []

abbrev pub bin_expr_placed : List FieldRow
bin_expr_placed =
    at field.LHS First (exactly_one expressions) (until (leaf_mark operators)) ∷
    at field.RHS First (exactly_one expressions) (behind (leaf_mark operators)) ∷ []

abbrev pub index_expr_placed : List FieldRow
index_expr_placed =
    at field.BASE First (exactly_one expressions) (until (leaf_mark (L_BRACK ∷ []))) ∷
    at field.INDEX First (exactly_one expressions) (behind (leaf_mark (L_BRACK ∷ []))) ∷ []

abbrev pub array_expr_placed : List FieldRow
array_expr_placed =
    at field.EXPRS All (any_number expressions) (until (leaf_mark (SEMICOLON ∷ []))) ∷
    at field.REPEAT First (at_most_one expressions) (behind (leaf_mark (SEMICOLON ∷ []))) ∷ []

abbrev pub if_expr_placed : List FieldRow
if_expr_placed =
    at field.CONDITION First (exactly_one expressions) (until_last_before (node_mark (BLOCK_EXPR ∷ [])) (leaf_mark (ELSE_KW ∷ []))) ∷
    at field.THEN_BRANCH Last (between 1 (Some 2) (BLOCK_EXPR ∷ [])) (until (leaf_mark (ELSE_KW ∷ []))) ∷
    at field.ELSE_BRANCH First (at_most_one (BLOCK_EXPR ∷ IF_EXPR ∷ [])) (behind (leaf_mark (ELSE_KW ∷ []))) ∷ []

abbrev pub while_expr_placed : List FieldRow
while_expr_placed = at field.CONDITION First (exactly_one expressions) (until_last (node_mark (BLOCK_EXPR ∷ []))) ∷ []

abbrev pub for_expr_placed : List FieldRow
for_expr_placed = at field.ITERABLE First (exactly_one expressions) (until_last (node_mark (BLOCK_EXPR ∷ []))) ∷ []

abbrev pub asm_operand_expr_placed : List FieldRow
asm_operand_expr_placed =
    at field.IN_EXPR First (exactly_one expressions) (until (leaf_mark (FAT_ARROW ∷ []))) ∷
    at field.OUT_EXPR First (at_most_one expressions) (behind (leaf_mark (FAT_ARROW ∷ []))) ∷ []

abbrev pub type_alias_placed : List FieldRow
type_alias_placed =
    at field.WHERE_CLAUSE First (between 0 (Some 2) (WHERE_CLAUSE ∷ [])) (until (leaf_mark (EQ ∷ []))) ∷
    at field.TRAILING_WHERE_CLAUSE First (at_most_one (WHERE_CLAUSE ∷ [])) (past_before (node_mark (WHERE_CLAUSE ∷ [])) (leaf_mark (EQ ∷ []))) ∷
    []

abbrev pub macro_def_placed : List FieldRow
macro_def_placed = at field.ARGS First (at_most_one (TOKEN_TREE ∷ [])) (until_last (node_mark (TOKEN_TREE ∷ []))) ∷ []

abbrev pub impl_placed : List FieldRow
impl_placed =
    at field.TRAIT_ First (at_most_one types) (only_until (leaf_mark (FOR_KW ∷ []))) ∷
    at field.SELF_TY First (exactly_one types) (past (leaf_mark (FOR_KW ∷ []))) ∷ []

abbrev pub range_pat_placed : List FieldRow
range_pat_placed =
    at field.START First (at_most_one patterns) (until (leaf_mark (DOT2 ∷ DOT3 ∷ DOT2EQ ∷ []))) ∷
    at field.END First (at_most_one patterns) (behind (leaf_mark (DOT2 ∷ DOT3 ∷ DOT2EQ ∷ []))) ∷ []

-- of each kind
abbrev pub placed : List (ℕ × List FieldRow)
placed =
    (TYPE_ANCHOR, type_anchor_placed) ∷ (RANGE_EXPR, range_expr_placed) ∷ (BIN_EXPR, bin_expr_placed) ∷
    (INDEX_EXPR, index_expr_placed) ∷ (ARRAY_EXPR, array_expr_placed) ∷ (IF_EXPR, if_expr_placed) ∷
    (WHILE_EXPR, while_expr_placed) ∷ (FOR_EXPR, for_expr_placed) ∷ (ASM_OPERAND_EXPR, asm_operand_expr_placed) ∷
    (TYPE_ALIAS, type_alias_placed) ∷ (MACRO_DEF, macro_def_placed) ∷ (IMPL, impl_placed) ∷
    (RANGE_PAT, range_pat_placed) ∷ []
