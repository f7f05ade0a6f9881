-- The same tokens have one tree, in each category that is read alone.
use Rattle.std.proofs.Common.{◌≡◌, ℕ, List, [], ◌∷◌, ap, refl, false, zero, suc}
use Rattle.rap_base.specs.TokenKind.{COMMA, EOF, L_PAREN, SEMICOLON}
use Rattle.rap_base.specs.declared.edition.Edition.TheVariants.{Edition2024}
use Rattle.rap_events.specs.Forest.{Forest}
use Rattle.rap_events.specs.Record.{Record, kind_at, contextual_at, joint_at}
use Rattle.rap_grammar_scripts.proofs.OneEnd.{one_end}
use Rattle.rap_grammar_scripts.specs.Script.{Script, Spot}
use Rattle.rap_grammar_scripts.specs.declared.rule.Rule.{Rule}
use Rattle.rap_grammar_table.specs.Category.{AnchoredPath, AssocItems, Block, Expr, ExternItems, FrontStmt, GlobalPath, Item, ItemList, LastStmt, MatchArms, Meta, Path, Pattern, RecordFields, RecordValues, SinglePattern, TokenTree, Ty, UseTrees, Variants, Visibility}
use Rattle.rap_grammar_table.specs.Fronts.{any_but}
use Rattle.rap_grammar_table.specs.Known.{Fits, Sees, place_at, this_way}
use Rattle.rap_grammar_table.specs.Laws.{HasOneForest, HasOneTree}
use Rattle.rap_grammar_table.specs.Notation.{of_kinds}
use Rattle.rap_grammar_table.proofs.Table.{table}
use Rattle.rap_grammar_table.specs.Tops.{at_end, file_row, items_row, stmts_row}
use Rattle.rap_grammar_table.proofs.Fronts.{MakesOf, anchored_path_front, arms_front, assoc_items_front, block_front, expr_front, extern_items_front, fields_front, global_path_front, item_front, items_front, last_stmt_front, meta_front, path_front, pattern_front, single_front, stmt_front, token_tree_front, type_front, use_trees_front, values_front, variants_front, visibility_front}
use Rattle.rap_grammar_table.proofs.Known.{weaker}
use Rattle.rap_grammar_table.proofs.Tops.{MakesAll, end_follows, file_made, items_made, sees_end, stmts_made}

one_made : {s : Script Rule} (ks l : List Record) {y z : Forest} → MakesOf s ks l y →
    MakesOf s ks l z → y ≡ z
one_made ks l m n = ap (λ (p : Spot). p.forest) (one_end (m []) (n [])).spot

all_made : {s : Script Rule} (ks : List Record) {y z : Forest} → MakesAll s ks y → MakesAll s ks z → y ≡ z
all_made ks m n = ap (λ (p : Spot). p.forest) (one_end (m []) (n [])).spot

pub one_of_types : HasOneTree Ty
one_of_types ks y z d e =
    let s = end_follows Ty refl in one_made ks [] (type_front (d, s)) (type_front (e, s))

pub one_of_expressions : HasOneTree Expr
one_of_expressions ks y z d e =
    let s = end_follows Expr refl in one_made ks [] (expr_front (d, s)) (expr_front (e, s))

pub one_of_patterns : HasOneTree Pattern
one_of_patterns ks y z d e =
    let s = end_follows Pattern refl in one_made ks [] (pattern_front (d, s)) (pattern_front (e, s))

pub one_of_single_patterns : HasOneTree SinglePattern
one_of_single_patterns ks y z d e =
    let s = end_follows SinglePattern refl in one_made ks [] (single_front (d, s)) (single_front (e, s))

pub one_of_metas : HasOneTree Meta
one_of_metas ks y z d e =
    let s = end_follows Meta refl in one_made ks [] (meta_front (d, s)) (meta_front (e, s))

pub one_of_paths : HasOneTree Path
one_of_paths ks y z d e =
    let s = end_follows Path refl in one_made ks [] (path_front (d, s)) (path_front (e, s))

pub one_of_global_paths : HasOneTree GlobalPath
one_of_global_paths ks y z d e =
    let s = end_follows GlobalPath refl in one_made ks [] (global_path_front (d, s)) (global_path_front (e, s))

pub one_of_anchored_paths : HasOneTree AnchoredPath
one_of_anchored_paths ks y z d e =
    let s = end_follows AnchoredPath refl in one_made ks [] (anchored_path_front (d, s)) (anchored_path_front (e, s))

pub one_of_last_statements : HasOneTree LastStmt
one_of_last_statements ks y z d e =
    let s = end_follows LastStmt refl in one_made ks [] (last_stmt_front (d, s)) (last_stmt_front (e, s))

-- an item and a visibility end before the end too, and other statements before a semicolon
pub one_of_items : HasOneTree Item
one_of_items ks y z d e =
    let s = weaker at_end (any_but SEMICOLON) [] refl sees_end in
    one_made ks [] (item_front (d, s)) (item_front (e, s))

pub one_of_visibilities : HasOneTree Visibility
one_of_visibilities ks y z d e =
    let s = weaker at_end (any_but L_PAREN) [] refl sees_end in
    one_made ks [] (visibility_front (d, s)) (visibility_front (e, s))

abbrev semicolon : Record
semicolon = record { kind = SEMICOLON; contextual = EOF; joint = false; edition = Edition2024 }

before_semicolon : Sees (table.follows FrontStmt) (semicolon ∷ [])
before_semicolon = this_way (record { fits = semicolon_fits })
  where
    semicolon_fits : (n : ℕ) →
        Fits (place_at n (of_kinds (SEMICOLON ∷ COMMA ∷ []) ∷ [])) (kind_at (semicolon ∷ []) n)
        (contextual_at (semicolon ∷ []) n) (joint_at (semicolon ∷ []) n)
    semicolon_fits zero = record { kinds = refl; words = refl; joint = refl }
    semicolon_fits (suc n) = record { kinds = refl; words = refl; joint = refl }

pub one_of_statements : HasOneTree FrontStmt
one_of_statements ks y z d e =
    one_made ks (semicolon ∷ []) (stmt_front (d, before_semicolon)) (stmt_front (e, before_semicolon))

-- what is read from its braces
pub one_of_blocks : HasOneTree Block
one_of_blocks ks y z d e = one_made ks [] (block_front [] d) (block_front [] e)

pub one_of_field_lists : HasOneTree RecordFields
one_of_field_lists ks y z d e = one_made ks [] (fields_front [] d) (fields_front [] e)

pub one_of_value_lists : HasOneTree RecordValues
one_of_value_lists ks y z d e = one_made ks [] (values_front [] d) (values_front [] e)

pub one_of_variant_lists : HasOneTree Variants
one_of_variant_lists ks y z d e = one_made ks [] (variants_front [] d) (variants_front [] e)

pub one_of_arm_lists : HasOneTree MatchArms
one_of_arm_lists ks y z d e = one_made ks [] (arms_front [] d) (arms_front [] e)

pub one_of_use_lists : HasOneTree UseTrees
one_of_use_lists ks y z d e = one_made ks [] (use_trees_front [] d) (use_trees_front [] e)

pub one_of_extern_lists : HasOneTree ExternItems
one_of_extern_lists ks y z d e = one_made ks [] (extern_items_front [] d) (extern_items_front [] e)

pub one_of_assoc_lists : HasOneTree AssocItems
one_of_assoc_lists ks y z d e = one_made ks [] (assoc_items_front [] d) (assoc_items_front [] e)

pub one_of_item_lists : HasOneTree ItemList
one_of_item_lists ks y z d e = one_made ks [] (items_front [] d) (items_front [] e)

pub one_of_token_trees : HasOneTree TokenTree
one_of_token_trees ks y z d e = one_made ks [] (token_tree_front [] d) (token_tree_front [] e)

-- what stands under an entry's node
pub one_of_files : HasOneForest file_row
one_of_files ks y z d e = all_made ks (file_made d) (file_made e)

pub one_of_macro_items : HasOneForest items_row
one_of_macro_items ks y z d e = all_made ks (items_made d) (items_made e)

pub one_of_macro_statements : HasOneForest stmts_row
one_of_macro_statements ks y z d e = all_made ks (stmts_made d) (stmts_made e)
