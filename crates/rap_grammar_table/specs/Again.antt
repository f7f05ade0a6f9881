-- Nodes of the table's trees that are parsed again from their own tokens.
use Rattle.std.specs.Prelude.{◌≡◌, ◌==◌, if◌then◌else◌, ℕ, List, [], ◌∷◌, Option, Some, None}
use Rattle.rap_base.specs.NodeKind.{ASSOC_ITEM_LIST, BLOCK_EXPR, EXTERN_ITEM_LIST, ITEM_LIST, MACRO_ITEMS, MACRO_STMTS, MATCH_ARM_LIST, RECORD_EXPR_FIELD_LIST, RECORD_FIELD_LIST, SOURCE_FILE, TOKEN_TREE, USE_TREE_LIST, VARIANT_LIST}
use Rattle.rap_base.specs.TokenKind.{L_CURLY}
use Rattle.rap_events.specs.Forest.{Forest, none, node}
use Rattle.rap_events.specs.Record.{Record, next_kind}
use Rattle.rap_grammar_ends.specs.StandsIn.{StandsIn}
use Rattle.rap_grammar_table.specs.Category.{AssocItems, Block, ExternItems, ItemList, MatchArms, RecordFields, RecordValues, TokenTree, UseTrees, Variants, Category}
use Rattle.rap_grammar_table.specs.Tops.{Makes, MakesRow, file_row, items_row, stmts_row}

-- the kinds of these nodes, each with its category
abbrev pub parsed_again : List (ℕ × Category)
parsed_again =
    (BLOCK_EXPR, Block)
    ∷ (RECORD_FIELD_LIST, RecordFields)
    ∷ (RECORD_EXPR_FIELD_LIST, RecordValues)
    ∷ (VARIANT_LIST, Variants)
    ∷ (MATCH_ARM_LIST, MatchArms)
    ∷ (USE_TREE_LIST, UseTrees)
    ∷ (EXTERN_ITEM_LIST, ExternItems)
    ∷ (TOKEN_TREE, TokenTree)
    ∷ (ASSOC_ITEM_LIST, AssocItems)
    ∷ (ITEM_LIST, ItemList)
    ∷ []

abbrev pub category_in : List (ℕ × Category) → ℕ → Option Category
category_in [] kind = None
category_in (row ∷ rows) kind = if row.0 == kind then Some row.1 else category_in rows kind

-- these tokens are a category's, where there is one
abbrev pub MakesIn : Option Category → List Record → Forest → Type 0
MakesIn None tokens tree = Unit {0}
MakesIn (Some category) tokens tree = Makes category tokens tree

-- A node of this kind over these tokens and these children, if it begins with a brace and is parsed again alone, is
-- what its own tokens make.
abbrev pub IsMade : ℕ → List Record → Forest → Type 0
IsMade kind own children =
    next_kind own ≡ L_CURLY → MakesIn (category_in parsed_again kind) own (node none kind children)

-- What the table derives in any category, and what stands under an entry's node.
pub data IsTableTree : List Record → Forest → Type 0 where
  of_category : {category : Category} {tokens : List Record} {tree : Forest} → Makes category tokens tree →
      IsTableTree tokens tree
  a_file : {tokens : List Record} {forest : Forest} → MakesRow file_row tokens forest →
      IsTableTree tokens (node none SOURCE_FILE forest)
  some_items : {tokens : List Record} {forest : Forest} → MakesRow items_row tokens forest →
      IsTableTree tokens (node none MACRO_ITEMS forest)
  some_stmts : {tokens : List Record} {forest : Forest} → MakesRow stmts_row tokens forest →
      IsTableTree tokens (node none MACRO_STMTS forest)

-- Each node of such a tree is made by its own tokens.
abbrev pub MakesItsNodes : Type 0
MakesItsNodes =
    (tokens own : List Record) (tree children : Forest) (kind : ℕ) → IsTableTree tokens tree →
    StandsIn tokens tree own kind children → IsMade kind own children
