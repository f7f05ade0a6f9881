-- That the table derives what the small grammar derives.
use Rattle.std.specs.Prelude.{◌≡◌, ℕ, List, All}
use Rattle.rap_base.specs.NodeKind.{BLOCK_EXPR, SOURCE_FILE}
use Rattle.rap_events.specs.Record.{Record, IsTokenRecord}
use Rattle.rap_events.specs.Forest.{Forest, none, node}
use Rattle.rap_small_grammar.specs.Derives.{Block, Category, Contents, Derives, Expression, Fields, File, Item, Items, Many, Ty}
use Rattle.rap_small_grammar.specs.MacroCall.{IsBracketed, IsMacroCall}
use Rattle.rap_grammar_table.specs.Category as categories
use Rattle.rap_grammar_table.specs.Category.{StmtList}
use Rattle.rap_grammar_table.specs.Table as rows
use Rattle.rap_grammar_table.specs.Tops.{Makes, MakesRow, file_row, items_row, stmts_row}

-- What the small grammar derives in a category, the table derives too, with the same tree: in a category of its own, by
-- its number, or as a row that stands alone.
abbrev pub HoldsIn : Category → categories.Category → Type 0
HoldsIn category number =
    (tokens : List Record) (tree : Forest) → Derives category tokens tree → Makes number tokens tree

abbrev pub HoldsAlone : Category → rows.Items → Type 0
HoldsAlone category is =
    (tokens : List Record) (tree : Forest) → Derives category tokens tree → MakesRow is tokens tree

abbrev pub HoldsType : Type 0
HoldsType = HoldsIn Ty categories.Ty

abbrev pub HoldsExpression : Type 0
HoldsExpression = HoldsIn Expression categories.Expr

abbrev pub HoldsItem : Type 0
HoldsItem = HoldsIn Item categories.Item

abbrev pub HoldsBlock : Type 0
HoldsBlock = HoldsIn Block categories.Block

-- any number of items; items and the fields of a struct in braces; what stands in the braces of a block
abbrev pub HoldsItems : Type 0
HoldsItems = HoldsAlone (Many Item) items_row

abbrev pub HoldsItemList : Type 0
HoldsItemList = HoldsIn Items categories.ItemList

abbrev pub HoldsFieldList : Type 0
HoldsFieldList = HoldsIn Fields categories.RecordFields

abbrev pub HoldsContents : Type 0
HoldsContents = HoldsAlone Contents stmts_row

-- the same of a block's statements in their braces, and of what stands in a file
pub record InBlock (tokens : List Record) (tree : Forest) : Type 0 where
  pub list : Forest
  pub node_is : tree ≡ node none BLOCK_EXPR list
  pub derives : Makes StmtList tokens list

abbrev pub HoldsStatements : Type 0
HoldsStatements = (tokens : List Record) (tree : Forest) → Derives Block tokens tree → InBlock tokens tree

pub record InFile (tokens : List Record) (tree : Forest) : Type 0 where
  pub forest : Forest
  pub node_is : tree ≡ node none SOURCE_FILE forest
  pub derives : MakesRow file_row tokens forest

abbrev pub HoldsFile : Type 0
HoldsFile = (tokens : List Record) (tree : Forest) → Derives File tokens tree → InFile tokens tree

-- Of an input's tokens: balanced ones in brackets, and a macro call in the place of an item.
abbrev pub HoldsBrackets : Type 0
HoldsBrackets =
    (tokens : List Record) (tree : Forest) → All IsTokenRecord tokens → IsBracketed tokens tree →
    Makes categories.TokenTree tokens tree

abbrev pub HoldsCall : Type 0
HoldsCall =
    (tokens : List Record) (tree : Forest) → All IsTokenRecord tokens → IsMacroCall tokens tree →
    Makes categories.Item tokens tree
