-- What is read alone from the front of an input.
use Rattle.std.specs.Prelude.{◌≡◌, ℕ, ◌≤◌, Bool, true, false, List, [], drop, length}
use Rattle.rap_base.specs.NodeKind.{VISIBILITY, PATH, BLOCK_EXPR, RECORD_FIELD_LIST, RECORD_EXPR_FIELD_LIST, VARIANT_LIST, MATCH_ARM_LIST, USE_TREE_LIST, EXTERN_ITEM_LIST, TOKEN_TREE, ASSOC_ITEM_LIST, ITEM_LIST}
use Rattle.rap_events.specs.Record.{Record}
use Rattle.rap_events.specs.Forest.{Forest, none, node, used, message_count, one_tree}
use Rattle.rap_events.specs.State.{State}
use Rattle.rap_grammar_scripts.specs.Adt.{record_field_list, variant_list}
use Rattle.rap_grammar_scripts.specs.Blocks.{block_expr}
use Rattle.rap_grammar_scripts.specs.Matches.{match_arm_list}
use Rattle.rap_grammar_scripts.specs.Modules.{item_list, extern_item_list}
use Rattle.rap_grammar_scripts.specs.Knot.{script_of, Follows}
use Rattle.rap_grammar_scripts.specs.Paths.{type_path}
use Rattle.rap_grammar_scripts.specs.declared.rule.Rule.{Rule}
use Rattle.rap_grammar_scripts.specs.Records.{record_expr_field_list}
use Rattle.rap_grammar_scripts.specs.Script.{Script, Outcome, nothing, Runs, give, rule}
use Rattle.rap_grammar_scripts.specs.TokenTree.{token_tree}
use Rattle.rap_grammar_scripts.specs.Traits.{assoc_item_list}
use Rattle.rap_grammar_scripts.specs.UseItem.{use_tree_list}
use Rattle.rap_grammar_scripts.specs.Visibility.{opt_visibility}
use Rattle.rap_grammar_scripts.specs.Words.{recur, done, if_some}
use Rattle.rap_grammar_table.specs.Category as table
use Rattle.rap_grammar_table.specs.Tops.{Makes}
use Rattle.rap_grammar.specs.Top.{IsForestOver}
use Rattle.rap_grammar.specs.declared.entry.part.Part.{Part}
use Rattle.rap_grammar.specs.declared.entry.part.Part.TheVariants as part

-- A forest over tokens at the front of the input, and over no others.
pub record IsPrefixOver (input : List Record) (output : Forest) : Type 0 where
  pub within : used output ≤ length input
  pub forest : IsForestOver input (used output) output

-- The output of an entry with this script: what the script makes of the front of the input, up to where it stops.
pub record IsPrefixOf (s : Script Rule) (input : List Record) (output : Forest) : Type 0 where
  pub outcome : Outcome
  pub run : Runs script_of s (record { rest = input; forest = none; below = [] })
      (record { rest = drop (used output) input; forest = output; below = [] }) outcome

-- the script of a part
abbrev pub part_script : Part → Script Rule
part_script part.Visibility = opt_visibility false
part_script part.Path = type_path
part_script part.Block = block_expr
part_script part.RecordFieldList = record_field_list
part_script part.RecordExprFieldList = record_expr_field_list
part_script part.VariantList = variant_list
part_script part.MatchArmList = match_arm_list
part_script part.UseTreeList = use_tree_list
part_script part.ExternItemList = extern_item_list
part_script part.TokenTree = token_tree
part_script part.AssocItemList = assoc_item_list
part_script part.ItemList = item_list

-- the kind of a part's node
abbrev pub part_kind : Part → ℕ
part_kind part.Visibility = VISIBILITY
part_kind part.Path = PATH
part_kind part.Block = BLOCK_EXPR
part_kind part.RecordFieldList = RECORD_FIELD_LIST
part_kind part.RecordExprFieldList = RECORD_EXPR_FIELD_LIST
part_kind part.VariantList = VARIANT_LIST
part_kind part.MatchArmList = MATCH_ARM_LIST
part_kind part.UseTreeList = USE_TREE_LIST
part_kind part.ExternItemList = EXTERN_ITEM_LIST
part_kind part.TokenTree = TOKEN_TREE
part_kind part.AssocItemList = ASSOC_ITEM_LIST
part_kind part.ItemList = ITEM_LIST

-- a part that stands in braces
abbrev pub in_braces : Part → Bool
in_braces part.Visibility = false
in_braces part.Path = false
in_braces part.Block = true
in_braces part.RecordFieldList = true
in_braces part.RecordExprFieldList = true
in_braces part.VariantList = true
in_braces part.MatchArmList = true
in_braces part.UseTreeList = true
in_braces part.ExternItemList = true
in_braces part.TokenTree = true
in_braces part.AssocItemList = true
in_braces part.ItemList = true

-- A part that is read only where its brace comes next. A block says itself that its brace is missing.
abbrev pub asks_brace : Part → Bool
asks_brace part.Visibility = false
asks_brace part.Path = false
asks_brace part.Block = false
asks_brace part.RecordFieldList = true
asks_brace part.RecordExprFieldList = true
asks_brace part.VariantList = true
asks_brace part.MatchArmList = true
asks_brace part.UseTreeList = true
asks_brace part.ExternItemList = true
asks_brace part.TokenTree = true
asks_brace part.AssocItemList = true
asks_brace part.ItemList = true

-- These tokens are derived by the table of the core grammar as this part, with this tree. So are, as a token tree, an
-- input's tokens in brackets, balanced: `holds_in_table`.
abbrev pub IsPartCore : Part → List Record → Forest → Type 0
IsPartCore part.Visibility tokens tree = ⊥
IsPartCore part.Path tokens tree = ⊥
IsPartCore part.Block tokens tree = Makes table.Block tokens tree
IsPartCore part.RecordFieldList tokens tree = Makes table.RecordFields tokens tree
IsPartCore part.RecordExprFieldList tokens tree = Makes table.RecordValues tokens tree
IsPartCore part.VariantList tokens tree = Makes table.Variants tokens tree
IsPartCore part.MatchArmList tokens tree = Makes table.MatchArms tokens tree
IsPartCore part.UseTreeList tokens tree = Makes table.UseTrees tokens tree
IsPartCore part.ExternItemList tokens tree = Makes table.ExternItems tokens tree
IsPartCore part.TokenTree tokens tree = Makes table.TokenTree tokens tree
IsPartCore part.AssocItemList tokens tree = Makes table.AssocItems tokens tree
IsPartCore part.ItemList tokens tree = Makes table.ItemList tokens tree

-- An output that is this tree, without a message, over this many tokens at the front of the input.
pub record IsWhole (tree : Forest) (tokens : ℕ) (output : Forest) : Type 0 where
  pub same : output ≡ tree
  pub clean : message_count output ≡ 0
  pub used_is : used output ≡ tokens

-- exactly one node of this kind
pub record IsOneNode (kind : ℕ) (output : Forest) : Type 0 where
  pub children : Forest
  pub node_is : output ≡ node none kind children
  pub one : one_tree output ≡ true

-- the script of a rule alone, whatever it returns
unfoldable pub part_of : Rule → Script Rule
part_of c = recur c done

-- the same of one that returns an option
unfoldable pub option_of : Rule → Script Rule
option_of c = rule c (λ v. if_some v done (give nothing))

-- A parser went along a script, with some outcome.
pub record Goes (s : Script Rule) (old new : State) : Type 0 where
  pub outcome : Outcome
  pub follows : Follows s outcome old new
