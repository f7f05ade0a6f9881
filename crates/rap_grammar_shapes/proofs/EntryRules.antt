-- The scripts of the entries, of the parts that are read alone and of the nodes that are parsed again: their ends are
-- known, and what is read of a whole file may stand under its node.
use Rattle.std.proofs.Common.{◌≡◌, true, false, refl}
use Rattle.rap_base.specs.NodeKind.{SOURCE_FILE, MACRO_ITEMS, MACRO_STMTS}
use Rattle.rap_grammar_scripts.specs.Adt.{record_field_list, variant_list}
use Rattle.rap_grammar_scripts.specs.Blocks.{block_expr}
use Rattle.rap_grammar_scripts.specs.Entry.{source_file, macro_stmts}
use Rattle.rap_grammar_scripts.specs.Items.{item_or_macro}
use Rattle.rap_grammar_scripts.specs.Matches.{match_arm_list}
use Rattle.rap_grammar_scripts.specs.Modules.{item_list, extern_item_list, mod_contents}
use Rattle.rap_grammar_scripts.specs.Paths.{type_path}
use Rattle.rap_grammar_scripts.specs.Records.{record_expr_field_list}
use Rattle.rap_grammar_scripts.specs.Statements.{stmt}
use Rattle.rap_grammar_scripts.specs.ThroughKnot.{expr, pattern, pattern_single, type_, meta}
use Rattle.rap_grammar_scripts.specs.TokenTree.{token_tree}
use Rattle.rap_grammar_scripts.specs.Traits.{assoc_item_list}
use Rattle.rap_grammar_scripts.specs.UseItem.{use_tree_list}
use Rattle.rap_grammar_scripts.specs.Visibility.{opt_visibility}
use Rattle.rap_grammar_scripts.specs.declared.arguments.Semicolon.TheVariants as semicolon
use Rattle.rap_grammar_scripts.proofs.Scripts.{scripts}
use Rattle.rap_grammar_table.proofs.Tests.{tests}
use Rattle.rap_grammar_shapes.specs.HaveShapes.{RootsHaveShapes, AloneHaveShapes}
use Rattle.rap_grammar_shapes.proofs.AllRules.{root_so, script_so}
use Rattle.rap_grammar_shapes.proofs.Known.{knows, stands_under}

file_stand : stands_under SOURCE_FILE source_file ≡ true
unfolding scripts tests
file_stand = refl

items_stand : stands_under MACRO_ITEMS (mod_contents false) ≡ true
unfolding scripts tests
items_stand = refl

statements_stand : stands_under MACRO_STMTS macro_stmts ≡ true
unfolding scripts tests
statements_stand = refl

visibility_known : knows (opt_visibility false) ≡ true
unfolding scripts tests
visibility_known = refl

block_known : knows block_expr ≡ true
unfolding scripts tests
block_known = refl

statement_known : knows (stmt semicolon.Forbidden) ≡ true
unfolding scripts tests
statement_known = refl

single_pattern_known : knows pattern_single ≡ true
unfolding scripts tests
single_pattern_known = refl

pattern_known : knows pattern ≡ true
unfolding scripts tests
pattern_known = refl

type_known : knows type_ ≡ true
unfolding scripts tests
type_known = refl

expression_known : knows expr ≡ true
unfolding scripts tests
expression_known = refl

path_known : knows type_path ≡ true
unfolding scripts tests
path_known = refl

item_known : knows (item_or_macro true true) ≡ true
unfolding scripts tests
item_known = refl

meta_known : knows meta ≡ true
unfolding scripts tests
meta_known = refl

record_fields_known : knows record_field_list ≡ true
unfolding scripts tests
record_fields_known = refl

record_expr_fields_known : knows record_expr_field_list ≡ true
unfolding scripts tests
record_expr_fields_known = refl

variants_known : knows variant_list ≡ true
unfolding scripts tests
variants_known = refl

arms_known : knows match_arm_list ≡ true
unfolding scripts tests
arms_known = refl

use_trees_known : knows use_tree_list ≡ true
unfolding scripts tests
use_trees_known = refl

extern_items_known : knows extern_item_list ≡ true
unfolding scripts tests
extern_items_known = refl

token_tree_known : knows token_tree ≡ true
unfolding scripts tests
token_tree_known = refl

assoc_items_known : knows assoc_item_list ≡ true
unfolding scripts tests
assoc_items_known = refl

items_of_list_known : knows item_list ≡ true
unfolding scripts tests
items_of_list_known = refl

-- What the entries make over the whole input has shapes.
pub roots_so : RootsHaveShapes
roots_so =
    record {
      file = root_so SOURCE_FILE source_file file_stand;
      items = root_so MACRO_ITEMS (mod_contents false) items_stand;
      statements = root_so MACRO_STMTS macro_stmts statements_stand;
    }

-- What is read alone has shapes.
pub alone_so : AloneHaveShapes
alone_so =
    record {
      visibility = script_so (opt_visibility false) visibility_known;
      block = script_so block_expr block_known;
      statement = script_so (stmt semicolon.Forbidden) statement_known;
      single_pattern = script_so pattern_single single_pattern_known;
      pattern = script_so pattern pattern_known;
      type = script_so type_ type_known;
      expression = script_so expr expression_known;
      path = script_so type_path path_known;
      item = script_so (item_or_macro true true) item_known;
      meta = script_so meta meta_known;
      record_fields = script_so record_field_list record_fields_known;
      record_values = script_so record_expr_field_list record_expr_fields_known;
      variants = script_so variant_list variants_known;
      match_arms = script_so match_arm_list arms_known;
      use_trees = script_so use_tree_list use_trees_known;
      extern_items = script_so extern_item_list extern_items_known;
      tokens = script_so token_tree token_tree_known;
      assoc_items = script_so assoc_item_list assoc_items_known;
      items = script_so item_list items_of_list_known;
    }
