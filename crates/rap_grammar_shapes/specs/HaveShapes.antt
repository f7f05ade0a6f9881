-- Which children the nodes of a forest have.
use Rattle.std.specs.Prelude.{◌≡◌, ◌⊎◌, ℕ, true, false, List, All}
use Rattle.rap_base.specs.NodeKind.{SOURCE_FILE, MACRO_ITEMS, MACRO_STMTS}
use Rattle.rap_base.specs.TokenKind.{ERROR}
use Rattle.rap_events.specs.Forest.{Forest, none, node, message_count}
use Rattle.rap_events.specs.Record.{IsTokenRecord}
use Rattle.rap_grammar_ends.specs.StandsIn.{NodeAt}
use Rattle.rap_grammar_scripts.specs.Adt.{record_field_list, variant_list}
use Rattle.rap_grammar_scripts.specs.Blocks.{block_expr}
use Rattle.rap_grammar_scripts.specs.Entry.{source_file, macro_stmts}
use Rattle.rap_grammar_scripts.specs.Items.{item_or_macro}
use Rattle.rap_grammar_scripts.specs.Knot.{script_of}
use Rattle.rap_grammar_scripts.specs.Matches.{match_arm_list}
use Rattle.rap_grammar_scripts.specs.Modules.{item_list, extern_item_list, mod_contents}
use Rattle.rap_grammar_scripts.specs.Paths.{type_path}
use Rattle.rap_grammar_scripts.specs.Records.{record_expr_field_list}
use Rattle.rap_grammar_scripts.specs.Script.{Script, Outcome, Spot, Runs}
use Rattle.rap_grammar_scripts.specs.Statements.{stmt}
use Rattle.rap_grammar_scripts.specs.ThroughKnot.{expr, pattern, pattern_single, type_, meta}
use Rattle.rap_grammar_scripts.specs.TokenTree.{token_tree}
use Rattle.rap_grammar_scripts.specs.Traits.{assoc_item_list}
use Rattle.rap_grammar_scripts.specs.UseItem.{use_tree_list}
use Rattle.rap_grammar_scripts.specs.Visibility.{opt_visibility}
use Rattle.rap_grammar_scripts.specs.declared.arguments.Semicolon.TheVariants as semicolon
use Rattle.rap_grammar_scripts.specs.declared.rule.Rule.{Rule}
use Rattle.rap_grammar_table.specs.Shapes.{Child, children_of, shape, Spells}
use Rattle.rap_grammar_shapes.specs.Shapes.{shape_of}
use Rattle.rap_grammar_shapes.specs.Spelled.{spelled_children}
use Rattle.rap_grammar_shapes.specs.Whole.{IsWhole}

-- Each node that has no message and no ERROR right under it, wherever it stands, has children that the shape of its kind
-- spells, in order. Where there is no message in the forest, no node is an ERROR.
pub record HaveShapes (forest : Forest) : Type 0 where
  pub shapes : (place kind : ℕ) (children : Forest) → NodeAt forest place kind children →
      IsWhole (children_of children) → Spells (shape_of kind) (spelled_children children)
  pub told : message_count forest ≡ 0 → (place : ℕ) (children : Forest) → NodeAt forest place ERROR children → ⊥

-- The same of what an entry makes, but for an `ERROR` over everything, which an entry puts around what it did not read as
-- one tree.
pub record HaveShapesWithin (output : Forest) : Type 0 where
  pub shapes : (place kind : ℕ) (children : Forest) → NodeAt output place kind children →
      IsWhole (children_of children) →
      (output ≡ node none ERROR children) ⊎ Spells (shape_of kind) (spelled_children children)
  pub told : message_count output ≡ 0 → (place : ℕ) (children : Forest) → NodeAt output place ERROR children →
      output ≡ node none ERROR children

-- What the rows of the table give a node of a kind, in a tree that they derive, is of the kind's shape too.
abbrev pub RowsFit : Type 0
RowsFit = (kind : ℕ) (children : List Child) → Spells (shape kind) children → Spells (shape_of kind) children

-- What a script adds, however it runs over tokens, is so: if all nodes were so before, they are so at its end.
abbrev pub KeepsShapes : Script Rule → Type 0
KeepsShapes s =
    (p q : Spot) (v : Outcome) → All IsTokenRecord p.rest → Runs script_of s p q v → HaveShapes p.forest →
    HaveShapes q.forest

-- So is whatever a recursive rule makes of any input.
abbrev pub RulesKeepShapes : Type 0
RulesKeepShapes = (rule : Rule) → KeepsShapes (script_of rule)

-- What a script makes under a node that holds nothing yet is so, and the node of this kind over it is so too.
abbrev pub MakesNode : ℕ → Script Rule → Type 0
MakesNode kind s =
    (p q : Spot) (v : Outcome) → All IsTokenRecord p.rest → Runs script_of s p q v → p.forest ≡ none →
    HaveShapes (node none kind q.forest)

-- The entries that make a node over the whole input.
pub record RootsHaveShapes : Type 0 where
  pub file : MakesNode SOURCE_FILE source_file
  pub items : MakesNode MACRO_ITEMS (mod_contents false)
  pub statements : MakesNode MACRO_STMTS macro_stmts

-- What is read alone: by an entry, at the front of an input, or where a node is parsed again.
pub record AloneHaveShapes : Type 0 where
  pub visibility : KeepsShapes (opt_visibility false)
  pub block : KeepsShapes block_expr
  pub statement : KeepsShapes (stmt semicolon.Forbidden)
  pub single_pattern : KeepsShapes pattern_single
  pub pattern : KeepsShapes pattern
  pub type : KeepsShapes type_
  pub expression : KeepsShapes expr
  pub path : KeepsShapes type_path
  pub item : KeepsShapes (item_or_macro true true)
  pub meta : KeepsShapes meta
  pub record_fields : KeepsShapes record_field_list
  pub record_values : KeepsShapes record_expr_field_list
  pub variants : KeepsShapes variant_list
  pub match_arms : KeepsShapes match_arm_list
  pub use_trees : KeepsShapes use_tree_list
  pub extern_items : KeepsShapes extern_item_list
  pub tokens : KeepsShapes token_tree
  pub assoc_items : KeepsShapes assoc_item_list
  pub items : KeepsShapes item_list
