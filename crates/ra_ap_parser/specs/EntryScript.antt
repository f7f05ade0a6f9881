-- What a top entry makes of its input.
use Rattle.std.specs.Prelude.{◌≡◌, ◌≢◌, ◌⊎◌, ℕ, List, true, false, ◌++◌, drop}
use Rattle.rap_base.specs.NodeKind.{SOURCE_FILE, MACRO_STMTS, MACRO_ITEMS}
use Rattle.rap_base.specs.TokenKind.{L_PAREN, SEMICOLON}
use Rattle.rap_events.specs.Record.{Record, next_kind}
use Rattle.rap_events.specs.Forest.{Forest, none, node, ◌⧺◌, used}
use Rattle.rap_grammar_scripts.specs.ThroughKnot.{expr, pattern, pattern_single, type_, meta}
use Rattle.rap_grammar_ends.specs.Mixed.{IsFront}
use Rattle.rap_grammar_table.specs.AttributeRows.{meta_follows}
use Rattle.rap_grammar_table.specs.Category as table
use Rattle.rap_grammar_table.specs.SharedRows.{plus_follows, type_follows}
use Rattle.rap_grammar_table.specs.Fronts.{MakesBefore}
use Rattle.rap_grammar_table.specs.Heads.{file_head, items_head}
use Rattle.rap_grammar_table.specs.Operators.{expr_ends}
use Rattle.rap_grammar_table.specs.PatternRows.{pattern_follows, single_follows}
use Rattle.rap_grammar_table.specs.StmtRows.{front_stmt_follows, last_stmt_follows}
use Rattle.rap_grammar_table.specs.Table.{Items}
use Rattle.rap_grammar_table.specs.Tops.{Makes, MakesRow, file_row, items_row, stmts_row}
use Rattle.rap_grammar.specs.CoreItems.{IsItem}
use Rattle.rap_grammar.specs.Top.{IsTopOf, IsRootOf, top_tree}
use Rattle.rap_grammar_scripts.specs.Entry.{source_file, macro_stmts}
use Rattle.rap_grammar_scripts.specs.Modules.{mod_contents}
use Rattle.rap_grammar_scripts.specs.Items.{item_or_macro}
use Rattle.rap_grammar_scripts.specs.Statements.{stmt}
use Rattle.rap_grammar.specs.Part.{IsPrefixOf}
use Rattle.rap_grammar_scripts.specs.Blocks.{block_expr}
use Rattle.rap_grammar_scripts.specs.Paths.{type_path}
use Rattle.rap_grammar_scripts.specs.Visibility.{opt_visibility}
use Rattle.rap_grammar_scripts.specs.declared.arguments.Semicolon.TheVariants as semicolon
use Rattle.ra_ap_parser.specs.declared.entry_point.PrefixEntryPoint.{PrefixEntryPoint}
use Rattle.ra_ap_parser.specs.declared.entry_point.PrefixEntryPoint.TheVariants as prefix
use Rattle.ra_ap_parser.specs.declared.entry_point.TopEntryPoint.{TopEntryPoint}
use Rattle.ra_ap_parser.specs.declared.entry_point.TopEntryPoint.TheVariants as entry

-- What an entry gives of an input. `SourceFile`, `MacroStmts` and `MacroItems` make their node
-- of the whole input. The others read one thing, and make
-- an `ERROR` of it and of what is left where it is not the whole input, or not one tree.
abbrev pub IsOutputOf : TopEntryPoint → List Record → Forest → Type 0
IsOutputOf entry.SourceFile input output = IsRootOf SOURCE_FILE source_file input output
IsOutputOf entry.MacroStmts input output = IsRootOf MACRO_STMTS macro_stmts input output
IsOutputOf entry.MacroItems input output = IsRootOf MACRO_ITEMS (mod_contents false) input output
IsOutputOf entry.Pattern input output = IsTopOf pattern input output
IsOutputOf entry.Ty input output = IsTopOf type_ input output
IsOutputOf entry.Expr input output = IsTopOf expr input output
IsOutputOf entry.MetaItem input output = IsTopOf meta input output

-- The whole input is what a row of the table derives, and this tree is a node of this kind over it.
abbrev pub IsRow : ℕ → Items → List Record → Forest → Type 0
IsRow kind row input tree = (forest : Forest) × MakesRow row input forest × (tree ≡ node none kind forest)

-- The whole input is derived by the table of the core grammar, with this tree. Under `MacroStmts` it is what may stand in
-- the braces of a block, and under `MacroItems` any number of items, in the node of the entry. So is all that the small
-- grammar derives of a file, of items, of what stands in a block, of a type and of an expression: `holds_in_table`.
abbrev pub IsCore : TopEntryPoint → List Record → Forest → Type 0
IsCore entry.SourceFile input tree = IsRow SOURCE_FILE file_row input tree
IsCore entry.MacroStmts input tree = IsRow MACRO_STMTS stmts_row input tree
IsCore entry.MacroItems input tree = IsRow MACRO_ITEMS items_row input tree
IsCore entry.Pattern input tree = Makes table.Pattern input tree
IsCore entry.Ty input tree = Makes table.Ty input tree
IsCore entry.Expr input tree = Makes table.Expr input tree
IsCore entry.MetaItem input tree = Makes table.Meta input tree

-- Where an input begins with items of the core grammar and with `@`, `,` and integers, in any order, the entry's node
-- begins with the tree of each, whatever follows the last such token. Before these may stand what may stand before the
-- items by the table: of a file a shebang, frontmatter and attributes of the file, and of a macro's items attributes.
abbrev pub KeepsFrontBehind : Items → ℕ → List Record → Forest → Type 0
KeepsFrontBehind before kind input output =
    (head front rest : List Record) (heads trees : Forest) → input ≡ head ++ (front ++ rest) →
    MakesRow before head heads → IsFront IsItem front rest trees →
    (more : Forest) × (output ≡ node none kind ((heads ⧺ trees) ⧺ more))

abbrev pub KeepsFront : TopEntryPoint → List Record → Forest → Type 0
KeepsFront entry.SourceFile input output = KeepsFrontBehind file_head SOURCE_FILE input output
KeepsFront entry.MacroStmts input output = Unit {0}
KeepsFront entry.MacroItems input output = KeepsFrontBehind items_head MACRO_ITEMS input output
KeepsFront entry.Pattern input output = Unit {0}
KeepsFront entry.Ty input output = Unit {0}
KeepsFront entry.Expr input output = Unit {0}
KeepsFront entry.MetaItem input output = Unit {0}

-- What a prefix entry gives of the front of an input.
abbrev pub IsPrefixOutputOf : PrefixEntryPoint → List Record → Forest → Type 0
IsPrefixOutputOf prefix.Vis input output = IsPrefixOf (opt_visibility false) input output
IsPrefixOutputOf prefix.Block input output = IsPrefixOf block_expr input output
IsPrefixOutputOf prefix.Stmt input output = IsPrefixOf (stmt semicolon.Forbidden) input output
IsPrefixOutputOf prefix.Pat input output = IsPrefixOf pattern_single input output
IsPrefixOutputOf prefix.PatTop input output = IsPrefixOf pattern input output
IsPrefixOutputOf prefix.Ty input output = IsPrefixOf type_ input output
IsPrefixOutputOf prefix.Expr input output = IsPrefixOf expr input output
IsPrefixOutputOf prefix.Path input output = IsPrefixOf type_path input output
IsPrefixOutputOf prefix.Item input output = IsPrefixOf (item_or_macro true true) input output
IsPrefixOutputOf prefix.MetaItem input output = IsPrefixOf meta input output

-- This is made of whatever the prefix entry reads: the same, where it is one tree over the whole input, and else an
-- `ERROR` over it and what is left.
abbrev pub IsTopOfPrefix : PrefixEntryPoint → List Record → Forest → Type 0
IsTopOfPrefix entry input output =
    (front : Forest) → IsPrefixOutputOf entry input front → output ≡ top_tree front (drop (used front) input)

-- A top entry that reads one thing makes its tree of what its prefix entry reads.
abbrev pub WrapsPrefix : TopEntryPoint → List Record → Forest → Type 0
WrapsPrefix entry.SourceFile input output = Unit {0}
WrapsPrefix entry.MacroStmts input output = Unit {0}
WrapsPrefix entry.MacroItems input output = Unit {0}
WrapsPrefix entry.Pattern input output = IsTopOfPrefix prefix.PatTop input output
WrapsPrefix entry.Ty input output = IsTopOfPrefix prefix.Ty input output
WrapsPrefix entry.Expr input output = IsTopOfPrefix prefix.Expr input output
WrapsPrefix entry.MetaItem input output = IsTopOfPrefix prefix.MetaItem input output

-- The front of an input is derived by the table of the core grammar, with this tree, before what can follow it: an item
-- before any token but a semicolon, a visibility before any but a parenthesis, a block before anything, and the others
-- before tokens that go on in one of some ways.
abbrev pub IsPrefixCore : PrefixEntryPoint → List Record → List Record → Forest → Type 0
IsPrefixCore prefix.Vis front rest tree = Makes table.Visibility front tree × (next_kind rest ≢ L_PAREN)
IsPrefixCore prefix.Block front rest tree = Makes table.Block front tree
IsPrefixCore prefix.Stmt front rest tree =
    MakesBefore front_stmt_follows table.FrontStmt front rest tree ⊎
    MakesBefore last_stmt_follows table.LastStmt front rest tree
IsPrefixCore prefix.Pat front rest tree = MakesBefore single_follows table.SinglePattern front rest tree
IsPrefixCore prefix.PatTop front rest tree = MakesBefore pattern_follows table.Pattern front rest tree
IsPrefixCore prefix.Ty front rest tree = MakesBefore type_follows table.Ty front rest tree
IsPrefixCore prefix.Expr front rest tree = MakesBefore (expr_ends false) table.Expr front rest tree
IsPrefixCore prefix.Path front rest tree =
    MakesBefore type_follows table.Path front rest tree ⊎
    (MakesBefore plus_follows table.GlobalPath front rest tree ⊎
    MakesBefore plus_follows table.AnchoredPath front rest tree)
IsPrefixCore prefix.Item front rest tree = Makes table.Item front tree × (next_kind rest ≢ SEMICOLON)
IsPrefixCore prefix.MetaItem front rest tree = MakesBefore meta_follows table.Meta front rest tree
