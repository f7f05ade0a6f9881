-- What the table derives of the front of an input is what scripts make of it, before what may follow it.
use Rattle.std.proofs.Common.{◌≡◌, Bool, true, false, ℕ, List, [], ◌∷◌, ◌++◌, append-nil, refl}
use Rattle.rap_base.specs.TokenKind.{L_PAREN, SEMICOLON}
use Rattle.rap_events.specs.Forest.{Forest, none, ◌⧺◌, message_count}
use Rattle.rap_events.specs.Record.{Record}
use Rattle.rap_grammar_scripts.specs.Adt.{record_field_list, variant_list}
use Rattle.rap_grammar_scripts.specs.Blocks.{block_expr}
use Rattle.rap_grammar_scripts.specs.Items.{item_or_macro}
use Rattle.rap_grammar_scripts.specs.Knot.{script_of}
use Rattle.rap_grammar_scripts.specs.Matches.{match_arm_list}
use Rattle.rap_grammar_scripts.specs.Modules.{item_list, extern_item_list}
use Rattle.rap_grammar_scripts.specs.Paths.{type_path}
use Rattle.rap_grammar_scripts.specs.Records.{record_expr_field_list}
use Rattle.rap_grammar_scripts.specs.Script.{Script, Outcome, nothing, something, block, again, Runs}
use Rattle.rap_grammar_scripts.specs.Statements.{stmt}
use Rattle.rap_grammar_scripts.specs.ThroughKnot.{expr, meta, pattern, pattern_single, type_}
use Rattle.rap_grammar_scripts.specs.TokenTree.{token_tree}
use Rattle.rap_grammar_scripts.specs.Traits.{assoc_item_list}
use Rattle.rap_grammar_scripts.specs.UseItem.{use_tree_list}
use Rattle.rap_grammar_scripts.specs.Visibility.{opt_visibility}
use Rattle.rap_grammar_scripts.specs.declared.arguments.Semicolon.TheVariants as semicolon
use Rattle.rap_grammar_scripts.specs.declared.rule.Rule.{Rule}
use Rattle.rap_grammar_table.specs.Rows.{grammar}
use Rattle.rap_grammar_table.specs.Category.{AnchoredPath, AssocItems, Block, Expr, ExternItems, FrontStmt, GlobalPath, Item, ItemList, LastStmt, MatchArms, Meta, Path, Pattern, RecordFields, RecordValues, SinglePattern, TokenTree, Ty, UseTrees, Variants, Visibility, Category}
use Rattle.rap_grammar_table.specs.Fronts.{any_but, MakesBefore}
use Rattle.rap_grammar_table.proofs.Good.{Good, good_category, IsNode}
use Rattle.rap_grammar_table.specs.Known.{Place, Sees, this_way, anything}
use Rattle.rap_grammar_table.proofs.Evaluate.{says}
use Rattle.rap_grammar_table.proofs.Look.{followed, look}
use Rattle.rap_grammar_table.proofs.Refusal.{Verdict, accepted}
use Rattle.rap_grammar_table.proofs.Table.{table}
use Rattle.rap_grammar_table.specs.Table.{Items, nil, piece, cat, put, ended, by_row}
use Rattle.rap_grammar_table.specs.Tops.{Makes, MakesRow}
use Rattle.rap_grammar_table.proofs.Walk.{all_accepted, nesting, reads_row}
use Rattle.rap_grammar_table.proofs.Ways.{has_outcome}
use Rattle.rap_grammar_table.proofs.Entries.{all_rows, of_all}
use Rattle.rap_grammar_table.proofs.Free.{clean}
use Rattle.rap_grammar_table.proofs.Known.{weaker}
use Rattle.rap_grammar_table.proofs.LookLaws.{seen}
use Rattle.rap_grammar_table.proofs.Rows.{checked}
use Rattle.rap_grammar_table.proofs.Scripts.{scripts}
use Rattle.rap_grammar_table.proofs.Sound.{claim, of_accepted, row_read}
use Rattle.rap_grammar_table.proofs.Tests.{tests}
use Rattle.rap_grammar_table.proofs.Values.{none-⧺}

-- a category's tokens and their tree, before what may follow the category
abbrev pub MakesFront : Category → List Record → List Record → Forest → Type 0
MakesFront category front rest tree = MakesBefore (table.follows category) category front rest tree

only_something : (v : Outcome) → has_outcome (something ∷ []) v ≡ true → v ≡ something
only_something nothing h = absurd cc
only_something something h = refl
only_something block h = absurd cc
only_something (again a b) h = absurd cc

-- a script adds this tree, of these tokens, before these, and leaves them
abbrev pub AddsOf : Script Rule → List Record → List Record → Forest → Type 0
AddsOf s ks l y =
    (f : Forest) (b : List Forest) → Runs script_of s (record { rest = ks ++ l; forest = f; below = b })
    (record { rest = l; forest = f ⧺ y; below = b }) something

-- the same where nothing is there
abbrev pub MakesOf : Script Rule → List Record → List Record → Forest → Type 0
MakesOf s ks l y =
    (b : List Forest) → Runs script_of s (record { rest = ks ++ l; forest = none; below = b })
    (record { rest = l; forest = y; below = b }) something

-- so it is with a row that it reads before what comes then
abbrev pub reads_so : List (List Place) → Script Rule → Items → Verdict
reads_so g s is = reads_row table g s (something ∷ []) is

row_adds : (is : Items) (g : List (List Place)) {ks l : List Record} {y : Forest} (s : Script Rule) →
    reads_so g s is ≡ accepted → followed table is g g ≡ true → MakesRow is ks y → Sees g l → AddsOf s ks l y
row_adds is g {ks = ks} {l = l} {y = y} s h w d e f b =
    let m = claim checked d g l e w in
    let r = row_read table nesting g s (something ∷ []) is l ks m.pieces y f b e m.made h in
    rw (only_something r.outcome r.among_them) at r.run

pub row_made : (is : Items) (g : List (List Place)) {ks l : List Record} {y : Forest} (s : Script Rule) →
    reads_so g s is ≡ accepted → followed table is g g ≡ true → MakesRow is ks y → Sees g l → MakesOf s ks l y
row_made is g s h w d e b = rw none-⧺ at (row_adds is g s h w d e none b)

-- of a category by its rows, and of one that a rule reads
abbrev followed_so : Category → List (List Place) → Bool
followed_so c g = all_rows (λ is. followed table is g g) (grammar c)

abbrev rows_so : List (List Place) → Script Rule → Category → Verdict
rows_so g s c = all_accepted (reads_so g s) (grammar c)

by_rows_add : (c : Category) (g : List (List Place)) {ks l : List Record} {y : Forest} (s : Script Rule) →
    rows_so g s c ≡ accepted → followed_so c g ≡ true → Makes c ks y → Sees g l → AddsOf s ks l y
by_rows_add c g s h w (by_row {row = row} n e d) i =
    row_adds row g s (of_accepted (reads_so g s) (grammar c) n row h e)
    (of_all (λ is. followed table is g g) (grammar c) n row w e) d i

by_rows_made : (c : Category) (g : List (List Place)) {ks l : List Record} {y : Forest} (s : Script Rule) →
    rows_so g s c ≡ accepted → followed_so c g ≡ true → Makes c ks y → Sees g l → MakesOf s ks l y
by_rows_made c g s h w d i b = rw none-⧺ at (by_rows_add c g s h w d i none b)

-- and its tokens begin as they must
abbrev begins_so : Category → List (List Place) → Bool
begins_so c g = all_rows (λ is. says (look table is g) (table.firsts c)) (grammar c)

by_rows_seen : (c : Category) (g : List (List Place)) {ks l : List Record} {y : Forest} → followed_so c g ≡ true →
    begins_so c g ≡ true → Makes c ks y → Sees g l → Sees (table.firsts c) (ks ++ l)
by_rows_seen c g {ks = ks} {l = l} w h (by_row {row = row} n e d) i =
    let m = claim checked d g l i (of_all (λ is. followed table is g g) (grammar c) n row w e) in
    weaker (look table row g) (table.firsts c) (ks ++ l)
    (of_all (λ is. says (look table is g) (table.firsts c)) (grammar c) n row h e) (seen table g m.made i)

pub category_row : (c : Category) {ks : List Record} {y : Forest} → Makes c ks y → MakesRow (piece (cat c) nil) ks y
category_row c d = rw (append-nil, none-⧺) at (put {x = none} d ended)

category_made : (c : Category) (g : List (List Place)) {ks l : List Record} {y : Forest} (s : Script Rule) →
    reads_so g s (piece (cat c) nil) ≡ accepted → followed table (piece (cat c) nil) g g ≡ true → Makes c ks y →
    Sees g l → MakesOf s ks l y
category_made c g s h w d i = row_made (piece (cat c) nil) g s h w (category_row c d) i

-- it is one node, and has no message
node_of : (c : Category) {ks l : List Record} {y : Forest} → table.is_node c ≡ true → Good table (cat c) ks y l → IsNode y
node_of c h (good_category x n u o z) = n h

pub node_made : (c : Category) {ks : List Record} {y : Forest} (l : List Record) → table.is_node c ≡ true →
    Sees (table.follows c) l → Makes c ks y → IsNode y
node_made c l h s d = node_of c h (claim checked d l s)

pub row_clean : {is : Items} {ks : List Record} {y : Forest} → MakesRow is ks y → message_count y ≡ 0
row_clean d = clean d refl tt

pub category_clean : {c : Category} {ks : List Record} {y : Forest} → Makes c ks y → message_count y ≡ 0
category_clean d = clean d

-- types, expressions, patterns, and what stands in an attribute
type_read : reads_so (table.follows Ty) type_ (piece (cat Ty) nil) ≡ accepted
unfolding scripts
type_read = refl

pub type_front : {ks l : List Record} {y : Forest} → MakesFront Ty ks l y → MakesOf type_ ks l y
type_front d = category_made Ty (table.follows Ty) type_ type_read refl d.0 d.1

expr_read : reads_so (table.follows Expr) expr (piece (cat Expr) nil) ≡ accepted
unfolding scripts
expr_read = refl

pub expr_front : {ks l : List Record} {y : Forest} → MakesFront Expr ks l y → MakesOf expr ks l y
expr_front d = category_made Expr (table.follows Expr) expr expr_read refl d.0 d.1

pattern_read : reads_so (table.follows Pattern) pattern (piece (cat Pattern) nil) ≡ accepted
unfolding scripts
pattern_read = refl

pub pattern_front : {ks l : List Record} {y : Forest} → MakesFront Pattern ks l y → MakesOf pattern ks l y
pattern_front d = category_made Pattern (table.follows Pattern) pattern pattern_read refl d.0 d.1

single_read : reads_so (table.follows SinglePattern) pattern_single (piece (cat SinglePattern) nil) ≡ accepted
unfolding scripts
single_read = refl

pub single_front : {ks l : List Record} {y : Forest} → MakesFront SinglePattern ks l y → MakesOf pattern_single ks l y
single_front d = category_made SinglePattern (table.follows SinglePattern) pattern_single single_read refl d.0 d.1

meta_read : reads_so (table.follows Meta) meta (piece (cat Meta) nil) ≡ accepted
unfolding scripts
meta_read = refl

pub meta_front : {ks l : List Record} {y : Forest} → MakesFront Meta ks l y → MakesOf meta ks l y
meta_front d = category_made Meta (table.follows Meta) meta meta_read refl d.0 d.1

-- an item before anything but a semicolon; in a file others may stand before it
item_read : (stops : Bool) → rows_so (any_but SEMICOLON) (item_or_macro stops true) Item ≡ accepted
unfolding scripts
item_read stops = refl

pub item_front : {ks l : List Record} {y : Forest} → MakesBefore (any_but SEMICOLON) Item ks l y →
    MakesOf (item_or_macro true true) ks l y
item_front d = by_rows_made Item (any_but SEMICOLON) (item_or_macro true true) (item_read true) refl d.0 d.1

pub item_adds : {ks l : List Record} {y : Forest} → MakesBefore (any_but SEMICOLON) Item ks l y →
    AddsOf (item_or_macro false true) ks l y
item_adds d = by_rows_add Item (any_but SEMICOLON) (item_or_macro false true) (item_read false) refl d.0 d.1

pub item_seen : {ks l : List Record} {y : Forest} → MakesBefore (any_but SEMICOLON) Item ks l y →
    Sees (table.firsts Item) (ks ++ l)
item_seen d = by_rows_seen Item (any_but SEMICOLON) refl refl d.0 d.1

-- a visibility before anything but a parenthesis
visibility_read : rows_so (any_but L_PAREN) (opt_visibility false) Visibility ≡ accepted
unfolding scripts
visibility_read = refl

pub visibility_front : {ks l : List Record} {y : Forest} → MakesBefore (any_but L_PAREN) Visibility ks l y →
    MakesOf (opt_visibility false) ks l y
visibility_front d = by_rows_made Visibility (any_but L_PAREN) (opt_visibility false) visibility_read refl d.0 d.1

-- the paths of types
path_read : rows_so (table.follows Path) type_path Path ≡ accepted
unfolding scripts
path_read = refl

pub path_front : {ks l : List Record} {y : Forest} → MakesFront Path ks l y → MakesOf type_path ks l y
path_front d = by_rows_made Path (table.follows Path) type_path path_read refl d.0 d.1

global_path_read : rows_so (table.follows GlobalPath) type_path GlobalPath ≡ accepted
unfolding scripts
global_path_read = refl

pub global_path_front : {ks l : List Record} {y : Forest} → MakesFront GlobalPath ks l y → MakesOf type_path ks l y
global_path_front d = by_rows_made GlobalPath (table.follows GlobalPath) type_path global_path_read refl d.0 d.1

anchored_path_read : rows_so (table.follows AnchoredPath) type_path AnchoredPath ≡ accepted
unfolding scripts
anchored_path_read = refl

pub anchored_path_front : {ks l : List Record} {y : Forest} → MakesFront AnchoredPath ks l y →
    MakesOf type_path ks l y
anchored_path_front d =
    by_rows_made AnchoredPath (table.follows AnchoredPath) type_path anchored_path_read refl d.0 d.1

-- statements without their semicolons
front_stmt_read : rows_so (table.follows FrontStmt) (stmt semicolon.Forbidden) FrontStmt ≡ accepted
unfolding scripts tests
front_stmt_read = refl

pub stmt_front : {ks l : List Record} {y : Forest} → MakesFront FrontStmt ks l y →
    MakesOf (stmt semicolon.Forbidden) ks l y
stmt_front d =
    by_rows_made FrontStmt (table.follows FrontStmt) (stmt semicolon.Forbidden) front_stmt_read refl d.0 d.1

last_stmt_read : rows_so (table.follows LastStmt) (stmt semicolon.Forbidden) LastStmt ≡ accepted
unfolding scripts tests
last_stmt_read = refl

pub last_stmt_front : {ks l : List Record} {y : Forest} → MakesFront LastStmt ks l y →
    MakesOf (stmt semicolon.Forbidden) ks l y
last_stmt_front d =
    by_rows_made LastStmt (table.follows LastStmt) (stmt semicolon.Forbidden) last_stmt_read refl d.0 d.1

-- what is read from its braces, whatever follows it
pub sees_anything : (l : List Record) → Sees anything l
sees_anything l = this_way (record { fits = λ n. record { kinds = refl; words = refl; joint = refl } })

part_made : (c : Category) {ks : List Record} {y : Forest} (s : Script Rule) → rows_so anything s c ≡ accepted →
    followed_so c anything ≡ true → (l : List Record) → Makes c ks y → MakesOf s ks l y
part_made c s h w l d = by_rows_made c anything s h w d (sees_anything l)

block_read : rows_so anything block_expr Block ≡ accepted
unfolding scripts
block_read = refl

pub block_front : {ks : List Record} {y : Forest} (l : List Record) → Makes Block ks y →
    MakesOf block_expr ks l y
block_front l d = part_made Block block_expr block_read refl l d

fields_read : rows_so anything record_field_list RecordFields ≡ accepted
unfolding scripts
fields_read = refl

pub fields_front : {ks : List Record} {y : Forest} (l : List Record) → Makes RecordFields ks y →
    MakesOf record_field_list ks l y
fields_front l d = part_made RecordFields record_field_list fields_read refl l d

values_read : rows_so anything record_expr_field_list RecordValues ≡ accepted
unfolding scripts
values_read = refl

pub values_front : {ks : List Record} {y : Forest} (l : List Record) → Makes RecordValues ks y →
    MakesOf record_expr_field_list ks l y
values_front l d = part_made RecordValues record_expr_field_list values_read refl l d

variants_read : rows_so anything variant_list Variants ≡ accepted
unfolding scripts
variants_read = refl

pub variants_front : {ks : List Record} {y : Forest} (l : List Record) → Makes Variants ks y →
    MakesOf variant_list ks l y
variants_front l d = part_made Variants variant_list variants_read refl l d

arms_read : rows_so anything match_arm_list MatchArms ≡ accepted
unfolding scripts
arms_read = refl

pub arms_front : {ks : List Record} {y : Forest} (l : List Record) → Makes MatchArms ks y →
    MakesOf match_arm_list ks l y
arms_front l d = part_made MatchArms match_arm_list arms_read refl l d

use_trees_read : rows_so anything use_tree_list UseTrees ≡ accepted
unfolding scripts
use_trees_read = refl

pub use_trees_front : {ks : List Record} {y : Forest} (l : List Record) → Makes UseTrees ks y →
    MakesOf use_tree_list ks l y
use_trees_front l d = part_made UseTrees use_tree_list use_trees_read refl l d

extern_items_read : rows_so anything extern_item_list ExternItems ≡ accepted
unfolding scripts
extern_items_read = refl

pub extern_items_front : {ks : List Record} {y : Forest} (l : List Record) → Makes ExternItems ks y →
    MakesOf extern_item_list ks l y
extern_items_front l d = part_made ExternItems extern_item_list extern_items_read refl l d

assoc_items_read : rows_so anything assoc_item_list AssocItems ≡ accepted
unfolding scripts
assoc_items_read = refl

pub assoc_items_front : {ks : List Record} {y : Forest} (l : List Record) → Makes AssocItems ks y →
    MakesOf assoc_item_list ks l y
assoc_items_front l d = part_made AssocItems assoc_item_list assoc_items_read refl l d

items_read : rows_so anything item_list ItemList ≡ accepted
unfolding scripts
items_read = refl

pub items_front : {ks : List Record} {y : Forest} (l : List Record) → Makes ItemList ks y →
    MakesOf item_list ks l y
items_front l d = part_made ItemList item_list items_read refl l d

token_tree_read : rows_so anything token_tree TokenTree ≡ accepted
unfolding scripts
token_tree_read = refl

pub token_tree_front : {ks : List Record} {y : Forest} (l : List Record) → Makes TokenTree ks y →
    MakesOf token_tree ks l y
token_tree_front l d = part_made TokenTree token_tree token_tree_read refl l d
