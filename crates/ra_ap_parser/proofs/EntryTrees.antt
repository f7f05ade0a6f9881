-- What the core grammar derives comes out of its entry as it was derived.
use Rattle.std.proofs.Common.{◌≡◌, inl, inr, ℕ, List, [], ◌++◌, append-nil, length, All, true, refl, subst, sym, ◌∙◌}
use Rattle.rap_base.specs.NodeKind.{RECORD_FIELD_LIST, RECORD_EXPR_FIELD_LIST, VARIANT_LIST, MATCH_ARM_LIST, USE_TREE_LIST, EXTERN_ITEM_LIST, TOKEN_TREE, ASSOC_ITEM_LIST, ITEM_LIST}
use Rattle.rap_base.specs.TokenKind.{L_CURLY, L_PAREN, SEMICOLON}
use Rattle.rap_events.specs.Record.{Record, IsTokenRecord, next_kind}
use Rattle.rap_events.specs.Forest.{Forest, none, node, message_count, one_tree}
use Rattle.rap_grammar.proofs.Heads.{begun_file, begun_items}
use Rattle.rap_grammar.proofs.Outputs.{one_output, one_root}
use Rattle.rap_grammar.specs.Part.{IsPrefixOf, IsPartCore, IsWhole, IsOneNode, part_script, part_kind, asks_brace, in_braces}
use Rattle.rap_grammar.specs.declared.entry.part.Part.{Part}
use Rattle.rap_grammar.specs.declared.entry.part.Part.TheVariants as part
use Rattle.rap_grammar.proofs.DotsInside.{visibility_inside, block_inside, path_inside, expression_inside, type_inside, pattern_inside, single_pattern_inside, meta_inside, statement_inside, item_inside}
use Rattle.rap_grammar.proofs.Padded.{top_of_prefix}
use Rattle.rap_grammar_ends.specs.Dots.{dots_inside}
use Rattle.rap_grammar.proofs.Tables.{expression_of_table, file_of_table, items_of_table, meta_of_table, pattern_of_table, stmts_of_table, type_of_table}
use Rattle.rap_grammar.proofs.Parts.{one_prefix}
use Rattle.rap_grammar_table.specs.Again.{MakesIn, category_in, parsed_again}
use Rattle.rap_grammar_table.proofs.Again.{made_again}
use Rattle.rap_grammar_table.proofs.Fronts.{anchored_path_front, block_front, expr_front, global_path_front, item_front, last_stmt_front, meta_front, path_front, pattern_front, single_front, stmt_front, type_front, visibility_front}
use Rattle.rap_grammar_table.proofs.ByKind.{sees_other_behind}
use Rattle.rap_grammar_table.specs.Known.{later_way}
use Rattle.rap_grammar.proofs.Prefixes.{front_of_table, front_part}
use Rattle.ra_ap_parser.specs.Reparsed.{IsAgainItself}
use Rattle.ra_ap_parser.specs.EntryScript.{IsOutputOf, IsCore, KeepsFront, IsPrefixOutputOf, IsPrefixCore, WrapsPrefix}
use Rattle.ra_ap_parser.specs.declared.entry_point.PrefixEntryPoint.{PrefixEntryPoint}
use Rattle.ra_ap_parser.specs.declared.entry_point.PrefixEntryPoint.TheVariants as prefix
use Rattle.ra_ap_parser.specs.declared.entry_point.TopEntryPoint.{TopEntryPoint}
use Rattle.ra_ap_parser.specs.declared.entry_point.TopEntryPoint.TheVariants as entry

pub core_tree : (e : TopEntryPoint) (input : List Record) {tree output : Forest} → IsOutputOf e input output → IsCore e input tree → (output ≡ tree) × (message_count output ≡ 0)
core_tree entry.SourceFile input i d = let x = file_of_table i d.1 in (x.0 ∙ sym d.2, x.1)
core_tree entry.MacroStmts input i d = let x = stmts_of_table i d.1 in (x.0 ∙ sym d.2, x.1)
core_tree entry.MacroItems input i d = let x = items_of_table i d.1 in (x.0 ∙ sym d.2, x.1)
core_tree entry.Pattern input i d = pattern_of_table i d
core_tree entry.Ty input i d = type_of_table i d
core_tree entry.Expr input i d = expression_of_table i d
core_tree entry.MetaItem input i d = meta_of_table i d

-- what begins with items and tokens that begin none keeps their trees
pub front_kept : (e : TopEntryPoint) (input : List Record) (output : Forest) → IsOutputOf e input output → KeepsFront e input output
front_kept entry.SourceFile input output i = λ head front rest heads trees same d e. begun_file (rw same at i) d e
front_kept entry.MacroStmts input output i = tt
front_kept entry.MacroItems input output i = λ head front rest heads trees same d e. begun_items (rw same at i) d e
front_kept entry.Pattern input output i = tt
front_kept entry.Ty input output i = tt
front_kept entry.Expr input output i = tt
front_kept entry.MetaItem input output i = tt

-- what reads one thing makes its tree of what the prefix entry reads
pub prefix_wrapped : (e : TopEntryPoint) (input : List Record) (output : Forest) → IsOutputOf e input output → WrapsPrefix e input output
prefix_wrapped entry.SourceFile input output i = tt
prefix_wrapped entry.MacroStmts input output i = tt
prefix_wrapped entry.MacroItems input output i = tt
prefix_wrapped entry.Pattern input output i = λ front j. top_of_prefix j i
prefix_wrapped entry.Ty input output i = λ front j. top_of_prefix j i
prefix_wrapped entry.Expr input output i = λ front j. top_of_prefix j i
prefix_wrapped entry.MetaItem input output i = λ front j. top_of_prefix j i

-- an entry gives one output of an input
pub one_entry_output : (e : TopEntryPoint) (input : List Record) {a b : Forest} → IsOutputOf e input a → IsOutputOf e input b → a ≡ b
one_entry_output entry.SourceFile input i j = one_root i j
one_entry_output entry.MacroStmts input i j = one_root i j
one_entry_output entry.MacroItems input i j = one_root i j
one_entry_output entry.Pattern input i j = one_output i j
one_entry_output entry.Ty input i j = one_output i j
one_entry_output entry.Expr input i j = one_output i j
one_entry_output entry.MetaItem input i j = one_output i j

-- the same of what is read from the front of an input
pub one_prefix_output : (e : PrefixEntryPoint) (input : List Record) {a b : Forest} → IsPrefixOutputOf e input a → IsPrefixOutputOf e input b → a ≡ b
one_prefix_output prefix.Vis input i j = one_prefix i j
one_prefix_output prefix.Block input i j = one_prefix i j
one_prefix_output prefix.Stmt input i j = one_prefix i j
one_prefix_output prefix.Pat input i j = one_prefix i j
one_prefix_output prefix.PatTop input i j = one_prefix i j
one_prefix_output prefix.Ty input i j = one_prefix i j
one_prefix_output prefix.Expr input i j = one_prefix i j
one_prefix_output prefix.Path input i j = one_prefix i j
one_prefix_output prefix.Item input i j = one_prefix i j
one_prefix_output prefix.MetaItem input i j = one_prefix i j

-- no node at the top of it ends with a float that ends in a dot
pub dots_stay : (e : PrefixEntryPoint) (input : List Record) (output : Forest) → IsPrefixOutputOf e input output →
    dots_inside output ≡ true
dots_stay prefix.Vis input output i = visibility_inside i
dots_stay prefix.Block input output i = block_inside i
dots_stay prefix.Stmt input output i = statement_inside i
dots_stay prefix.Pat input output i = single_pattern_inside i
dots_stay prefix.PatTop input output i = pattern_inside i
dots_stay prefix.Ty input output i = type_inside i
dots_stay prefix.Expr input output i = expression_inside i
dots_stay prefix.Path input output i = path_inside i
dots_stay prefix.Item input output i = item_inside i
dots_stay prefix.MetaItem input output i = meta_inside i

-- nor of one tree
one_inside : (kind : ℕ) (output : Forest) → IsOneNode kind output → dots_inside output ≡ true
one_inside kind output i =
    let P : Forest → Type 0 = λ f. dots_inside f ≡ true in
    let Q : Forest → Type 0 = λ f. one_tree f ≡ true in
    subst P (sym i.node_is) (subst Q i.node_is i.one)

-- nor of a part, which is one node wherever it begins as it must
pub part_dots : (p : Part) (input : List Record) (output : Forest) → (asks_brace p ≡ true → next_kind input ≡ L_CURLY) →
    (next_kind input ≡ L_CURLY → IsOneNode (part_kind p) output) → IsPrefixOf (part_script p) input output →
    dots_inside output ≡ true
part_dots part.Visibility input output brace one i = visibility_inside i
part_dots part.Path input output brace one i = path_inside i
part_dots part.Block input output brace one i = block_inside i
part_dots part.RecordFieldList input output brace one i = one_inside RECORD_FIELD_LIST output (one (brace refl))
part_dots part.RecordExprFieldList input output brace one i = one_inside RECORD_EXPR_FIELD_LIST output (one (brace refl))
part_dots part.VariantList input output brace one i = one_inside VARIANT_LIST output (one (brace refl))
part_dots part.MatchArmList input output brace one i = one_inside MATCH_ARM_LIST output (one (brace refl))
part_dots part.UseTreeList input output brace one i = one_inside USE_TREE_LIST output (one (brace refl))
part_dots part.ExternItemList input output brace one i = one_inside EXTERN_ITEM_LIST output (one (brace refl))
part_dots part.TokenTree input output brace one i = one_inside TOKEN_TREE output (one (brace refl))
part_dots part.AssocItemList input output brace one i = one_inside ASSOC_ITEM_LIST output (one (brace refl))
part_dots part.ItemList input output brace one i = one_inside ITEM_LIST output (one (brace refl))

-- a front of an input that is derived comes out as it was derived
pub prefix_core : (e : PrefixEntryPoint) (input : List Record) {output : Forest} → All IsTokenRecord input →
    IsPrefixOutputOf e input output → (front rest : List Record) (tree : Forest) → input ≡ front ++ rest →
    IsPrefixCore e front rest tree → IsWhole tree (length front) output
prefix_core prefix.Vis input h i ks l t e d =
    front_of_table ks l (rw e at i) d.0 (visibility_front (d.0, sees_other_behind L_PAREN ks l (rw e at h) d.1))
prefix_core prefix.Block input h i ks l t e d = front_of_table ks l (rw e at i) d (block_front l d)
prefix_core prefix.Stmt input h i ks l t e (inl d) = front_of_table ks l (rw e at i) d.0 (stmt_front d)
prefix_core prefix.Stmt input h i ks l t e (inr d) = front_of_table ks l (rw e at i) d.0 (last_stmt_front d)
prefix_core prefix.Pat input h i ks l t e d = front_of_table ks l (rw e at i) d.0 (single_front d)
prefix_core prefix.PatTop input h i ks l t e d = front_of_table ks l (rw e at i) d.0 (pattern_front d)
prefix_core prefix.Ty input h i ks l t e d = front_of_table ks l (rw e at i) d.0 (type_front d)
prefix_core prefix.Expr input h i ks l t e d = front_of_table ks l (rw e at i) d.0 (expr_front d)
prefix_core prefix.Path input h i ks l t e (inl d) = front_of_table ks l (rw e at i) d.0 (path_front d)
prefix_core prefix.Path input h i ks l t e (inr (inl d)) =
    front_of_table ks l (rw e at i) d.0 (global_path_front (d.0, later_way d.1))
prefix_core prefix.Path input h i ks l t e (inr (inr d)) = front_of_table ks l (rw e at i) d.0 (anchored_path_front d)
prefix_core prefix.Item input h i ks l t e d =
    front_of_table ks l (rw e at i) d.0 (item_front (d.0, sees_other_behind SEMICOLON ks l (rw e at h) d.1))
prefix_core prefix.MetaItem input h i ks l t e d = front_of_table ks l (rw e at i) d.0 (meta_front d)

-- the same of a part
pub part_core : (p : Part) (input : List Record) {output : Forest} → IsPrefixOf (part_script p) input output →
    (front rest : List Record) (tree : Forest) → input ≡ front ++ rest → IsPartCore p front tree →
    IsWhole tree (length front) output
part_core p input i ks l t e d = front_part p ks l (rw e at i) d

-- what the table makes of a node's tokens is what it derives as that part
made_in : (p : Part) (own : List Record) (t : Forest) → in_braces p ≡ true →
    MakesIn (category_in parsed_again (part_kind p)) own t → IsPartCore p own t
made_in part.Visibility own t b m = absurd cc
made_in part.Path own t b m = absurd cc
made_in part.Block own t b m = m
made_in part.RecordFieldList own t b m = m
made_in part.RecordExprFieldList own t b m = m
made_in part.VariantList own t b m = m
made_in part.MatchArmList own t b m = m
made_in part.UseTreeList own t b m = m
made_in part.ExternItemList own t b m = m
made_in part.TokenTree own t b m = m
made_in part.AssocItemList own t b m = m
made_in part.ItemList own t b m = m

-- a node of a core tree comes out again of its own tokens
pub part_again : (p : Part) (own : List Record) {output : Forest} → in_braces p ≡ true →
    IsPrefixOf (part_script p) own output → IsAgainItself p own output
part_again p own b i = λ tokens tree children d s.
    part_core p own i own [] _ (sym (append-nil own))
    (made_in p own (node none (part_kind p) children) b (made_again tokens own tree children (part_kind p) d.0 s d.1))
