-- What an entry makes has the shapes of its kinds.
use Rattle.std.proofs.Common.{◌≡◌, ◌⊎◌, inl, inr, ℕ, Bool, true, false, List, [], ◌∷◌, All, refl, subst, sym, arith}
use Rattle.rap_base.specs.NodeKind.{SOURCE_FILE, MACRO_ITEMS, MACRO_STMTS}
use Rattle.rap_base.specs.TokenKind.{ERROR}
use Rattle.rap_events.specs.Forest.{Forest, none, node, leaf, message_count, one_tree}
use Rattle.rap_events.specs.Record.{Record, IsTokenRecord}
use Rattle.rap_grammar_ends.specs.StandsIn.{NodeAt, last_node, in_last_node, before_node, before_leaf}
use Rattle.rap_grammar_scripts.specs.Script.{Script}
use Rattle.rap_grammar_scripts.specs.declared.rule.Rule.{Rule}
use Rattle.rap_grammar_shapes.specs.HaveShapes.{HaveShapes, HaveShapesWithin, KeepsShapes, MakesNode}
use Rattle.rap_grammar_shapes.specs.Shapes.{shape_of}
use Rattle.rap_grammar_shapes.specs.Spelled.{spelled_children}
use Rattle.rap_grammar_shapes.specs.Whole.{IsWhole}
use Rattle.rap_grammar_table.specs.Shapes.{children_of, Spells}
use Rattle.rap_grammar_shapes.proofs.AllRules.{from_none}
use Rattle.rap_grammar_shapes.proofs.EntryRules.{alone_so, roots_so}
use Rattle.rap_grammar.specs.Part.{IsPrefixOf, part_script}
use Rattle.rap_grammar.specs.Top.{IsRootOf, IsTopOf, kept, top_tree, with_leaves}
use Rattle.rap_grammar.specs.declared.entry.part.Part.{Part}
use Rattle.rap_grammar.specs.declared.entry.part.Part.TheVariants as part
use Rattle.ra_ap_parser.specs.EntryScript.{IsOutputOf, IsPrefixOutputOf}
use Rattle.ra_ap_parser.specs.declared.entry_point.PrefixEntryPoint.{PrefixEntryPoint}
use Rattle.ra_ap_parser.specs.declared.entry_point.PrefixEntryPoint.TheVariants as prefix
use Rattle.ra_ap_parser.specs.declared.entry_point.TopEntryPoint.{TopEntryPoint}
use Rattle.ra_ap_parser.specs.declared.entry_point.TopEntryPoint.TheVariants as entry

-- all nodes are so
all_within : (f : Forest) → HaveShapes f → HaveShapesWithin f
all_within f h =
    record {
      shapes = λ place kind children n w. inr (h.shapes place kind children n w);
      told = λ z place children n. absurd (h.told z place children n);
    }

-- all but the `ERROR` over them
shapes_under : (f : Forest) → HaveShapes f → (place kind : ℕ) (children : Forest) →
    NodeAt (node none ERROR f) place kind children → IsWhole (children_of children) →
    (node none ERROR f ≡ node none ERROR children) ⊎ Spells (shape_of kind) (spelled_children children)
shapes_under f h place kind children last_node w = inl refl
shapes_under f h place kind children (in_last_node n) w = inr (h.shapes _ kind children n w)
shapes_under f h place kind children (before_node n) w = elim n [ ]

told_under : (f : Forest) → HaveShapes f → message_count (node none ERROR f) ≡ 0 → (place kind : ℕ)
    (children : Forest) → NodeAt (node none ERROR f) place kind children → kind ≡ ERROR →
    node none ERROR f ≡ node none ERROR children
told_under f h z place kind children last_node e = refl
told_under f h z place kind children (in_last_node {tokens = m} n) e =
    absurd (h.told (omega (arith, z)) m children (subst (λ (k : ℕ). NodeAt f m k children) e n))
told_under f h z place kind children (before_node n) e = elim n [ ]

within_error : (f : Forest) → HaveShapes f → HaveShapesWithin (node none ERROR f)
within_error f h =
    record {
      shapes = λ place kind children n w. shapes_under f h place kind children n w;
      told = λ z place children n. told_under f h z place ERROR children n refl;
    }

kept_within : (b : Bool) (f : Forest) → HaveShapes f → HaveShapesWithin (kept b f)
kept_within true f h = all_within f h
kept_within false f h = within_error f h

-- leaves are no nodes
node_before : (f : Forest) (kind width place k : ℕ) (children : Forest) → NodeAt (leaf f kind width) place k children →
    NodeAt f place k children
node_before f kind width place k children (before_leaf n) = n

leaf_more : (f : Forest) (kind width : ℕ) → HaveShapes f → HaveShapes (leaf f kind width)
leaf_more f kind width h =
    record {
      shapes = λ place k children n w. h.shapes place k children (node_before f kind width place k children n) w;
      told = λ z place children n. h.told z place children (node_before f kind width place ERROR children n);
    }

leaves_more : (f : Forest) (rest : List Record) → HaveShapes f → HaveShapes (with_leaves f rest)
leaves_more f [] h = h
leaves_more f (r ∷ rs) h = leaves_more (leaf f r.kind 1) rs (leaf_more f r.kind 1 h)

top_within : (f : Forest) (rest : List Record) → HaveShapes f → HaveShapesWithin (top_tree f rest)
top_within f [] h = kept_within (one_tree f) f h
top_within f (r ∷ rs) h = within_error (with_leaves f (r ∷ rs)) (leaves_more f (r ∷ rs) h)

-- a script whose nodes are so, under an entry
top_shapes : (s : Script Rule) {input : List Record} {output : Forest} → KeepsShapes s → All IsTokenRecord input →
    IsTopOf s input output → HaveShapesWithin output
top_shapes s k t i =
    subst (λ (f : Forest). HaveShapesWithin f) (sym i.tree)
    (top_within i.made i.rest (from_none s k _ _ i.outcome t i.run refl))

root_shapes : (kind : ℕ) (s : Script Rule) {input : List Record} {output : Forest} → MakesNode kind s →
    All IsTokenRecord input → IsRootOf kind s input output → HaveShapesWithin output
root_shapes kind s k t i =
    subst (λ (f : Forest). HaveShapesWithin f) (sym i.tree)
    (all_within (node none kind i.made) (k _ _ i.outcome t i.run refl))

-- What a top entry makes has shapes.
pub entry_shapes : (e : TopEntryPoint) (input : List Record) (output : Forest) → All IsTokenRecord input →
    IsOutputOf e input output → HaveShapesWithin output
entry_shapes entry.SourceFile input output t i = root_shapes SOURCE_FILE _ roots_so.file t i
entry_shapes entry.MacroStmts input output t i = root_shapes MACRO_STMTS _ roots_so.statements t i
entry_shapes entry.MacroItems input output t i = root_shapes MACRO_ITEMS _ roots_so.items t i
entry_shapes entry.Pattern input output t i = top_shapes _ alone_so.pattern t i
entry_shapes entry.Ty input output t i = top_shapes _ alone_so.type t i
entry_shapes entry.Expr input output t i = top_shapes _ alone_so.expression t i
entry_shapes entry.MetaItem input output t i = top_shapes _ alone_so.meta t i

-- a script whose nodes are so, at the front of an input
front_shapes : (s : Script Rule) {input : List Record} {output : Forest} → KeepsShapes s → All IsTokenRecord input →
    IsPrefixOf s input output → HaveShapes output
front_shapes s k t i = from_none s k _ _ i.outcome t i.run refl

-- So has what is read from the front of an input.
pub prefix_shapes : (e : PrefixEntryPoint) (input : List Record) (output : Forest) → All IsTokenRecord input →
    IsPrefixOutputOf e input output → HaveShapes output
prefix_shapes prefix.Vis input output t i = front_shapes _ alone_so.visibility t i
prefix_shapes prefix.Block input output t i = front_shapes _ alone_so.block t i
prefix_shapes prefix.Stmt input output t i = front_shapes _ alone_so.statement t i
prefix_shapes prefix.Pat input output t i = front_shapes _ alone_so.single_pattern t i
prefix_shapes prefix.PatTop input output t i = front_shapes _ alone_so.pattern t i
prefix_shapes prefix.Ty input output t i = front_shapes _ alone_so.type t i
prefix_shapes prefix.Expr input output t i = front_shapes _ alone_so.expression t i
prefix_shapes prefix.Path input output t i = front_shapes _ alone_so.path t i
prefix_shapes prefix.Item input output t i = front_shapes _ alone_so.item t i
prefix_shapes prefix.MetaItem input output t i = front_shapes _ alone_so.meta t i

-- the script of each part
part_keeps : (p : Part) → KeepsShapes (part_script p)
part_keeps part.Visibility = alone_so.visibility
part_keeps part.Path = alone_so.path
part_keeps part.Block = alone_so.block
part_keeps part.RecordFieldList = alone_so.record_fields
part_keeps part.RecordExprFieldList = alone_so.record_values
part_keeps part.VariantList = alone_so.variants
part_keeps part.MatchArmList = alone_so.match_arms
part_keeps part.UseTreeList = alone_so.use_trees
part_keeps part.ExternItemList = alone_so.extern_items
part_keeps part.TokenTree = alone_so.tokens
part_keeps part.AssocItemList = alone_so.assoc_items
part_keeps part.ItemList = alone_so.items

-- So has a part.
pub part_shapes : (p : Part) (input : List Record) (output : Forest) → All IsTokenRecord input →
    IsPrefixOf (part_script p) input output → HaveShapes output
part_shapes p input output t i = front_shapes (part_script p) (part_keeps p) t i
