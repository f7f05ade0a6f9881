-- What the table derives at the front of an input is read as it was derived, up to its end.
use Rattle.std.proofs.Common.{ap, ◌∙◌, List, [], ◌++◌, length}
use Rattle.rap_events.specs.Record.{Record}
use Rattle.rap_events.specs.Forest.{Forest, message_count, used}
use Rattle.rap_grammar_scripts.specs.declared.rule.Rule.{Rule}
use Rattle.rap_grammar_scripts.specs.Script.{Script, Spot}
use Rattle.rap_grammar_scripts.proofs.OneEnd.{one_end}
use Rattle.rap_grammar_table.specs.Category.{Category}
use Rattle.rap_grammar_table.specs.Tops.{Makes}
use Rattle.rap_grammar_table.proofs.Again.{category_used}
use Rattle.rap_grammar_table.proofs.Fronts.{MakesOf, arms_front, assoc_items_front, block_front, category_clean, extern_items_front, fields_front, items_front, token_tree_front, use_trees_front, values_front, variants_front}
use Rattle.rap_grammar.specs.Part.{IsPrefixOf, IsPartCore, IsWhole, part_script}
use Rattle.rap_grammar.specs.declared.entry.part.Part.{Part}
use Rattle.rap_grammar.specs.declared.entry.part.Part.TheVariants as part

-- the output is what the script makes of a front
pub front_of_table : {s : Script Rule} {c : Category} (ks l : List Record) {t output : Forest} →
    IsPrefixOf s (ks ++ l) output → Makes c ks t → MakesOf s ks l t → IsWhole t (length ks) output
front_of_table ks l i d m =
    let e = ap (λ (p : Spot). p.forest) (one_end i.run (m [])).spot in
    record { same = e; clean = ap message_count e ∙ category_clean d; used_is = ap used e ∙ category_used d }

-- a part, whatever follows it
pub front_part : (p : Part) (ks l : List Record) {t output : Forest} → IsPrefixOf (part_script p) (ks ++ l) output →
    IsPartCore p ks t → IsWhole t (length ks) output
front_part part.Visibility ks l i d = absurd d
front_part part.Path ks l i d = absurd d
front_part part.Block ks l i d = front_of_table ks l i d (block_front l d)
front_part part.RecordFieldList ks l i d = front_of_table ks l i d (fields_front l d)
front_part part.RecordExprFieldList ks l i d = front_of_table ks l i d (values_front l d)
front_part part.VariantList ks l i d = front_of_table ks l i d (variants_front l d)
front_part part.MatchArmList ks l i d = front_of_table ks l i d (arms_front l d)
front_part part.UseTreeList ks l i d = front_of_table ks l i d (use_trees_front l d)
front_part part.ExternItemList ks l i d = front_of_table ks l i d (extern_items_front l d)
front_part part.TokenTree ks l i d = front_of_table ks l i d (token_tree_front l d)
front_part part.AssocItemList ks l i d = front_of_table ks l i d (assoc_items_front l d)
front_part part.ItemList ks l i d = front_of_table ks l i d (items_front l d)
