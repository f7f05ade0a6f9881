-- What begins a file, or the items of a macro, and items and tokens that begin none behind it, keep their trees.
use Rattle.std.proofs.Common.{◌≡◌, List, [], ◌∷◌, ◌++◌, append_assoc, false, ap, ◌∙◌}
use Rattle.rap_base.specs.NodeKind.{SOURCE_FILE, MACRO_ITEMS}
use Rattle.rap_events.specs.Forest.{Forest, none, node, ◌⧺◌}
use Rattle.rap_events.specs.Record.{Record}
use Rattle.rap_grammar_ends.proofs.Recovery.{items_begin, mixed_next}
use Rattle.rap_grammar_ends.specs.Mixed.{Mixed, no_more, an_item, a_stray, IsFront, whole, before}
use Rattle.rap_grammar_scripts.specs.Entry.{source_file}
use Rattle.rap_grammar_scripts.specs.Modules.{mod_contents}
use Rattle.rap_grammar_table.proofs.Fronts.{item_seen}
use Rattle.rap_grammar_table.proofs.Heads.{file_head_made, head_follows, items_head_made, past_attributes, past_head, sees_item, sees_no_more, sees_stray}
use Rattle.rap_grammar_table.specs.Heads.{file_head, items_head}
use Rattle.rap_grammar_table.specs.Known.{Sees}
use Rattle.rap_grammar_table.specs.Tops.{MakesRow}
use Rattle.rap_grammar.proofs.CoreItems.{Next, core_items}
use Rattle.rap_grammar.specs.CoreItems.{IsItem}
use Rattle.rap_grammar.specs.Top.{IsRootOf}

-- what comes behind the head
mixed_seen : {ks : List Record} {t : Forest} → Mixed IsItem ks t → (l : List Record) → Next l →
    Sees head_follows l → Sees head_follows (ks ++ l)
mixed_seen no_more l n s = s
mixed_seen (an_item {js = js} d m) l n s =
    rw append_assoc (sees_item (item_seen (d, mixed_next core_items m l n)))
mixed_seen (a_stray {js = js} h m) l n s = sees_stray (js ++ l) h.among

front_seen : {ks rest : List Record} {t : Forest} → IsFront IsItem ks rest t → Sees head_follows (ks ++ rest)
front_seen (whole m) = mixed_seen m [] core_items.none_next sees_no_more
front_seen (before {rest = rest} {r = z} m h) =
    rw append_assoc (mixed_seen m (z ∷ rest) (core_items.stray_next rest h) (sees_stray rest h.among))

-- it stands first under the node of its entry
pub begun_file : {head front rest : List Record} {x t output : Forest} →
    IsRootOf SOURCE_FILE source_file (head ++ (front ++ rest)) output → MakesRow file_head head x →
    IsFront IsItem front rest t → (more : Forest) × (output ≡ node none SOURCE_FILE ((x ⧺ t) ⧺ more))
begun_file {x = x} i d e =
    let k = items_begin core_items e (none ∷ []) x (past_head (file_head_made d (front_seen e) (none ∷ [])) i.run) in
    (k.0, i.tree ∙ ap (λ (f : Forest). node none SOURCE_FILE f) k.1)

pub begun_items : {head front rest : List Record} {x t output : Forest} →
    IsRootOf MACRO_ITEMS (mod_contents false) (head ++ (front ++ rest)) output → MakesRow items_head head x →
    IsFront IsItem front rest t → (more : Forest) × (output ≡ node none MACRO_ITEMS ((x ⧺ t) ⧺ more))
begun_items {x = x} i d e =
    let k =
    items_begin core_items e (none ∷ []) x (past_attributes (items_head_made d (front_seen e) (none ∷ [])) i.run) in
    (k.0, i.tree ∙ ap (λ (f : Forest). node none MACRO_ITEMS f) k.1)
