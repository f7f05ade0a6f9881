-- What is read alone from the front of an input.
use Rattle.std.proofs.Common.{◌≡◌, ◌==◌, ◌&&◌, ℕ, Bool, true, false, not, refl, sym, ap, ◌∙◌, List}
use Rattle.rap_base.specs.NodeKind.{FIELD_EXPR}
use Rattle.rap_events.specs.Record.{Record}
use Rattle.rap_events.specs.Forest.{Forest, none, node, leaf, message, split, splits_placed, splits_last, is_ended, ends_in_dot}
use Rattle.rap_grammar_scripts.specs.declared.rule.Rule.{Rule}
use Rattle.rap_grammar_scripts.specs.Script.{Script, Spot}
use Rattle.rap_grammar_scripts.proofs.OneEnd.{one_end}
use Rattle.rap_grammar.specs.Part.{IsPrefixOf, IsOneNode, part_kind}
use Rattle.rap_grammar.specs.declared.entry.part.Part.{Part}
use Rattle.rap_grammar.specs.declared.entry.part.Part.TheVariants as part

-- the same input gives the same output
pub one_prefix : {s : Script Rule} {input : List Record} {a b : Forest} → IsPrefixOf s input a →
    IsPrefixOf s input b → a ≡ b
one_prefix i j = ap (λ (p : Spot). p.forest) (one_end i.run j.run).spot

both_left : (a b : Bool) → a && b ≡ true → a ≡ true
both_left true b h = refl
both_left false b h = h

both_right : (a b : Bool) → a && b ≡ true → b ≡ true
both_right true b h = h
both_right false b h = absurd cc

-- a node that is no field access does not end with the dot of a float
no_dot : (k : ℕ) (c : Forest) → splits_placed (node none k c) ≡ true → (k == FIELD_EXPR) ≡ false →
    not (ends_in_dot c) ≡ true
no_dot k none h e = refl
no_dot k (node b j x) h e = refl
no_dot k (leaf b j w) h e = refl
no_dot k (message b m) h e = refl
no_dot k (split b false) h e = refl
no_dot k (split b true) h e =
    let x : (k == FIELD_EXPR) ≡ true = both_right (splits_last b && is_ended b) (k == FIELD_EXPR) (both_left _ _ h) in
    absurd (let y : true ≡ false = sym x ∙ e in cc)

-- no part is a field access
no_field : (p : Part) → (part_kind p == FIELD_EXPR) ≡ false
no_field part.Visibility = refl
no_field part.Path = refl
no_field part.Block = refl
no_field part.RecordFieldList = refl
no_field part.RecordExprFieldList = refl
no_field part.VariantList = refl
no_field part.MatchArmList = refl
no_field part.UseTreeList = refl
no_field part.ExternItemList = refl
no_field part.TokenTree = refl
no_field part.AssocItemList = refl
no_field part.ItemList = refl

-- a part that made one node, and nothing else, made one tree
pub one_node : (p : Part) {f c : Forest} → f ≡ node none (part_kind p) c → splits_placed f ≡ true →
    IsOneNode (part_kind p) f
one_node p {c = c} e h =
    record { children = c; node_is = e; one = rw e (no_dot (part_kind p) c (rw e at h) (no_field p)) }
