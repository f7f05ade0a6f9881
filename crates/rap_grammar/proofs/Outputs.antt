-- What a parse of a whole input makes of what its script makes; and that equal inputs give equal outputs.
use Rattle.std.proofs.Common.{◌≡◌, ℕ, List, [], ◌∷◌, true, refl, ap, sym, ◌∙◌}
use Rattle.rap_events.specs.Record.{Record}
use Rattle.rap_events.specs.Forest.{Forest, none, node, one_tree}
use Rattle.rap_grammar_scripts.specs.declared.rule.Rule.{Rule}
use Rattle.rap_grammar_scripts.specs.Script.{Script, Spot}
use Rattle.rap_grammar_scripts.proofs.OneEnd.{one_end}
use Rattle.rap_grammar_ends.proofs.Ways.{Leads}
use Rattle.rap_grammar.specs.Top.{IsTopOf, IsRootOf, top_tree}

-- one tree is kept as it is
pub top_tree-whole : (t : Forest) → one_tree t ≡ true → top_tree t [] ≡ t
top_tree-whole t e = rw e refl

-- what a script makes of a whole input stands under the node of its entry
pub root_of : {kind : ℕ} {s : Script Rule} {input : List Record} {t output : Forest} → IsRootOf kind s input output →
    Leads s (none ∷ []) input none [] t → output ≡ node none kind t
root_of {kind = kind} i x =
    let e = one_end i.run x in
    i.tree ∙ ap (λ (p : Spot). node none kind p.forest) e.spot

-- the same input gives the same output
pub one_output : {s : Script Rule} {input : List Record} {a b : Forest} → IsTopOf s input a → IsTopOf s input b →
    a ≡ b
one_output i j =
    let e = one_end i.run j.run in
    i.tree ∙ rw (ap (λ (p : Spot). p.forest) e.spot, ap (λ (p : Spot). p.rest) e.spot) (sym j.tree)

-- the same of an entry that makes a node of its own
pub one_root : {kind : ℕ} {s : Script Rule} {input : List Record} {a b : Forest} → IsRootOf kind s input a →
    IsRootOf kind s input b → a ≡ b
one_root {kind = kind} i j =
    let e = one_end i.run j.run in
    i.tree ∙ rw (ap (λ (p : Spot). p.forest) e.spot) (sym j.tree)
