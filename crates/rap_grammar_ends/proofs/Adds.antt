-- A run of a script that is level only adds to the forest that it began with.
use Rattle.std.proofs.Common.{◌≡◌, ◌==◌, ℕ, List, Bool, true, false, refl, ap, ◌∙◌, subst}
use Rattle.rap_events.specs.Forest.{Forest, none, ◌⧺◌}
use Rattle.rap_grammar_scripts.proofs.Forests.{⧺-assoc}
use Rattle.rap_grammar_scripts.specs.Modules.{items}
use Rattle.rap_grammar_scripts.specs.Knot.{script_of}
use Rattle.rap_grammar_scripts.specs.declared.rule.Rule.{Rule}
use Rattle.rap_grammar_scripts.specs.Script.{Script, Outcome, Spot, Runs}
use Rattle.rap_grammar_ends.proofs.AllRules.{sound}
use Rattle.rap_grammar_ends.proofs.Ends.{level}
use Rattle.rap_grammar_ends.proofs.Keeps.{Above, Grows, keeps, same_number}

-- a forest that begins with this one, above these
abbrev pub Begins : Forest → List Forest → Forest → List Forest → Type 0
Begins a under f fs = (x : Forest) × (f ≡ a ⧺ x) × (fs ≡ under)

grows : (a : Forest) (under : List Forest) → Grows (Begins a under)
grows a under f x fs k = (k.0 ⧺ x, ap (λ (y : Forest). y ⧺ x) k.1 ∙ ⧺-assoc a k.0 x, k.2)

pub adds : {s : Script Rule} {p q : Spot} {v : Outcome} → Runs script_of s p q v → level 0 s ≡ true →
    Begins p.forest p.below q.forest q.below
adds {p = p} {q = q} r e =
    let y = keeps sound r (Begins p.forest p.below) (grows p.forest p.below) (λ v j. j == 0) 0 e (none, refl, refl) in
    subst (λ (n : ℕ). Above (Begins p.forest p.below) n q.forest q.below) (same_number y.depth 0 y.so) y.above

items_level : (stop : Bool) → level 0 (items stop) ≡ true
unfolding items
items_level true = refl
items_level false = refl

-- so a list of items keeps what it has made
pub items_add : (stop : Bool) {p q : Spot} {v : Outcome} → Runs script_of (items stop) p q v →
    (x : Forest) × (q.forest ≡ p.forest ⧺ x)
items_add stop r = let k = adds r (items_level stop) in (k.0, k.1)
