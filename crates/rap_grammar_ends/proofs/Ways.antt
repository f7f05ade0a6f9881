-- How scripts run over tokens that are known.
use Rattle.std.proofs.Common.{◌≡◌, ◌==◌, List, Bool, false, refl, ap}
use Rattle.rap_base.specs.TokenKind.{PUB_KW}
use Rattle.rap_events.specs.Record.{Record, next_kind}
use Rattle.rap_events.specs.Forest.{Forest, none, node, leaf, message, split, ◌⧺◌}
use Rattle.rap_grammar_scripts.specs.Attributes.{outer_attrs}
use Rattle.rap_grammar_scripts.specs.First.{is_outer_attr_first}
use Rattle.rap_grammar_scripts.specs.Knot.{script_of}
use Rattle.rap_grammar_scripts.specs.declared.rule.Rule.{Rule}
use Rattle.rap_grammar_scripts.specs.Script.{Script, Outcome, nothing, something, Runs, gives, fails, stops}
use Rattle.rap_grammar_scripts.specs.Visibility.{opt_visibility}

-- from these tokens and this forest a script leads to those tokens and that forest, and the older forests stay
abbrev pub Leads : Script Rule → List Forest → List Record → Forest → List Record → Forest → Type 0
Leads s b rs f l g =
    Runs script_of s (record { rest = rs; forest = f; below = b })
    (record { rest = l; forest = g; below = b }) something

-- the same with any outcome
abbrev pub Goes : Outcome → Script Rule → List Forest → List Record → Forest → List Record → Forest → Type 0
Goes v s b rs f l g =
    Runs script_of s (record { rest = rs; forest = f; below = b }) (record { rest = l; forest = g; below = b }) v

pub none-⧺ : (f : Forest) → none ⧺ f ≡ f
none-⧺ none = refl
none-⧺ (node before kind children) = ap (λ (f : Forest). node f kind children) (none-⧺ before)
none-⧺ (leaf before kind width) = ap (λ (f : Forest). leaf f kind width) (none-⧺ before)
none-⧺ (message before bytes) = ap (λ (f : Forest). message f bytes) (none-⧺ before)
none-⧺ (split before dot) = ap (λ (f : Forest). split f dot) (none-⧺ before)

-- neither an attribute nor a visibility comes next
pub no_attributes : {b : List Forest} {rs : List Record} {f : Forest} → is_outer_attr_first (next_kind rs) ≡ false →
    Leads outer_attrs b rs f rs f
unfolding outer_attrs
no_attributes e = stops (fails e gives) refl

pub no_pub_way : (t : Bool) {b : List Forest} {rs : List Record} {f : Forest} → (next_kind rs == PUB_KW) ≡ false →
    Goes nothing (opt_visibility t) b rs f rs f
unfolding opt_visibility
no_pub_way t e = fails e gives
