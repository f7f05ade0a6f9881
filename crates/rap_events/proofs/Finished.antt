-- What is known where no marker is open.
use Rattle.std.proofs.Common.{◌≡◌, refl, ℕ, List, [], ◌∷◌, ◌++◌, true, sym, ap, ◌∙◌, arith}
use Rattle.rap_events.specs.Record.{Record}
use Rattle.rap_events.specs.Forest.{Forest, none, node, leaf, message, split, used}
use Rattle.rap_events.specs.Cover.{Leaf, of_tokens, of_float, leaves, stand, widths, covers}
use Rattle.rap_events.specs.Machine.{Stack, floor, Config, stack_leaves, all_leaves}
use Rattle.rap_events.proofs.Calls.{widths-append}

pub widths-leaves : (f : Forest) → widths (leaves f) ≡ used f
widths-leaves none = refl
widths-leaves (node b k x) = omega (arith, widths-append (leaves b) (leaves x), widths-leaves b, widths-leaves x)
widths-leaves (leaf b k w) = omega (arith, widths-append (leaves b) (of_tokens k w ∷ []), widths-leaves b)
widths-leaves (message b m) = widths-leaves b
widths-leaves (split b d) = omega (arith, widths-append (leaves b) (of_float d ∷ []), widths-leaves b)

-- all leaves are those of the forest
pub leaves_at_floor : (c : Config) → c.below ≡ floor → all_leaves c ≡ leaves c.forest
leaves_at_floor c e = ap (λ (s : Stack). stack_leaves s ++ leaves c.forest) e

pub covered : (c : Config) (input : List Record) → c.below ≡ floor → stand (all_leaves c) input ≡ true → covers input c.forest ≡ true
covered c input e h = ap (λ (ls : List Leaf). stand ls input) (sym (leaves_at_floor c e)) ∙ h

pub used_all : (c : Config) (pos : ℕ) → c.below ≡ floor → widths (all_leaves c) ≡ pos → used c.forest ≡ pos
used_all c pos e h = sym (widths-leaves c.forest) ∙ ap widths (sym (leaves_at_floor c e)) ∙ h
