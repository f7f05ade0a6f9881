-- One forest after another.
use Rattle.std.proofs.Common.{◌≡◌, ◌+◌, refl, ap, arith}
use Rattle.rap_events.specs.Forest.{Forest, none, node, leaf, message, split, ◌⧺◌, message_count}

pub ⧺-assoc : (f g h : Forest) → (f ⧺ g) ⧺ h ≡ f ⧺ (g ⧺ h)
⧺-assoc f g none = refl
⧺-assoc f g (node b k c) = ap (λ (x : Forest). node x k c) (⧺-assoc f g b)
⧺-assoc f g (leaf b k w) = ap (λ (x : Forest). leaf x k w) (⧺-assoc f g b)
⧺-assoc f g (message b m) = ap (λ (x : Forest). message x m) (⧺-assoc f g b)
⧺-assoc f g (split b d) = ap (λ (x : Forest). split x d) (⧺-assoc f g b)

-- the messages of both
pub message_count-⧺ : (f g : Forest) → message_count (f ⧺ g) ≡ message_count f + message_count g
message_count-⧺ f none = omega arith
message_count-⧺ f (node b k c) = omega (arith, message_count-⧺ f b)
message_count-⧺ f (leaf b k w) = message_count-⧺ f b
message_count-⧺ f (message b m) = omega (arith, message_count-⧺ f b)
message_count-⧺ f (split b d) = message_count-⧺ f b
