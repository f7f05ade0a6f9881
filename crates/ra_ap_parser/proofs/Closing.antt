-- Which outputs end with the brace of a node.
use Rattle.std.proofs.Common.{◌≡◌, ℕ, zero, suc, refl}
use Rattle.rap_base.specs.TokenKind.{R_CURLY}
use Rattle.rap_events.specs.Forest.{Forest, none, node, leaf, message, split, ends_in}
use Rattle.ra_ap_parser.specs.Closed.{ends_in_brace}

-- a brace is a leaf of its kind
pub same_ends : (n : ℕ) (f : Forest) → ends_in R_CURLY n f ≡ ends_in_brace n f
same_ends n none = refl
same_ends zero (node b k x) = refl
same_ends (suc n) (node b k x) = same_ends n x
same_ends zero (leaf b k w) = refl
same_ends (suc n) (leaf b k w) = refl
same_ends n (message b m) = refl
same_ends n (split b d) = refl
