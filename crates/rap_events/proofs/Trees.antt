-- Forests by what each float that is taken apart ends.
use Rattle.std.proofs.Common.{◌≡◌, ℕ, true, false, List, refl, arith}
use Rattle.rap_events.specs.Forest.{Forest, none, node, leaf, message, split, split_ends, splits_last, splits_placed}
use Rattle.rap_events.proofs.StepLemmas.{Before, before, Parts, node_parts}

pub data Tree : Forest → Type 0 where
  nothing : Tree none
  a_node : {b x : Forest} {k : ℕ} → Tree b → Tree x → split_ends x ≡ 0 → Tree (node b k x)
  a_leaf : {b : Forest} {k w : ℕ} → Tree b → Tree (leaf b k w)
  a_message : {b : Forest} {m : List ℕ} → Tree b → Tree (message b m)
  dotted : {b y : Forest} {k : ℕ} → Tree b → Tree y → Tree (node b k (split y true))
  apart : {b c y : Forest} {k j : ℕ} → Tree b → Tree c → Tree y → Tree (node b k (node c j (split y false)))

-- the same of a forest that ends nodes around it
data Part : Forest → Type 0 where
  whole : {f : Forest} → Tree f → split_ends f ≡ 0 → Part f
  dot : {y : Forest} → Tree y → Part (split y true)
  two : {y : Forest} → Tree y → Part (split y false)
  half : {c y : Forest} {j : ℕ} → Tree c → Tree y → Part (node c j (split y false))

whole_of : (f : Forest) → Part f → split_ends f ≡ 0 → Tree f
whole_of f (whole t e) h = t
whole_of (split y true) (dot t) h = absurd (omega arith)
whole_of (split y false) (two t) h = absurd (omega arith)
whole_of (node c j (split y false)) (half t u) h = absurd (omega arith)

around : (b : Forest) (k : ℕ) (x : Forest) → Tree b → Part x → Part (node b k x)
around b k x t (whole u e) = whole (a_node t u e) (omega (arith, e))
around b k (split y true) t (dot u) = whole (dotted t u) refl
around b k (split y false) t (two u) = half t u
around b k (node c j (split y false)) t (half u v) = whole (apart t u v) refl

part : (f : Forest) → splits_last f ≡ true → Part f
part none h = whole nothing refl
part (node b k x) h =
    let p : Parts b k x = node_parts b k x h in
    around b k x (whole_of b (part b p.before.last) p.before.ended) (part x p.last)
part (leaf b k w) h = let p : Before b = before b h in whole (a_leaf (whole_of b (part b p.last) p.ended)) refl
part (message b m) h = let p : Before b = before b h in whole (a_message (whole_of b (part b p.last) p.ended)) refl
part (split b true) h = let p : Before b = before b h in dot (whole_of b (part b p.last) p.ended)
part (split b false) h = let p : Before b = before b h in two (whole_of b (part b p.last) p.ended)

pub tree : (f : Forest) → splits_placed f ≡ true → Tree f
tree f h = let p : Before f = before f h in whole_of f (part f p.last) p.ended
