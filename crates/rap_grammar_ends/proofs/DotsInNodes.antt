-- The node of a float that ends in a dot stands in another node.
use Rattle.std.proofs.Common.{◌≡◌, ℕ, Bool, true, false, not}
use Rattle.rap_events.proofs.Truth.{and_left, and_right}
use Rattle.rap_events.specs.Forest.{Forest, ends_in_dot, used}
use Rattle.rap_grammar_ends.specs.Dots.{dots_inside, StandsInNode}
use Rattle.rap_grammar_ends.specs.StandsIn.{NodeAt, last_node, in_last_node, before_node, before_leaf, before_message, before_split}

not_both : (b : Bool) → not b ≡ true → b ≡ true → ⊥
not_both true h i = absurd cc
not_both false h i = absurd cc

-- the same node, with something more behind it
behind : {f g : Forest} {kind : ℕ} {children : Forest} → StandsInNode f kind children →
    ((n k : ℕ) (c : Forest) → NodeAt f n k c → NodeAt g n k c) → StandsInNode g kind children
behind i on = record {
  outer_kind = i.outer_kind;
  outer_children = i.outer_children;
  outer_place = i.outer_place;
  outer = on i.outer_place i.outer_kind i.outer_children i.outer;
  place = i.place;
  stands = i.stands;
}

pub in_nodes : {tree : Forest} {place kind : ℕ} {children : Forest} → NodeAt tree place kind children →
    dots_inside tree ≡ true → ends_in_dot children ≡ true → StandsInNode tree kind children
in_nodes (last_node {f = f} {c = c}) h e =
    absurd (not_both (ends_in_dot c) (and_right (dots_inside f) (not (ends_in_dot c)) h) e)
in_nodes (in_last_node {f = f} {c = c} {k = k} {tokens = tokens} n) h e = record {
  outer_kind = k;
  outer_children = c;
  outer_place = used f;
  outer = last_node;
  place = tokens;
  stands = n;
}
in_nodes (before_node {f = f} {c = c} n) h e =
    behind (in_nodes n (and_left (dots_inside f) (not (ends_in_dot c)) h) e) (λ n k c i. before_node i)
in_nodes (before_leaf n) h e = behind (in_nodes n h e) (λ n k c i. before_leaf i)
in_nodes (before_message n) h e = behind (in_nodes n h e) (λ n k c i. before_message i)
in_nodes (before_split {f = f} {ends_in_dot = dot} n) h e =
    behind (in_nodes n (and_left (dots_inside f) (not dot) h) e) (λ n k c i. before_split i)
