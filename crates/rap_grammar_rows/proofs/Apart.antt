-- Nodes in their order from the last one on, each with tokens that stand before those of the nodes found so far.
use Rattle.std.proofs.Common.{ℕ, ◌≤◌, List, [], ◌∷◌, ◌++◌, All, AllPairs, arith}
use Rattle.std.proofs.lemmas.List.Elements.{All-push, All-weaker}
use Rattle.std.proofs.lemmas.List.Quantifiers.{all_pairs_push}
use Rattle.rap_grammar_rows.specs.declared.search.outside.Outside.{Outside}

-- nodes of so many tokens, with so many before all of them
pub record IsApart (tokens : ℕ) (limit : ℕ) (nodes : List Outside) : Type 0 where
  pub within : All (λ (node : Outside). (node.start ≤ node.end) × (node.end ≤ tokens)) nodes
  pub apart : AllPairs (λ (later node : Outside). node.end ≤ later.start) nodes
  pub few : limit ≤ tokens
  pub before : All (λ (node : Outside). limit ≤ node.start) nodes

pub apart_push :
    (tokens limit : ℕ) (nodes : List Outside) (node : Outside)
    → IsApart tokens limit nodes
    → node.start ≤ node.end
    → node.end ≤ limit
    → IsApart tokens node.start (nodes ++ node ∷ [])
apart_push tokens limit nodes node is starts ends = record {
  within =
      All-push
      (λ (n : Outside). (n.start ≤ n.end) × (n.end ≤ tokens))
      nodes
      node
      is.within
      (starts, omega (arith, is.few));
  apart =
      all_pairs_push
      (λ (later n : Outside). n.end ≤ later.start)
      nodes
      node
      is.apart
      (λ k d h. omega (arith, is.before k d h));
  few = omega (arith, is.few);
  before =
      All-push
      (λ (n : Outside). node.start ≤ n.start)
      nodes
      node
      (All-weaker
      (λ (n : Outside). limit ≤ n.start)
      (λ (n : Outside). node.start ≤ n.start)
      (λ x h. omega arith)
      nodes
      is.before)
      (omega arith);
}
