use Rattle.std.proofs.Common.{ltb, ltb-true, ltb-false, rules}
use Rattle.std.proofs.lemmas.Fn.{always_returns_same}
use Rattle.std.proofs.lemmas.List.Sorted.{IsPartitionedBy-ltb}
use Rattle.rap_lexed.specs.LexedStr.{Message}
use Rattle.rap_lexed.proofs.lexed_str.first_error.Goals as goal

pub returns-clause-point : goal.returns-clause-point
returns-clause-point c =
    let parted = IsPartitionedBy-ltb (λ (m : Message). m.token) _ c.args.token c.requires in
    let point = c.partition_point.ensures.partitioned (λ (m : Message). ltb m.token c.args.token) (always_returns_same _ _ _ (λ a r q k. search rules)) parted in
    (λ k d low high. ltb-true _ _ (point.0 k d low high), λ k d low high. ltb-false _ _ (point.1 k d low high))
