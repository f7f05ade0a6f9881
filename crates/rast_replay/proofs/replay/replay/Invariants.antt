use Rattle.std.proofs.Common.{◌≡◌}
use Rattle.std.specs.List.{All}
use Rattle.rast_replay.specs.Row.{IsRow}
use Rattle.rast_replay.proofs.replay.replay.Given as goal

-- if none was different so far, the lines so far are rows
abbrev pub invariant-rows : goal.invariant-rows
invariant-rows l = l.replayed.different ≡ 0 → All (λ line. IsRow line.now) l.yielded
