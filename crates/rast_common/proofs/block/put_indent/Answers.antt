use Rattle.std.proofs.Common.{rules, ◌≤◌}
use Rattle.rast_common.proofs.Spelling.{indent-more, spaces_are}
use Rattle.rast_common.proofs.block.put_indent.Goals as goal

pub levels-preserved : goal.levels-preserved
levels-preserved g c =
    let few : c.min-next.result ≤ 32 = search rules in
    let within : c.min-next.result ≤ c.levels.left = search rules in
    record {
      within = search rules;
      added = indent-more _ _ _ _ _ _ _ c.levels.invariant.within within (rw c.as_bytes.ensures.value (spaces_are c.min-next.result few)) c.levels.invariant.added c.in_ok-put.ensures;
    }
