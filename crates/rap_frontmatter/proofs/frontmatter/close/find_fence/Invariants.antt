use Rattle.std.proofs.Common.{length, ◌-◌}
use Rattle.rap_frontmatter.proofs.ScriptFences.{Searched}
use Rattle.rap_frontmatter.proofs.frontmatter.close.find_fence.Given as goal

abbrev pub invariant-lines : goal.invariant-lines
invariant-lines l = Searched l.n l.text l.at l.place l.most

abbrev pub decreases-lines : goal.decreases-lines
decreases-lines l = length l.text - l.at
