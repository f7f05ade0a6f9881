use Rattle.std.proofs.Common.{◌≡◌, ◌<◌, ◌≤◌, ℕ, false}
use Rattle.rast_frames.specs.Header.{IsBreak, IsLengthField, ends_header}
use Rattle.rast_frames.proofs.header.length_field.Given as goal

abbrev pub invariant-bytes : goal.invariant-bytes
invariant-bytes l = (k : ℕ) → l.from ≤ k → k < l.index → ¬ IsLengthField l.header k
