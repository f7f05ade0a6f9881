use Rattle.std.proofs.Common.{ap, length, length-drop, arith}
use Rattle.std.proofs.lemmas.Bool.Decides.{nat_tests}
use Rattle.rast_frames.specs.Reading.{Waiting}
use Rattle.rast_frames.proofs.frames.Frames.is_empty.Goals as goal

pub returns-else-self-len : goal.returns-else-self-len
returns-else-self-len c = (
  λ h. absurd (c.if-self-len.false (grind (arith, nat_tests, h))),
  λ e. absurd (c.if-self-len.false (omega (arith, c.len.ensures, length-drop c.args.self.now.from c.args.self.now.bytes.items, ap (λ (w : Waiting). length w.bytes) e, c.args.self.now.within))),
)
