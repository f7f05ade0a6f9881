use Rattle.std.proofs.Common.{◌≡◌, ◌∷◌, map, take}
use Rattle.rap_c.specs.Script.{part_at}
use Rattle.rap_c.proofs.script.shown.Given as goal

abbrev pub invariant-spans : goal.invariant-spans
invariant-spans l = l.parts.items ≡ part_at l.error.primary ∷ map part_at (take l.span-index l.error.visible)
