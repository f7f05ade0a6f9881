-- A marker that became a node is gone.
use Rattle.std.proofs.Common.{◌≡◌, ℕ, Option, sym, ap, ◌∙◌}
use Rattle.rap_events.specs.Forest.{Forest}
use Rattle.rap_events.specs.Machine.{Stack, push, top}

pub gone : {s b : Stack} {m : Option ℕ} {f : Forest} → s ≡ push b m f → s ≡ push b m (top s)
unfolding top
gone {b = b} {m = m} e = e ∙ ap (push b m) (sym (ap top e))
