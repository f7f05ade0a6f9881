-- The room of lists that grow by doubling.
use Rattle.std.specs.Prelude.{ℕ, ◌*◌}

-- a room that a list comes to which doubles its first room when it is full
pub data IsDoubled (first : ℕ) : ℕ → Type 0 where
  once : IsDoubled first first
  again : (room : ℕ) → IsDoubled first room → IsDoubled first (room * 2)
