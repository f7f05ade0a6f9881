-- The version of the interface as a number.
use Rattle.std.specs.Prelude.{ℕ, ◌+◌, ◌*◌}

abbrev pub version : ℕ → ℕ → ℕ → ℕ
version major minor patch = 1000000 * major + (1000 * minor + patch)
