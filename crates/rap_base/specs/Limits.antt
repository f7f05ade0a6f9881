-- The limits of texts and inputs.
use Rattle.std.specs.Prelude.{ℕ}

-- the most tokens of an input that can be parsed: 2^23 - 1
abbrev pub max_tokens : ℕ
max_tokens = 8388607
