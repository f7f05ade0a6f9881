-- Bits in lists of words.
use Rattle.std.specs.Prelude.{ℕ, Bool, List, ◌/◌, ◌%◌, ◌==◌, slice_index_or}
use Rattle.std.specs.Int.{bit_at}

-- bit i mod 64 of word i div 64; there is none past the last word
unfoldable pub bit : List ℕ → ℕ → Bool
bit words i = bit_at (slice_index_or words (i / 64) 0) (i % 64) == 1
