-- The FNV-1a hash of 64 bits.
use Rattle.std.specs.Prelude.{ℕ, ◌*◌, ◌%◌, ◌^◌, List, bit_xor}
use Rattle.std.specs.List.{fold}

-- one more byte: it is mixed into the low bits, and the whole is multiplied by the prime
abbrev pub fnv1a_step : ℕ → ℕ → ℕ
fnv1a_step hash byte = (bit_xor hash byte * 0x100000001b3) % 2 ^ 64

-- the hash of these bytes
abbrev pub fnv1a_of : List ℕ → ℕ
fnv1a_of bytes = fold fnv1a_step 0xcbf29ce484222325 bytes
