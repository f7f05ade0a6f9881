-- What a program shows.
use Rattle.std.specs.Prelude.{ℕ, List}

-- The bytes that it writes, and its status then.
pub record Shown : Type 0 where
  pub bytes : List ℕ
  pub status : ℕ

-- bytes without a message
abbrev pub plain : List ℕ → Shown
plain bytes = record { bytes = bytes; status = 0 }
