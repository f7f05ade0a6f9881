-- A token of a text.
use Rattle.std.specs.Prelude.{ℕ, List}

-- A token: its kind's number, and the bytes of its text.
pub record Token : Type 0 where
  pub kind : ℕ
  pub text : List ℕ
