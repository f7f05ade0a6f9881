-- What a browser reads as text.
use Rattle.std.specs.Prelude.{◌≢◌, ℕ, List}
use Rattle.std.specs.List.{All}

-- No byte is `<`. In a `script` element such bytes neither end the element nor open a comment.
pub record IsInert (bytes : List ℕ) : Type 0 where
  pub all : All (λ b. b ≢ 60) bytes
