-- A message as the programs print it.
use Rattle.std.specs.Prelude.{ℕ, List, ◌++◌, codes}
use Rattle.std.specs.Fmt.{decimal}

-- the line of a message about what has this number: a byte of a text, or a token
abbrev pub message_line : ℕ → List ℕ → List ℕ
message_line number text = codes "error " ++ (decimal number ++ (codes ": " ++ (text ++ codes "\n")))
