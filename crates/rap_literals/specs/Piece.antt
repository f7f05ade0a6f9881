-- What reading the next piece of a string's body comes to.
use Rattle.std.specs.Prelude.{ℕ, ◌≤◌, ⊤, Bool, ◌&&◌, List, [], ◌∷◌, ◌++◌, encode_utf8}
use Rattle.rap_lexer.specs.Escape.{backslash, line_feed, hex_limit, StringReports}
use Rattle.rap_lexer.specs.Run.{next_is, tail}
use Rattle.rap_lexer.specs.declared.escape.Fault.{Fault}
use Rattle.rap_lexer.specs.declared.escape.Mode.{Mode}
use Rattle.rap_literals.specs.Value.{StringValue}
use Rattle.rap_literals.specs.declared.body.Piece.{Piece}
use Rattle.rap_literals.specs.declared.body.Piece.TheVariants.{Gap, Byte, Character}

-- a backslash at the end of a line stands first
abbrev pub begins_gap : List ℕ → Bool
begins_gap cs = next_is backslash cs && next_is line_feed (tail cs)

-- the bytes of a piece
abbrev pub bytes_in : Piece → List ℕ
bytes_in Gap = []
bytes_in (Byte b) = b ∷ []
bytes_in (Character c) = encode_utf8 c

-- a byte is within what a `\x` may be
abbrev pub IsWithin : Mode → Piece → Type 0
IsWithin mode Gap = ⊤
IsWithin mode (Byte b) = b ≤ hex_limit mode
IsWithin mode (Character c) = ⊤

-- the body stands for these bytes and then what the rest of it stands for, and it reports what that reports
pub record Continues (mode : Mode) (body bytes rest : List ℕ) : Type 0 where
  pub value : (more : List ℕ) → StringValue mode rest more → StringValue mode body (bytes ++ more)
  pub reports : (faults : List Fault) → StringReports mode rest faults → StringReports mode body faults

-- the body reports a fault
abbrev pub HasFault : Mode → List ℕ → Type 0
HasFault mode body = (fault : Fault) × (faults : List Fault) × StringReports mode body (fault ∷ faults)
