-- What a text that is one literal in quotes stands for.
use Rattle.std.specs.Prelude.{ℕ, List, chars}
use Rattle.rap_lexer.specs.declared.escape.Mode.{Mode}
use Rattle.rap_literals.specs.Cut.{IsQuoted}
use Rattle.rap_literals.specs.Value.{StringValue, CharacterValue}
use Rattle.rap_literals.specs.declared.cut.Form.TheVariants.{Escaped, Raw}

-- The text is a string of this mode that stands for these bytes: those of its body, and of a raw one the body as it
-- stands.
pub data StringLiteral (mode : Mode) (text : List ℕ) : List ℕ → Type 0 where
  escaped : (body after bytes : List ℕ) → IsQuoted mode text Escaped body after → StringValue mode (chars body) bytes
      → StringLiteral mode text bytes
  raw : (body after : List ℕ) → IsQuoted mode text Raw body after → StringLiteral mode text body

-- The text is a character or byte that stands for this one.
pub record CharacterLiteral (mode : Mode) (text : List ℕ) (value : ℕ) : Type 0 where
  pub body : List ℕ
  pub after : List ℕ
  pub quoted : IsQuoted mode text Escaped body after
  pub stands : CharacterValue mode (chars body) value
