-- The suffix of a literal in quotes (the Reference, "Suffixes").
use Rattle.std.specs.Prelude.{◌≡◌, ℕ, List}
use Rattle.rap_lexer.specs.Class.{is_in}
use Rattle.rap_lexer.specs.Run.{after_run}
use Rattle.rap_lexer.specs.declared.escape.Mode.{Mode}
use Rattle.rap_lexer.specs.declared.lexer.run.Class.TheVariants.{Hash}
use Rattle.rap_literals.specs.Cut.{IsQuoted}
use Rattle.rap_literals.specs.declared.cut.Form.{Form}

-- The text is a literal in quotes with this suffix: what follows its last quote and the hashes after it.
pub record HasSuffix (text suffix : List ℕ) : Type 0 where
  pub mode : Mode
  pub form : Form
  pub body : List ℕ
  pub after : List ℕ
  pub quoted : IsQuoted mode text form body after
  pub rest : suffix ≡ after_run (is_in Hash) after
