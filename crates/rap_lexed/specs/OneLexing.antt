-- A text has one lexing: one list of tokens, and one list of messages.
use Rattle.std.specs.Prelude.{◌≡◌, ℕ, List}
use Rattle.rap_base.specs.declared.edition.Edition.{Edition}
use Rattle.rap_lexed.specs.LexedStr.{Lexed, IsLexing}

-- Whatever lexing the rules allow of the text is this one.
abbrev pub IsOnlyLexing : List ℕ → Edition → Lexed → Type 0
IsOnlyLexing text edition lexed = (other : Lexed) → IsLexing text edition other → other ≡ lexed
