-- A token by its kind and what is to be reported about it.
use Rattle.std.specs.Prelude.{ℕ, Bool, if◌then◌else◌}
use Rattle.rap_lexer.specs.declared.escape.Mode.{Mode}
use Rattle.rap_lexer.specs.declared.lexer.lexeme.Lexeme.{Lexeme}
use Rattle.rap_lexer.specs.declared.lexer.lexeme.Remark.{Remark}
use Rattle.rap_lexer.specs.declared.lexer.lexeme.Remark.TheVariants.{Nothing, Unterminated, Escapes}

-- a token of this kind, with nothing to report
abbrev pub plain : ℕ → Lexeme
plain kind = record { kind = kind; remark = Nothing }

-- a token of this kind, with this to report
abbrev pub with_remark : ℕ → Remark → Lexeme
with_remark kind remark = record { kind = kind; remark = remark }

-- a literal in quotes: if it is closed its body is to be checked, and else that is reported
abbrev pub literal : ℕ → Mode → Bool → Lexeme
literal kind mode closed = with_remark kind (if closed then Escapes mode else Unterminated mode)
