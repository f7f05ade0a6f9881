-- Diagnostics: the messages of a tree with their ranges.
use Rattle.std.specs.Prelude.{ℕ, List}
use Rattle.rap_ranged.specs.RangedMessages.{RangedMessage}
use Rattle.rast_answers.specs.declared.diagnostic.Diagnostic.{Diagnostic}

-- the bytes of a message's text, and its range
pub record Saying : Type 0 where
  pub text : List ℕ
  pub start : ℕ
  pub end : ℕ

-- what a message says, and what a diagnostic shows
abbrev pub said : RangedMessage → Saying
said m = record { text = m.text; start = m.start; end = m.end }

abbrev pub shown : Diagnostic → Saying
shown d = record { text = d.text.now; start = d.start; end = d.end }
