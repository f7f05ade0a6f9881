-- Messages about one token.
-- (What calls promise one another; no promise of the library rests on it.)
use Rattle.std.specs.Prelude.{◌≡◌, ℕ, Bool, List, [], ◌++◌, map}
use Rattle.rap_lexer.specs.declared.lexer.lexeme.Remark.{Remark}
use Rattle.rap_lexed.specs.LexedStr.{Message}
use Rattle.rap_lexed.specs.Reported.{ReportsOf}

-- messages about the token, with these texts
abbrev pub about : ℕ → List (List ℕ) → List Message
about token texts = map (λ text. record { token = token; text = text }) texts

-- messages about the token, whose texts are as asked, were added
abbrev pub Adds : (List (List ℕ) → Type 0) → ℕ → List Message → List Message → Type 0
Adds Texts token old new = (texts : List (List ℕ)) × Texts texts × (new ≡ old ++ about token texts)

-- nothing is reported about a token with this text and remark, whatever stands before it
abbrev pub IsQuiet : List ℕ → Remark → Type 0
IsQuiet text remark = (note : Bool) → ReportsOf note text remark []
