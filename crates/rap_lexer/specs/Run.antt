-- What stands at the beginning of a text.
use Rattle.std.specs.Prelude.{ℕ, Bool, false, List, [], ◌∷◌, ◌==◌, if◌then◌else◌}
use Rattle.rap_lexer.specs.Class.{is_in}
use Rattle.rap_lexer.specs.declared.lexer.run.Class.{Class}
use Rattle.rap_lexer.specs.declared.lexer.run.Class.TheVariants.{IdentStart, IdentContinue}

-- this character stands first
abbrev pub next_is : ℕ → List ℕ → Bool
next_is a [] = false
next_is a (c ∷ cs) = c == a

-- a character of the class stands first
abbrev pub next_in : Class → List ℕ → Bool
next_in class [] = false
next_in class (c ∷ cs) = is_in class c

-- what follows the first character
abbrev pub tail : List ℕ → List ℕ
tail [] = []
tail (c ∷ cs) = cs

-- the characters from the beginning on that pass the test, as many as there are
abbrev pub run_of : (ℕ → Bool) → List ℕ → List ℕ
run_of p [] = []
run_of p (c ∷ cs) = if p c then c ∷ run_of p cs else []

-- what follows them
abbrev pub after_run : (ℕ → Bool) → List ℕ → List ℕ
after_run p [] = []
after_run p (c ∷ cs) = if p c then after_run p cs else (c ∷ cs)

-- what follows a suffix: an identifier directly after a literal, if there is one
abbrev pub after_suffix : List ℕ → List ℕ
after_suffix cs = if next_in IdentStart cs then after_run (is_in IdentContinue) (tail cs) else cs
