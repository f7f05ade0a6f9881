-- What the table derives of the front of an input.
use Rattle.std.specs.Prelude.{ℕ, ◌==◌, not, List, [], ◌∷◌}
use Rattle.rap_base.specs.TokenKind.{EOF, SHEBANG}
use Rattle.rap_events.specs.Forest.{Forest}
use Rattle.rap_events.specs.Record.{Record}
use Rattle.rap_grammar_table.specs.Category.{Category}
use Rattle.rap_grammar_table.specs.Known.{Place, Sees}
use Rattle.rap_grammar_table.specs.Notation.{those, of_kinds, up_to}
use Rattle.rap_grammar_table.specs.Tops.{Makes}

-- any token but one of this kind, or the end of the input
abbrev pub any_but : ℕ → List (List Place)
any_but kind = (of_kinds (EOF ∷ those (λ k. not (k == kind)) (up_to SHEBANG)) ∷ []) ∷ []

-- A category's tokens and their tree, before tokens that go on in one of these ways.
abbrev pub MakesBefore : List (List Place) → Category → List Record → List Record → Forest → Type 0
MakesBefore ways category front rest tree = Makes category front tree × Sees ways rest
