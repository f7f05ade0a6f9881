-- Changes of a text.
use Rattle.std.specs.Prelude.{◌≡◌, ℕ, ◌<◌, ◌≤◌, ◌⊎◌, List, [], ◌∷◌, ◌++◌, MatchOption, take, drop}
use Rattle.rast_document.specs.declared.change.Change.{Change}
use Rattle.rast_document.specs.declared.encoding.Encoding.{Encoding}
use Rattle.rast_document.specs.declared.position.Position.{Position}
use Rattle.rast_document.specs.declared.position.Span.{Span}
use Rattle.rast_document.specs.Places.{IsAt}

-- the second position is not before the first
abbrev pub IsInOrder : Position → Position → Type 0
IsInOrder p q = (p.line < q.line) ⊎ ((p.line ≡ q.line) × (p.character ≤ q.character))

-- The text is put in the place of the range, whose positions are in order and mean offsets of the old text.
pub record Replaces (e : Encoding) (old : List ℕ) (span : Span) (text new : List ℕ) : Type 0 where
  pub from : ℕ
  pub to : ℕ
  pub order : IsInOrder span.start span.end
  pub start : IsAt e old span.start from
  pub end : IsAt e old span.end to
  pub replaced : new ≡ take from old ++ text ++ drop to old

-- one change: without a range the text is the new one
abbrev pub Changes : Encoding → List ℕ → Change → List ℕ → Type 0
Changes e old c new = MatchOption c.span (new ≡ c.text.now) (λ span. Replaces e old span c.text.now new)

-- changes in order, each of what the ones before it left
abbrev pub AllChange : Encoding → List ℕ → List Change → List ℕ → Type 0
AllChange e old [] new = new ≡ old
AllChange e old (c ∷ cs) new = (middle : List ℕ) × Changes e old c middle × AllChange e middle cs new
