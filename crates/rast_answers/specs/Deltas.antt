-- Tokens as numbers, each relative to the one before.
use Rattle.std.specs.Prelude.{◌≡◌, ◌⊎◌, ℕ, ◌+◌, ◌-◌, ◌<◌, ◌≤◌, ◌==◌, if◌then◌else◌, List, [], ◌∷◌}
use Rattle.rast_answers.specs.declared.deltas.Delta.{Delta}
use Rattle.rast_answers.specs.declared.tokens.Token.{Token}

-- the place from which a token on this line is counted: that of the one before on the same line, else the line's start
abbrev pub counted_from : ℕ → ℕ → ℕ → ℕ
counted_from line start other = if other == line then start else 0

-- a token as seen from a place on a line
abbrev pub seen_from : ℕ → ℕ → Token → Delta
seen_from line start t = record {
  line = t.line - line;
  start = t.start - counted_from line start t.line;
  length = t.length;
  kind = t.kind;
  modifiers = t.modifiers;
}

-- tokens, each as seen from the one before
abbrev pub deltas_from : ℕ → ℕ → List Token → List Delta
deltas_from line start [] = []
deltas_from line start (t ∷ ts) = seen_from line start t ∷ deltas_from t.line t.start ts

-- what a client reads: each token by the place of the one before
abbrev pub token_read : ℕ → ℕ → Delta → Token
token_read line start d = record {
  line = line + d.line;
  start = counted_from line start (line + d.line) + d.start;
  length = d.length;
  kind = d.kind;
  modifiers = d.modifiers;
}

abbrev pub decoded : ℕ → ℕ → List Delta → List Token
decoded line start [] = []
decoded line start (d ∷ ds) = token_read line start d ∷ decoded (token_read line start d).line (token_read line start d).start ds

-- a place that is not before another
abbrev pub IsNotBefore : ℕ → ℕ → ℕ → ℕ → Type 0
IsNotBefore line start other place = (line < other) ⊎ ((line ≡ other) × (start ≤ place))

-- each token begins at a place or after it, and the next ones at its own or after it
abbrev pub AreInOrder : ℕ → ℕ → List Token → Type 0
AreInOrder line start [] = Unit {0}
AreInOrder line start (t ∷ ts) = IsNotBefore line start t.line t.start × AreInOrder t.line t.start ts
