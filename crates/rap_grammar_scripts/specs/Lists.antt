-- Lists of elements between two tokens.
-- In the Rust crate: `delimited` in `grammar.rs`.
use Rattle.std.specs.Prelude.{ℕ, Bool, List, [], ◌∷◌, false}
use Rattle.rap_base.specs.TokenKind.{EOF, ERROR}
use Rattle.rap_grammar_scripts.specs.Script.{Script, give, token, report, start, finish, after, again, loop}
use Rattle.rap_grammar_scripts.specs.Test.{or_else}
use Rattle.rap_grammar_scripts.specs.Words.{done, if_some, expect, ◌▸◌, choose, optional, call, next_so, is_at}
use Rattle.rap_grammar_scripts.specs.declared.rule.Rule.{Rule}

-- Elements with a delimiter between them. Where an element is missing a message stands in the place of it; the list
-- ends where no element begins, and where neither a delimiter nor another element follows.
abbrev pub element_turn : Script Rule → ℕ → ℕ → List ℕ → (ℕ → Bool) → Bool → Bool → Script Rule
element_turn element ket delim missing first a b =
    choose
    ((is_at ket, done)
    ∷ (is_at EOF, done)
    ∷ (is_at delim, start ▸ report missing ▸ token delim ▸ finish ERROR ▸ give (again a b))
    ∷ [])
    (after element (λ v.
    if_some v (optional (or_else (is_at delim) (next_so first)) (expect delim ▸ give (again a b))) done))

unfoldable pub elements : Script Rule → ℕ → ℕ → List ℕ → (ℕ → Bool) → Script Rule
elements element ket delim missing first = loop (element_turn element ket delim missing first) false false

-- a list in its brackets
unfoldable pub delimited : Script Rule → ℕ → ℕ → ℕ → List ℕ → (ℕ → Bool) → Script Rule
delimited element bra ket delim missing first =
    token bra ▸ call (elements element ket delim missing first) ▸ expect ket ▸ done
