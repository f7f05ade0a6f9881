-- What is read of numbers is what they were made of.
use Rattle.std.proofs.Common.{◌≡◌, ◌⊎◌, ℕ, ◌+◌, ◌-◌, ◌<◌, ◌≤◌, ◌≢◌, List, [], ◌∷◌, ◌++◌, refl, ap, sym, ◌∙◌, arith, inl, inr}
use Rattle.std.proofs.lemmas.Bool.{cond-true, cond-false, eq-eqb, ne_eqb}
use Rattle.rast_answers.specs.declared.deltas.Delta.{Delta}
use Rattle.rast_answers.specs.declared.tokens.Token.{Token}
use Rattle.rast_answers.specs.Deltas.{AreInOrder, IsNotBefore, counted_from, decoded, deltas_from, seen_from, token_read}

line_read : (line start : ℕ) (t : Token) → IsNotBefore line start t.line t.start → line + (t.line - line) ≡ t.line
line_read line start t h = elim h [ inl later ↦ omega (arith, later) | inr same ↦ omega (arith, same.0) ]

start_read : (line start : ℕ) (t : Token) → IsNotBefore line start t.line t.start
    → counted_from line start t.line + (t.start - counted_from line start t.line) ≡ t.start
start_read line start t h = elim h [
  | inl later ↦
      let other : t.line ≢ line = omega (arith, later) in
      let none : counted_from line start t.line ≡ 0 = cond-false _ _ _ (ne_eqb t.line line other) in
      omega (arith, none)
  | inr same ↦
      let here : counted_from line start t.line ≡ start = cond-true _ _ _ (eq-eqb t.line line (sym same.0)) in
      omega (arith, here, same.1)
]

read_again : (line start : ℕ) (t : Token) → IsNotBefore line start t.line t.start → token_read line start (seen_from line start t) ≡ t
read_again line start t h =
    let same_line : line + (t.line - line) ≡ t.line = line_read line start t h in
    let same_start : counted_from line start (line + (t.line - line)) + (t.start - counted_from line start t.line) ≡ t.start =
    ap (λ k. counted_from line start k + (t.start - counted_from line start t.line)) same_line ∙ start_read line start t h in
    ap (λ (l : ℕ). record { line = l; start = counted_from line start (line + (t.line - line)) + (t.start - counted_from line start t.line); length = t.length; kind = t.kind; modifiers = t.modifiers }) same_line
    ∙ ap (λ (k : ℕ). record { line = t.line; start = k; length = t.length; kind = t.kind; modifiers = t.modifiers }) same_start

pub decodes : (line start : ℕ) (ts : List Token) → AreInOrder line start ts → decoded line start (deltas_from line start ts) ≡ ts
decodes line start [] h = refl
decodes line start (t ∷ ts) h =
    let same : token_read line start (seen_from line start t) ≡ t = read_again line start t h.0 in
    ap (λ (x : Token). x ∷ decoded x.line x.start (deltas_from t.line t.start ts)) same
    ∙ ap (λ rest. t ∷ rest) (decodes t.line t.start ts h.1)
