use Rattle.std.proofs.Common.{◌≡◌, ◌≢◌, ◌↔◌, ℕ, ◌+◌, ◌<◌, ◌==◌, ◌||◌, Bool, false, List, All, IsFalse, length, get_or, take, refl, sym, ◌∙◌, subst, arith}
use Rattle.std.proofs.lemmas.Bool.{eqb-false, ne_eqb, or_parts}
use Rattle.std.proofs.lemmas.List.{get_or-take, get_or_read, length-take-le, take-take, take_all}
use Rattle.std.proofs.lemmas.List.Elements.{All-more, All-take}
use Rattle.rap_base.specs.TokenKind.{EOF, FLOAT_NUMBER}
use Rattle.rap_events.proofs.input.columns.kinds.holds_float.Goals as goal

abbrev IsNoFloat : ℕ → Type 0
IsNoFloat kind = kind ≢ FLOAT_NUMBER

neither : (a b : Bool) → a ≡ false → b ≡ false → (a || b) ≡ false
neither a b p q = rw (p, q) refl

-- one kind more was looked at
looked : (kinds : List ℕ) (i kind : ℕ) (found : Bool) → i < length kinds → kind ≡ get_or kinds i EOF → (IsFalse found ↔ All IsNoFloat (take i kinds)) → IsFalse (found || (kind == FLOAT_NUMBER)) ↔ All IsNoFloat (take (i + 1) kinds)
looked kinds i kind found within is so_far = (
  λ none.
      let parts = or_parts found (kind == FLOAT_NUMBER) none in
      All-more IsNoFloat kinds i EOF within (so_far.0 parts.0) (λ e. eqb-false kind FLOAT_NUMBER parts.1 (is ∙ e)),
  λ all.
      let before : All IsNoFloat (take i kinds) = subst (λ (ks : List ℕ). All IsNoFloat ks) (take-take i (i + 1) kinds (omega arith)) (All-take IsNoFloat i (take (i + 1) kinds) all) in
      let there : i < length (take (i + 1) kinds) = omega (arith, length-take-le (i + 1) kinds (omega arith)) in
      let other : kind ≢ FLOAT_NUMBER = λ e. all i EOF there (get_or-take (i + 1) kinds i EOF (omega arith) ∙ sym is ∙ e) in
      neither found (kind == FLOAT_NUMBER) (so_far.1 before) (ne_eqb kind FLOAT_NUMBER other),
)

pub loop-kind-preserved : goal.loop-kind-preserved
loop-kind-preserved c =
    let kinds = c.args.kinds.now in
    let i = c.loop-kind.kind-index in
    let read = get_or_read kinds i c.kind-item.result (omega arith) c.kind-item.is EOF in
    subst (λ (b : Bool). IsFalse (c.loop-kind.found || b) ↔ All IsNoFloat (take (i + 1) kinds)) (sym c.eq-found.ensures)
    (looked kinds i c.kind-item.result c.loop-kind.found (omega arith) read c.loop-kind.invariant)

pub returns : goal.returns
returns c =
    subst (λ (ks : List ℕ). IsFalse c.loop-kind.found ↔ All IsNoFloat ks) (take_all c.loop-kind.kind-index c.args.kinds.now (omega arith)) c.loop-kind.invariant
