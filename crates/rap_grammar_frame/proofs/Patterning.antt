-- What a list of patterns has taken, and the separator after a field's name.
use Rattle.std.proofs.Common.{◌≡◌, ℕ, Bool, true, false, ◌==◌, ◌||◌, List, [], ◌∷◌, drop, refl, sym, ◌∙◌, ap, arith}
use Rattle.std.proofs.lemmas.Bool.Decides.{nat_tests}
use Rattle.rap_base.specs.TokenKind.{COMMA}
use Rattle.rap_events.specs.Record.{Record, next_kind, kind_at}
use Rattle.rap_events.specs.State.{State, next, Ate}
use Rattle.rap_grammar_frame.specs.Grew.{Took}
use Rattle.rap_events.proofs.Truth.{and_right}
use Rattle.rap_grammar_scripts.proofs.Ends.{passes, fails}
use Rattle.rap_grammar_scripts.specs.First.{is_pat_top_first}
use Rattle.rap_grammar_scripts.specs.Patterns.{at_field, is_rest_pat, tuple_element}
use Rattle.rap_grammar_scripts.specs.Recovery.{stops_pattern}
use Rattle.rap_grammar_scripts.specs.Script.{Outcome, test}
use Rattle.rap_grammar_scripts.specs.Stand.{Stand}
use Rattle.rap_grammar_scripts.specs.Test.{holds}
use Rattle.rap_grammar_frame.specs.Rules.{PatternIn}
use Rattle.rap_grammar_frame.proofs.Steps.{On, clash}

by_test : {A : Type 0} (b : Bool) → (b ≡ true → A) → (b ≡ false → A) → A
by_test true f h = f refl
by_test false f h = h refl

no_stop : (k : ℕ) → is_pat_top_first k ≡ true → stops_pattern k ≡ false
no_stop k e = grind (arith, nat_tests)

-- where another pattern begins after a pattern, with no comma between them, that one took a token
pub took_before : {s t u : State} {b : Bool} {k room : ℕ} →
    PatternIn k room s t → Ate t u COMMA b → b ≡ false → is_pat_top_first (next u) ≡ true → Took s t room
took_before {s = s} {t = t} {u = u} d a e first =
    by_test (stops_pattern (next s))
    (λ stop.
    let n : next u ≡ next s = ap next (a.not_token e) ∙ d.stays stop in
    absurd (clash stop (ap stops_pattern (sym n) ∙ no_stop (next u) first)))
    d.took

next_is_second : (rs : List Record) → next_kind (drop 1 rs) ≡ kind_at rs 1
next_is_second [] = refl
next_is_second (r ∷ []) = refl
next_is_second (r ∷ s ∷ rs) = refl

-- after a field's name its separator comes next
pub separator_next : (separator : ℕ) (rs : List Record) {qs : List Record} →
    holds (at_field separator) rs ≡ true → qs ≡ drop 1 rs → (next_kind qs == separator) ≡ true
separator_next separator rs h e =
    ap (λ (k : ℕ). k == separator) (ap next_kind e ∙ next_is_second rs) ∙ and_right _ _ h

no_more : (b : Bool) → (b || true) ≡ true
no_more true = refl
no_more false = refl

same_flag : (b : Bool) → (b || false) ≡ b
same_flag true = refl
same_flag false = refl

-- an element of a tuple of patterns, which a `..` makes one too
pub by_rest_pat : {j : ℕ} {tuple b : Bool} {p q : Stand} {v : Outcome} → b ≡ holds is_rest_pat p.rest →
    On j (tuple_element (tuple || b)) p q v → On j (test is_rest_pat (tuple_element true) (tuple_element tuple)) p q v
by_rest_pat {tuple = tuple} {b = true} e d = passes (sym e) (rw (no_more tuple) at d)
by_rest_pat {tuple = tuple} {b = false} e d = fails (sym e) (rw (same_flag tuple) at d)
