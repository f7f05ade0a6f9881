-- How many tokens are left.
use Rattle.std.proofs.Common.{◌≡◌, ◌≢◌, ℕ, ◌<◌, ◌≤◌, List, [], ◌∷◌, drop, length, refl, sym, ap, ◌∙◌, arith}
use Rattle.rap_base.specs.TokenKind.{EOF}
use Rattle.rap_events.specs.Record.{Record, next_kind}
use Rattle.rap_events.specs.State.{state, next}
use Rattle.rap_events.specs.declared.parser.Parser.{Parser}
use Rattle.rap_events.proofs.Skips.{rest_at_end}

some_left : (rs : List Record) → next_kind rs ≢ EOF → 0 < length rs
some_left [] h = absurd (h refl)
some_left (r ∷ rs) h = omega arith

one_less : (rs qs : List Record) → qs ≡ drop 1 rs → 0 < length rs → length qs < length rs
one_less [] qs e h = absurd (omega arith)
one_less (r ∷ rs) qs e h = let l : length qs ≡ length rs = ap length e in omega (arith, l)

-- a token is left where one comes next
pub left_of_next : (p : Parser) → next (state p) ≢ EOF → 0 < (state p).left
unfolding state
left_of_next p h = some_left _ h

-- a token that was passed over was taken
pub left_past : (p q : Parser) → (state q).rest ≡ drop 1 (state p).rest → 0 < (state p).left →
    (state q).left < (state p).left
unfolding state
left_past p q e h = one_less _ _ e h

-- no token is left at the end
pub left_at_end : (p : Parser) → next (state p) ≡ EOF → (state p).left ≡ 0
unfolding state
left_at_end p h = ap length (rest_at_end p h)
