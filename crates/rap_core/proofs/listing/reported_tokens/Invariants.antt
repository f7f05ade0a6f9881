use Rattle.std.specs.Prelude.{◌≡◌, ◌++◌, All, Contains, length, map}
use Rattle.rap_lexed.specs.LexedStr.{AreInOrder}
use Rattle.rap_core.specs.Listed.{IsReported, numbers_reported, token_place}
use Rattle.rap_core.proofs.listing.reported_tokens.Given as goal

abbrev pub invariant-errors : goal.invariant-errors
invariant-errors l =
    (goal.iterator-errors).can_next l.token-iterator ×
    (goal.iterator-errors).is_finite l.token-iterator ×
    All (Contains l.fn.lexed.errors) l.token-iterator ×
    All (IsReported l.fn.lexed) l.places.items ×
    AreInOrder (length l.fn.lexed.tokens) l.token-iterator ×
    (l.places.items ++ map (token_place l.fn.lexed.tokens) (numbers_reported l.listed l.token-iterator)
    ≡ map (token_place l.fn.lexed.tokens) (numbers_reported 0 l.fn.lexed.errors))
