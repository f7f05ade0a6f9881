-- Tokens that are pushed.
use Rattle.std.proofs.Common.{◌≡◌, ℕ, zero, suc, ◌<◌, List, [], ◌∷◌, ◌++◌, true, length, ap, refl, arith}
use Rattle.std.proofs.lemmas.List.{length-append}
use Rattle.rap_events.specs.Record.{Record, with_last_joint}
use Rattle.rast_calls.specs.Made.{pushed, record_of_token, touches}
use Rattle.rast_calls.specs.declared.asked.Token.{Token}

-- the newest token touches the next one
pub last_joint : (rs : List Record) (r : Record) → with_last_joint (rs ++ r ∷ []) ≡ rs ++ (record r { joint = true }) ∷ []
last_joint [] r = refl
last_joint (s ∷ []) r = refl
last_joint (s ∷ t ∷ rs) r = ap (λ l. s ∷ l) (last_joint (t ∷ rs) r)

pub some_last : (rs : List Record) (r : Record) → 0 < length (rs ++ r ∷ [])
some_last [] r = omega arith
some_last (s ∷ rs) r = omega arith

-- an input has as many tokens as were pushed
pub length_pushed : (token : Token) (every n : ℕ) → length (pushed token every n) ≡ n
length_pushed token every zero = refl
length_pushed token every (suc n) =
    omega (arith, length-append (pushed token every n) (record_of_token token (touches every n) ∷ []), length_pushed token every n)
