-- The places of tokens that messages are about, one after another.
use Rattle.std.proofs.Common.{◌≡◌, ℕ, ◌+◌, ◌<◌, ◌≤◌, List, [], ◌∷◌, ◌++◌, map, ap, sym, ◌∙◌}
use Rattle.std.specs.Prelude.{if◌then◌else◌}
use Rattle.std.proofs.lemmas.Bool.{le-leb, lt-leb}
use Rattle.std.proofs.lemmas.List.{append_assoc}
use Rattle.rap_lexed.specs.LexedStr.{Message}
use Rattle.rap_lexed.specs.Token.{Token}
use Rattle.rap_core.specs.Listed.{numbers_reported, token_place}
use Rattle.rap_core.specs.declared.listing.Place.{Place}

-- a token that is not listed yet
pub next_listed : (places new whole : List Place) (ts : List Token) (from : ℕ) (m : Message) (ms : List Message)
    → from ≤ m.token → new ≡ places ++ token_place ts m.token ∷ []
    → places ++ map (token_place ts) (numbers_reported from (m ∷ ms)) ≡ whole
    → new ++ map (token_place ts) (numbers_reported (m.token + 1) ms) ≡ whole
next_listed places new whole ts from m ms low is before =
    let later = map (token_place ts) (numbers_reported (m.token + 1) ms) in
    ap (λ ps. ps ++ later) is
    ∙ append_assoc places (token_place ts m.token ∷ []) later
    ∙ ap (λ b. places ++ map (token_place ts) (if b then m.token ∷ numbers_reported (m.token + 1) ms else numbers_reported from ms))
    (sym (le-leb from m.token low))
    ∙ before

-- one that is
pub next_passed : (places whole : List Place) (ts : List Token) (from : ℕ) (m : Message) (ms : List Message)
    → m.token < from → places ++ map (token_place ts) (numbers_reported from (m ∷ ms)) ≡ whole
    → places ++ map (token_place ts) (numbers_reported from ms) ≡ whole
next_passed places whole ts from m ms high before =
    ap (λ b. places ++ map (token_place ts) (if b then m.token ∷ numbers_reported (m.token + 1) ms else numbers_reported from ms))
    (sym (lt-leb from m.token high))
    ∙ before
