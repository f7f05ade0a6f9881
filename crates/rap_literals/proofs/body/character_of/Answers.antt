use Rattle.std.proofs.Common.{◌≡◌, ◌∷◌, [], ℕ, List, true, false, slice_get, sym, ◌∙◌, ap, refl, chars}
use Rattle.std.specs.Option.{is_some}
use Rattle.rap_literals.proofs.CharacterValues.{none_of_fault, none_of_more, value_of}
use Rattle.rap_literals.proofs.body.character_of.Goals as goal
use Rattle.rap_literals.proofs.body.character_of.Goals.{After-character}

body_is : (c : After-character) → chars c.args.body.now ≡ c.in-Some.first ∷ c.bump.new.self
body_is c = sym c.new-rest.ensures ∙ c.in-Some.ensures

pub returns-in-Err : goal.returns-in-Err
returns-in-Err c = λ value. rw (body_is (goal.at.returns-in-Err c).After-character) (none_of_fault c.args.mode c.requires _ _ c.character.new.rest c.in-Some.first-test.1 c.in-Err.field-0 c.in-Err.ensures value)

-- what follows is empty or not
some_more : (rest : List ℕ) → true ≡ is_some (slice_get rest 0) → (d : ℕ) × (ds : List ℕ) × (rest ≡ d ∷ ds)
some_more [] e = let wrong : ⊥ = cc in absurd wrong
some_more (d ∷ ds) e = (d, ds, refl)

no_more : (rest : List ℕ) → false ≡ is_some (slice_get rest 0) → rest ≡ []
no_more [] e = refl
no_more (d ∷ ds) e = let wrong : ⊥ = cc in absurd wrong

pub returns-then-is_some : goal.returns-then-is_some
returns-then-is_some c = λ value.
    let more = some_more c.character.new.rest (c.if-is_some.ensures ∙ ap is_some c.first.ensures) in
    rw (body_is (goal.at.returns-then-is_some c).After-character) (none_of_more c.args.mode c.requires _ _ c.character.new.rest c.in-Some.first-test.1 c.in-Ok.c more.0 more.1 more.2 c.in-Ok.ensures value)

pub returns-else-is_some : goal.returns-else-is_some
returns-else-is_some c =
    let none = no_more c.character.new.rest (c.if-is_some.ensures ∙ ap is_some c.first.ensures) in
    rw (body_is (goal.at.returns-else-is_some c).After-character) (value_of c.args.mode c.requires _ _ c.character.new.rest c.in-Some.first-test.1 c.in-Ok.c none c.in-Ok.ensures)
