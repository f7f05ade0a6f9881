use Rattle.std.proofs.Common.{◌≡◌, ◌≢◌, ◌∷◌, List, ℕ, ◌∙◌, sym, slice_get, Bool, true, false, if◌then◌else◌, is_some, Ok, []}
use Rattle.std.specs.Str.{chars}
use Rattle.rap_lexer.specs.Escape.{Character, CharacterReports}
use Rattle.rap_lexer.specs.Escape.CharacterReports.{empty, bare_return, faulty, more, one}
use Rattle.rap_lexer.specs.declared.escape.Mode.{Mode}
use Rattle.rap_lexer.specs.declared.escape.Fault.TheVariants.{MoreThanOneChar}
use Rattle.rap_lexer.proofs.escape.character_fault.Goals as goal
use Rattle.rap_lexer.proofs.escape.character_fault.Goals.{After-character}

pub returns-in-None : goal.returns-in-None
returns-in-None c = rw (← c.new-rest.ensures, c.in-None.ensures.taken.0) empty

pub returns-in-Some-eq13 : goal.returns-in-Some-eq13
returns-in-Some-eq13 c = let a = c.in-Some-eq13 in rw (← c.new-rest.ensures, a.ensures.taken, a.field-0-test) (bare_return _)

body_is : (c : After-character) → chars c.args.body.now ≡ c.in-Some.c ∷ c.bump.new.self
body_is c = sym c.new-rest.ensures ∙ c.in-Some.ensures.taken

no_return : (c : After-character) → (cs : List ℕ) → c.in-Some.c ∷ c.bump.new.self ≢ 13 ∷ cs
no_return c cs e = let f : c.in-Some.c ≡ 13 = cc in c.in-Some.c-test.1 f

pub returns-in-Err : goal.returns-in-Err
returns-in-Err c =
    let d = (goal.at.returns-in-Err c).After-character in
    rw (body_is d) (faulty _ _ _ (no_return d) c.in-Err.ensures)

-- what follows a character without a fault
one_or_more : (mode : Mode) (body rest : List ℕ) (value : ℕ) (more_follows : Bool) → ((cs : List ℕ) → body ≢ 13 ∷ cs) → Character mode body (Ok value) rest → more_follows ≡ is_some (slice_get rest 0) → CharacterReports mode body (if more_follows then MoreThanOneChar ∷ [] else [])
one_or_more mode body [] value b n k e = rw e (one body value n k)
one_or_more mode body (c ∷ rest) value b n k e = rw e (more body value c rest n k)

pub returns-in-Ok : goal.returns-in-Ok
returns-in-Ok c = let d = (goal.at.returns-in-Ok c).After-character in let e = c.is_some.ensures in let f = c.if-is_some.true in
    let e : true ≡ is_some (slice_get c.character.new.rest 0) = cc in
    rw (body_is d) (one_or_more _ _ _ _ true (no_return d) c.in-Ok.ensures e)

pub returns-in-Ok-2 : goal.returns-in-Ok-2
returns-in-Ok-2 c =
    let d = (goal.at.returns-in-Ok-2 c).After-character in
    let e : false ≡ is_some (slice_get c.character.new.rest 0) = cc in
    rw (body_is d) (one_or_more _ _ _ _ false (no_return d) c.in-Ok.ensures e)
