use Rattle.std.proofs.Common.{Option, subst}
use Rattle.rap_core.specs.Derived.{IsTold}
use Rattle.rap_core.specs.declared.listing.Places.{Places}
use Rattle.rast_core.proofs.page.lines_outside.Goals as goal

pub returns-in-Ok-clause-told : goal.returns-in-Ok-clause-told
returns-in-Ok-clause-told c = record {
  places = c.in-Some.places;
  listed = subst (λ (told : Option Places). IsTold c.args.text.now c.args.edition told) c.in-Some.is c.in_ok-places.ensures.told;
  are = c.in-Ok.ensures;
}
