use Rattle.std.proofs.Common.{ℕ, Option, ap, length, subst}
use Rattle.rap_core.specs.Derived.{IsTold}
use Rattle.rap_core.specs.declared.listing.Places.{Places}
use Rattle.rap_c.specs.Derived.{outside}
use Rattle.rap_c.specs.declared.derived.RapCoreAnswer.{RapCoreAnswer}
use Rattle.rap_c.proofs.derived.fill_core.Goals as goal

pub returns-clause-told : goal.returns-clause-told
returns-clause-told c =
    let size = length c.args.text.now in
    let told = subst (λ (told : Option Places). IsTold c.args.text.now c.args.edition told) c.in-Some.is c.in-Ok.ensures.told in
    let answer_of : ℕ → RapCoreAnswer = λ n. record { status = 0; derived = 0; places = n; used = size } in
    outside c.in-Some.outside told c.in_ok-places.ensures.filled (ap answer_of c.in_ok-places.ensures.count)
