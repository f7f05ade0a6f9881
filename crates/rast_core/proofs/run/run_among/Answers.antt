use Rattle.std.proofs.Common.{◌++◌, Option, subst}
use Rattle.std.specs.Prelude.{MatchOption, codes}
use Rattle.rap_core.specs.Derived.{IsDerived}
use Rattle.rast_core.specs.Among.{shows}
use Rattle.rast_core.specs.Page.{AreLines}
use Rattle.rast_core.specs.declared.page.Lines.{Lines}
use Rattle.rast_core.proofs.run.run_among.Goals as goal

pub returns-in-Some : goal.returns-in-Some
returns-in-Some g c =
    let text = c.args.text.now in
    let P : Option Lines → Type 0 = λ told. MatchOption told (IsDerived text c.args.edition)
    (AreLines (c.args.file.now ++ codes ":") text c.args.edition) in
    shows c.in-Some.lines (subst P c.in-Some.is c.in-Ok.ensures.told) c.show_among.ensures
