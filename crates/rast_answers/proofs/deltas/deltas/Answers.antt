use Rattle.std.proofs.Common.{◌≡◌, ◌∙◌, ap, arith, rules}
use Rattle.std.proofs.lemmas.Grind.{common_steps}
use Rattle.rast_answers.specs.Deltas.{decoded, deltas_from}
use Rattle.rast_answers.proofs.DeltaLaws.{decodes}
use Rattle.rast_answers.proofs.deltas.deltas.Goals as goal

pub returns-clause-decoded : goal.returns-clause-decoded
returns-clause-decoded c = λ h.
    let whole : c.tokens.list.items ≡ deltas_from 0 0 c.args.tokens.now = grind (arith, common_steps) in
    ap (decoded 0 0) whole ∙ decodes 0 0 c.args.tokens.now h
