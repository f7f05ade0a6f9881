use Rattle.std.proofs.Common.{sym}
use Rattle.std.proofs.lemmas.Bool.{both_ways}
use Rattle.rast_document.proofs.LineLemmas.{end_in_one, end_in_two}
use Rattle.rast_document.proofs.lines.end_before.Goals as goal

pub returns-then-pair : goal.returns-then-pair
returns-then-pair c =
    sym (end_in_two c.args.text.now c.args.start c.args.next c.requires (c.is_pair-pair.ensures.0 c.if-pair.true))

pub returns-else-pair : goal.returns-else-pair
returns-else-pair c =
    sym (end_in_one c.args.text.now c.args.start c.args.next c.requires (λ h. both_ways _ c.if-pair.false (c.is_pair-pair.ensures.1 h)))
