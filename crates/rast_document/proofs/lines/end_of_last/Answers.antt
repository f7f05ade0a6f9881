use Rattle.std.proofs.Common.{sym}
use Rattle.rast_document.proofs.LineLemmas.{end_of_last_is}
use Rattle.rast_document.proofs.lines.end_of_last.Goals as goal

pub returns : goal.returns
returns c = sym (end_of_last_is c.args.text.now c.args.start c.requires)
