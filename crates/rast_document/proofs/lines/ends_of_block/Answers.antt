use Rattle.std.proofs.Common.{sym, ◌∙◌, arith}
use Rattle.rast_document.proofs.BlockLemmas.{feeds_end}
use Rattle.rast_document.proofs.lines.ends_of_block.Goals as goal

pub returns-then-count_of-eq0 : goal.returns-then-count_of-eq0
returns-then-count_of-eq0 c =
    omega (arith, c.count_of-then-count_of-eq0.ensures, feeds_end c.args.text.now c.args.at c.requires (sym c.count_of.ensures ∙ c.if-count_of-eq0.true))
