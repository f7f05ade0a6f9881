use Rattle.std.proofs.Common.{count_ones, ap, ◌∙◌}
use Rattle.std.specs.Simd.Lanes.{chunk}
use Rattle.std.proofs.lemmas.Simd.{ones-mask_l}
use Rattle.rast_document.specs.Indexed.{is_from}
use Rattle.rast_document.proofs.blocks.count_from.Goals as goal

pub returns : goal.returns
returns c = ap count_ones c.bits_from.ensures ∙ ones-mask_l (is_from c.args.least) (chunk c.args.at 64 c.args.text.now)
