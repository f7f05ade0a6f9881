use Rattle.std.specs.Simd.Lanes.{chunk}
use Rattle.std.proofs.lemmas.Simd.{length-chunk}
use Rattle.rast_document.proofs.BlockLemmas.{break_mask}
use Rattle.rast_document.proofs.blocks.breaks_of.Goals as goal

pub returns : goal.returns
returns c = break_mask (chunk c.args.at 64 c.args.text.now) (length-chunk c.args.at 64 c.args.text.now c.requires)
