use Rattle.std.specs.Simd.Lanes.{chunk}
use Rattle.std.proofs.lemmas.Simd.{length-chunk}
use Rattle.rast_document.proofs.BlockLemmas.{from_mask}
use Rattle.rast_document.proofs.blocks.bits_from.Goals as goal

pub returns : goal.returns
returns c = from_mask c.args.least (chunk c.args.at 64 c.args.text.now) (length-chunk c.args.at 64 c.args.text.now c.requires)
