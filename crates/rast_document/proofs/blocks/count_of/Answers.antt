use Rattle.std.proofs.Common.{eqb, count_ones, lit≤, w8, ap, ◌∙◌}
use Rattle.std.specs.Simd.Lanes.{chunk}
use Rattle.std.proofs.lemmas.Simd.{bitmask_splat, length-chunk, ones-mask_l}
use Rattle.rast_document.specs.Indexed.{is_byte}
use Rattle.rast_document.proofs.blocks.count_of.Goals as goal

pub returns : goal.returns
returns c =
    let block = chunk c.args.at 64 c.args.text.now in
    ap count_ones (bitmask_splat w8 eqb block 64 c.args.byte (length-chunk c.args.at 64 c.args.text.now c.requires) (lit≤ tt))
    ∙ ones-mask_l (is_byte c.args.byte) block
