use Rattle.std.proofs.Common.{ℕ, ◌*◌, ◌^◌, ◌%◌, ◌-◌, count_ones, bit_and, take, ap, ◌∙◌}
use Rattle.std.specs.Simd.Lanes.{chunk}
use Rattle.std.proofs.lemmas.Simd.{ones-mask_l}
use Rattle.rast_document.specs.Indexed.{is_from}
use Rattle.rast_document.proofs.BlockLemmas.{first_mask}
use Rattle.rast_document.proofs.blocks.count_from_of_first.Goals as goal

pub returns : goal.returns
returns c =
    let block = chunk c.args.at 64 c.args.text.now in
    ap (λ (n : ℕ). count_ones (bit_and n (1 * 2 ^ c.args.count % 2 ^ 64 - 1))) c.bits_from.ensures
    ∙ (ap count_ones (first_mask (is_from c.args.least) block c.args.count c.requires.few) ∙ ones-mask_l (is_from c.args.least) (take c.args.count block))
