use Rattle.std.proofs.Common.{arith}
use Rattle.std.specs.Simd.Lanes.{chunk}
use Rattle.std.proofs.lemmas.List.Sums.{count_by-le-length}
use Rattle.std.proofs.lemmas.Simd.{length-chunk}
use Rattle.rast_document.specs.Indexed.{is_from}
use Rattle.rast_document.proofs.BlockLemmas.{characters_by}
use Rattle.rast_document.proofs.blocks.characters_of_block.Goals as goal

pub overflow_sub-result : goal.overflow_sub-result
overflow_sub-result c =
    let block = chunk c.args.at 64 c.args.text.now in
    omega (arith, c.count_from-long.ensures, count_by-le-length (is_from 128) block, length-chunk c.args.at 64 c.args.text.now c.requires)

pub overflow_add-result : goal.overflow_add-result
overflow_add-result c =
    let block = chunk c.args.at 64 c.args.text.now in
    omega (arith, c.count_from-first.ensures, count_by-le-length (is_from 192) block, length-chunk c.args.at 64 c.args.text.now c.requires)

pub returns : goal.returns
returns c =
    let block = chunk c.args.at 64 c.args.text.now in
    omega (
      arith,
      c.count_from-long.ensures,
      c.count_from-first.ensures,
      characters_by block,
      count_by-le-length (is_from 128) block,
      length-chunk c.args.at 64 c.args.text.now c.requires,
    )
