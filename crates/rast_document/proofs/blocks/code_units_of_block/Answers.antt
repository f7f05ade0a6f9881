use Rattle.std.proofs.Common.{arith}
use Rattle.std.specs.Simd.Lanes.{chunk}
use Rattle.std.proofs.lemmas.List.Sums.{count_by-le-length}
use Rattle.std.proofs.lemmas.Simd.{length-chunk}
use Rattle.rast_document.specs.Indexed.{is_from}
use Rattle.rast_document.proofs.BlockLemmas.{code_units_by, fewer_from}
use Rattle.rast_document.proofs.blocks.code_units_of_block.Goals as goal

pub returns-then-long-eq0 : goal.returns-then-long-eq0
returns-then-long-eq0 c =
    let block = chunk c.args.at 64 c.args.text.now in
    omega (
      arith,
      c.if-long-eq0.true,
      c.count_from-long.ensures,
      code_units_by block,
      fewer_from 128 192 block (omega arith),
      fewer_from 128 240 block (omega arith),
      length-chunk c.args.at 64 c.args.text.now c.requires,
    )

pub overflow_sub-result : goal.overflow_sub-result
overflow_sub-result c =
    let block = chunk c.args.at 64 c.args.text.now in
    omega (arith, c.count_from-long.ensures, count_by-le-length (is_from 128) block, length-chunk c.args.at 64 c.args.text.now c.requires)

pub overflow_add-result : goal.overflow_add-result
overflow_add-result c =
    let block = chunk c.args.at 64 c.args.text.now in
    omega (arith, c.count_from-first.ensures, count_by-le-length (is_from 192) block, length-chunk c.args.at 64 c.args.text.now c.requires)

pub overflow_add-result-2 : goal.overflow_add-result-2
overflow_add-result-2 c =
    let block = chunk c.args.at 64 c.args.text.now in
    omega (
      arith,
      c.count_from-first.ensures,
      c.count_from-pairs.ensures,
      count_by-le-length (is_from 192) block,
      count_by-le-length (is_from 240) block,
      length-chunk c.args.at 64 c.args.text.now c.requires,
    )

pub returns : goal.returns
returns c =
    let block = chunk c.args.at 64 c.args.text.now in
    omega (
      arith,
      c.count_from-long.ensures,
      c.count_from-first.ensures,
      c.count_from-pairs.ensures,
      code_units_by block,
      count_by-le-length (is_from 128) block,
      length-chunk c.args.at 64 c.args.text.now c.requires,
    )
