use Rattle.std.proofs.Common.{take, arith}
use Rattle.std.specs.Simd.Lanes.{chunk}
use Rattle.std.proofs.lemmas.List.Sums.{count_by-le-length}
use Rattle.rast_document.specs.Indexed.{is_from}
use Rattle.rast_document.proofs.BlockLemmas.{code_units_by, fewer_from, length_of_first}
use Rattle.rast_document.proofs.blocks.code_units_of_first.Goals as goal

pub returns-then-long-eq0 : goal.returns-then-long-eq0
returns-then-long-eq0 c =
    let first = take c.args.count (chunk c.args.at 64 c.args.text.now) in
    omega (
      arith,
      c.if-long-eq0.true,
      c.count_from_of_first-long.ensures,
      code_units_by first,
      fewer_from 128 192 first (omega arith),
      fewer_from 128 240 first (omega arith),
      length_of_first c.args.text.now c.args.at c.args.count c.requires.within c.requires.few,
    )

pub returns : goal.returns
returns c =
    let first = take c.args.count (chunk c.args.at 64 c.args.text.now) in
    omega (
      arith,
      c.count_from_of_first-long.ensures,
      c.count_from_of_first-first.ensures,
      c.count_from_of_first-pairs.ensures,
      code_units_by first,
      count_by-le-length (is_from 128) first,
      length_of_first c.args.text.now c.args.at c.args.count c.requires.within c.requires.few,
    )
