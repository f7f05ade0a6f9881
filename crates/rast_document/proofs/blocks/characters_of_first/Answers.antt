use Rattle.std.proofs.Common.{take, arith}
use Rattle.std.specs.Simd.Lanes.{chunk}
use Rattle.std.proofs.lemmas.List.Sums.{count_by-le-length}
use Rattle.rast_document.specs.Indexed.{is_from}
use Rattle.rast_document.proofs.BlockLemmas.{characters_by, length_of_first}
use Rattle.rast_document.proofs.blocks.characters_of_first.Goals as goal

pub returns : goal.returns
returns c =
    let first = take c.args.count (chunk c.args.at 64 c.args.text.now) in
    omega (
      arith,
      c.count_from_of_first-long.ensures,
      c.count_from_of_first-first.ensures,
      characters_by first,
      count_by-le-length (is_from 128) first,
      length_of_first c.args.text.now c.args.at c.args.count c.requires.within c.requires.few,
    )
