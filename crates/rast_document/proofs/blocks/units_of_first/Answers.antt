use Rattle.std.proofs.Common.{take, sym, ap, ◌∙◌}
use Rattle.std.specs.Simd.Lanes.{chunk}
use Rattle.rast_document.specs.declared.encoding.Encoding.{Encoding}
use Rattle.rast_document.specs.Units.{units}
use Rattle.rast_document.proofs.BlockLemmas.{bytes_by, length_of_first}
use Rattle.rast_document.proofs.blocks.units_of_first.Goals as goal

pub returns-in-Utf8 : goal.returns-in-Utf8
returns-in-Utf8 c =
    let first = take c.args.count (chunk c.args.at 64 c.args.text.now) in
    sym (ap (λ (e : Encoding). units e first) c.in-Utf8.is
    ∙ (bytes_by first ∙ length_of_first c.args.text.now c.args.at c.args.count c.requires.within c.requires.few))
