use Rattle.std.proofs.Common.{sym, ap, ◌∙◌}
use Rattle.std.specs.Simd.Lanes.{chunk}
use Rattle.std.proofs.lemmas.Simd.{length-chunk}
use Rattle.rast_document.specs.declared.encoding.Encoding.{Encoding}
use Rattle.rast_document.specs.Units.{units}
use Rattle.rast_document.proofs.BlockLemmas.{bytes_by}
use Rattle.rast_document.proofs.blocks.units_of_block.Goals as goal

pub returns-in-Utf8 : goal.returns-in-Utf8
returns-in-Utf8 c =
    let block = chunk c.args.at 64 c.args.text.now in
    sym (ap (λ (e : Encoding). units e block) c.in-Utf8.is ∙ (bytes_by block ∙ length-chunk c.args.at 64 c.args.text.now c.requires))
