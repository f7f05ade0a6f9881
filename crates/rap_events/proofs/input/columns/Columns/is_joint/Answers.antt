use Rattle.std.proofs.Common.{◌<◌, ◌/◌, ◌%◌, ◌^◌, ◌==◌, length, refl, ap, ◌∙◌, arith}
use Rattle.std.proofs.lemmas.List.{get_or_default}
use Rattle.std.specs.Int.Bits.{bit_and}
use Rattle.rap_base.proofs.Bits.{bit-read}
use Rattle.rap_events.proofs.input.columns.Columns.is_joint.Goals as goal

pub returns : goal.returns
returns c =
    let words = c.args.self.now.joints.items in
    let within : c.args.place / 64 < length words = omega (arith, c.requires) in
    ap (λ word. bit_and (word / 2 ^ (c.args.place % 64)) 1 == 1) (c.index.ensures ∙ get_or_default words (c.args.place / 64) _ 0 within)
    ∙ bit-read words c.args.place c.args.place refl
