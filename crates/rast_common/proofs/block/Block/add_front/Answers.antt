use Rattle.std.proofs.Common.{◌≡◌, ◌≤◌, ◌++◌, length, take, ◌∙◌, ap, rules, arith, refl}
use Rattle.rast_common.proofs.Blocks.{front_of_mid}
use Rattle.rast_common.proofs.block.Block.add_front.Goals as goal

pub returns : goal.returns
returns c =
    let same : c.copy_from_slice.new.self ≡ c.args.bytes.now = c.copy_from_slice.ensures.after in
    let within : c.self.inside.count ≤ length c.self.inside.bytes = search rules in
    let few : c.args.count ≤ length c.copy_from_slice.new.self = omega (arith, ap length same, c.requires.all, c.requires.few) in
    front_of_mid c.self.inside.count _ c.args.count _ c.self.inside.bytes c.copy_from_slice.new.self within few refl
    ∙ (ap (λ l. l ++ take c.args.count c.copy_from_slice.new.self) c.self.view_is
    ∙ ap (λ l. c.args.self.now ++ take c.args.count l) same)
