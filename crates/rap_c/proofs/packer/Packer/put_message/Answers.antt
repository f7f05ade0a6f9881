use Rattle.std.proofs.Common.{rules, refl}
use Rattle.rap_c.proofs.Packed.{pack_message}
use Rattle.rap_c.proofs.packer.Packer.put_message.Goals as goal

pub returns : goal.returns
returns c =
    pack_message 3 _ _ c.args.text.now c.args.self.now c.put.new.self c.put-2.new.self c.put-3.new.self _ c.put.ensures
    (rw c.narrow.ensures at c.put-2.ensures) (rw c.narrow-2.ensures at c.put-3.ensures) refl (search rules) refl (search rules) (record { words = refl; messages = refl })
