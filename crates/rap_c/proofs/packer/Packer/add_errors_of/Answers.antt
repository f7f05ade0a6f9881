use Rattle.rap_c.proofs.Packed.{pack_along}
use Rattle.rap_c.proofs.packer.Packer.add_errors_of.Goals as goal

pub returns : goal.returns
returns c = pack_along _ c.args.self.now c.report_errors.new.sink c.in-Ok.ensures
