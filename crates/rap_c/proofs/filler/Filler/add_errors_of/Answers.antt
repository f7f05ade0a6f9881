use Rattle.rap_c.proofs.GivenBy.{along}
use Rattle.rap_c.proofs.filler.Filler.add_errors_of.Goals as goal

pub returns : goal.returns
returns c = along _ c.args.self.now c.report_errors.new.sink c.in-Ok.ensures
