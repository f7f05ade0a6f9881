use Rattle.rap_grammar_shapes.proofs.Fits.{rows_fit}
use Rattle.rap_grammar_shapes.proofs.laws.rows_fit.Goals as goal

pub returns : goal.returns
returns c = rows_fit
