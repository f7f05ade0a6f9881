use Rattle.std.proofs.Common.{w8}
use Rattle.std.proofs.lemmas.Simd.{below_from_Fits}
use Rattle.rap_lexer.proofs.Lanes.{white_lanes}
use Rattle.rap_lexer.proofs.lexer.lanes.not_any_white.Goals as goal

pub returns : goal.returns
returns c = white_lanes c.args.bytes c.fits-bytes.0 (below_from_Fits w8 c.args.bytes c.fits-bytes.1)
