use Rattle.std.proofs.Common.{string_bytes, ap, length, arith}
use Rattle.rast_document.proofs.AgreeLemmas.{kept_line}
use Rattle.rast_document.proofs.PlaceLemmas.{start_from}
use Rattle.rast_document.proofs.document.Document.range_in.Goals as goal

pub range_of-requires-clause-known : goal.range_of-requires-clause-known
range_of-requires-clause-known c =
    let d = c.args.self.now in
    let s = string_bytes d.text in
    let known = c.line_before-known in
    let here = start_from s d.starts.items known.result c.index.result.now d.lines (omega (arith, known.ensures.some, ap length d.lines)) c.index.ensures in
    kept_line s c.args.text.now c.args.same known.result c.index.result.now c.requires known.ensures.some here known.ensures.before
