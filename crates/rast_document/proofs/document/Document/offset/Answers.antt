use Rattle.std.proofs.Common.{◌<◌, string_bytes, ap, length, arith}
use Rattle.rast_document.specs.Lines.{line_starts}
use Rattle.rast_document.proofs.LineLemmas.{line_end_le, starts_bound}
use Rattle.rast_document.proofs.document.Document.offset.Goals as goal

pub reached-reached-requires-clause-within : goal.reached-reached-requires-clause-within
reached-reached-requires-clause-within c =
    let d = c.args.self.now in
    let s = string_bytes d.text in
    let k = c.args.place.line in
    let line : k < length (line_starts s) = omega (arith, c.if-place-len.false, c.len.ensures, d.starts.ok, ap length d.lines) in
    omega (arith, c.line_end-end.ensures, line_end_le s _ (starts_bound s (length s) k line))
