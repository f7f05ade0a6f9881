use Rattle.std.proofs.Common.{string_bytes, ap, length, arith}
use Rattle.rast_document.proofs.LineLemmas.{last_from, next_from}
use Rattle.rast_document.proofs.document.Document.line_end.Goals as goal

pub end_before-requires : goal.end_before-requires
end_before-requires c =
    let d = c.args.self.now in
    next_from (string_bytes d.text) c.as_bytes.result.now d.starts.items c.args.line _ _ c.as_bytes.ensures.value d.lines
    (omega (arith, c.len.ensures, c.if-line-len.true, d.starts.ok)) c.index-start.ensures c.index.ensures

pub end_of_last-requires : goal.end_of_last-requires
end_of_last-requires c =
    let d = c.args.self.now in
    last_from (string_bytes d.text) c.as_bytes-else-line-len.result.now d.starts.items c.args.line _ c.as_bytes-else-line-len.ensures.value d.lines
    (omega (arith, c.len.ensures, c.if-line-len.false, d.starts.ok, ap length d.lines, c.requires)) c.index-start.ensures
