use Rattle.std.proofs.Common.{string_bytes}
use Rattle.rast_document.proofs.PlaceLemmas.{in_order}
use Rattle.rast_document.proofs.document.Document.text_after.Goals as goal

pub replaced-requires-clause-rising : goal.replaced-requires-clause-rising
replaced-requires-clause-rising c =
    let d = c.args.self.now in
    let is = c.in-Some-range.ensures.found in
    in_order d.encoding (string_bytes d.text) c.in-Some.span.start c.in-Some.span.end c.in-Some-range.from c.in-Some-range.to is.order is.start is.end
