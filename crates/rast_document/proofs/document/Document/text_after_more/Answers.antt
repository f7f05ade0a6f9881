use Rattle.std.proofs.Common.{string_bytes, arith}
use Rattle.rast_document.proofs.AgreeLemmas.{agree_after}
use Rattle.rast_document.proofs.PlaceLemmas.{in_order}
use Rattle.rast_document.proofs.document.Document.text_after_more.Goals as goal

pub replaced-requires-clause-rising : goal.replaced-requires-clause-rising
replaced-requires-clause-rising c =
    let d = c.args.self.now in
    let is = c.in-Some-range_in.ensures.found in
    in_order d.encoding c.args.text.now c.in-Some.span.start c.in-Some.span.end c.in-Some-range_in.from c.in-Some-range_in.to is.order is.start is.end

pub returns-clause-agree : goal.returns-clause-agree
returns-clause-agree c =
    let d = c.args.self.now in
    let is = c.in-Some-range_in.ensures.found in
    agree_after (string_bytes d.text) c.args.text.now (string_bytes c.in_ok-replaced.field-0) c.args.change.now.text.now c.args.same
    c.in-Some-range_in.from c.in-Some-range_in.to c.min.result c.requires is.start.boundary.0 c.in_ok-replaced.ensures
    (omega (arith, c.min.ensures)) (omega (arith, c.min.ensures))
