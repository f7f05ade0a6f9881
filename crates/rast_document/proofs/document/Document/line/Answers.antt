use Rattle.std.proofs.Common.{string_bytes, sym}
use Rattle.rast_document.proofs.LineLemmas.{line_found}
use Rattle.rast_document.proofs.document.Document.line.Goals as goal

pub returns : goal.returns
returns c =
    let on = c.line_of.ensures in
    sym (line_found (string_bytes c.args.self.now.text) c.args.offset c.line_of.result on.within on.some on.from on.next)
