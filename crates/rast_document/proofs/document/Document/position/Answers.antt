use Rattle.std.proofs.Common.{◌≡◌, ℕ, List, string_bytes, min, take, ap, ◌∙◌, length, get_or, arith}
use Rattle.std.proofs.lemmas.List.{get_or_read}
use Rattle.rast_document.specs.Lines.{line_end, line_start}
use Rattle.rast_document.specs.Units.{units}
use Rattle.rast_document.proofs.PlaceLemmas.{at_position, position_from}
use Rattle.rast_document.proofs.document.Document.position.Goals as goal

pub returns-clause-value : goal.returns-clause-value
returns-clause-value c =
    let d = c.args.self.now in
    let s = string_bytes d.text in
    let e = d.encoding in
    let k = c.line_of-line.result in
    let start : c.index-start.result.now ≡ line_start s k =
    get_or_read d.starts.items k _ (omega (arith, ap length d.lines, c.line_of-line.ensures.some)) c.index-start.ensures 0
    ∙ ap (λ (xs : List ℕ). get_or xs k 0) d.lines in
    let until : c.min.result ≡ min c.args.offset (line_end s (line_start s k)) = omega (arith, c.min.ensures, c.line_end-end.ensures) in
    let before = ap (λ (i : ℕ). units e (take i s)) start in
    let after = ap (λ (i : ℕ). units e (take i s)) until in
    position_from e s c.args.offset k c.units_between-character.result c.line_of-line.ensures
    (omega (arith, before, after, c.units_between-character.ensures))

pub returns-clause-means : goal.returns-clause-means
returns-clause-means c = λ boundary outside.
    let d = c.args.self.now in
    let s = string_bytes d.text in
    let e = d.encoding in
    let k = c.line_of-line.result in
    let start : c.index-start.result.now ≡ line_start s k =
    get_or_read d.starts.items k _ (omega (arith, ap length d.lines, c.line_of-line.ensures.some)) c.index-start.ensures 0
    ∙ ap (λ (xs : List ℕ). get_or xs k 0) d.lines in
    let until : c.min.result ≡ min c.args.offset (line_end s (line_start s k)) = omega (arith, c.min.ensures, c.line_end-end.ensures) in
    let before = ap (λ (i : ℕ). units e (take i s)) start in
    let after = ap (λ (i : ℕ). units e (take i s)) until in
    at_position e s c.args.offset k c.units_between-character.result c.line_of-line.ensures
    (omega (arith, before, after, c.units_between-character.ensures))
    boundary outside
