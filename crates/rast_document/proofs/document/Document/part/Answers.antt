use Rattle.std.proofs.Common.{◌≡◌, ℕ, List, string_bytes, min, take, ap, ◌∙◌, length, get_or, arith}
use Rattle.std.proofs.lemmas.List.{get_or_read}
use Rattle.rast_document.specs.Lines.{line_end, line_start}
use Rattle.rast_document.specs.Units.{units}
use Rattle.rast_document.proofs.LineLemmas.{line_end_le, starts_bound}
use Rattle.rast_document.proofs.PartLemmas.{line_from, part_units}
use Rattle.rast_document.proofs.PlaceLemmas.{position_from}
use Rattle.rast_document.proofs.document.Document.part.Goals as goal

pub returns-clause-end : goal.returns-clause-end
returns-clause-end c =
    let s = string_bytes c.args.self.now.text in
    omega (arith, c.min-to.ensures, c.max.ensures, c.line_end-stop.ensures, line_from s c.args.start c.line_of-line.result c.line_of-line.ensures)

pub returns-clause-position : goal.returns-clause-position
returns-clause-position c =
    let d = c.args.self.now in
    let s = string_bytes d.text in
    let e = d.encoding in
    let k = c.line_of-line.result in
    let start : c.index-begin.result.now ≡ line_start s k =
    get_or_read d.starts.items k _ (omega (arith, ap length d.lines, c.line_of-line.ensures.some)) c.index-begin.ensures 0
    ∙ ap (λ (xs : List ℕ). get_or xs k 0) d.lines in
    let until : c.min.result ≡ min c.args.start (line_end s (line_start s k)) = omega (arith, c.min.ensures, c.line_end-stop.ensures) in
    let before = ap (λ (i : ℕ). units e (take i s)) start in
    let after = ap (λ (i : ℕ). units e (take i s)) until in
    position_from e s c.args.start k c.units_between-character.result c.line_of-line.ensures
    (omega (arith, before, after, c.units_between-character.ensures))

pub returns-clause-units : goal.returns-clause-units
returns-clause-units c =
    let d = c.args.self.now in
    let s = string_bytes d.text in
    let e = d.encoding in
    let k = c.line_of-line.result in
    let start : c.index-begin.result.now ≡ line_start s k =
    get_or_read d.starts.items k _ (omega (arith, ap length d.lines, c.line_of-line.ensures.some)) c.index-begin.ensures 0
    ∙ ap (λ (xs : List ℕ). get_or xs k 0) d.lines in
    let until : c.min.result ≡ min c.args.start (line_end s (line_start s k)) = omega (arith, c.min.ensures, c.line_end-stop.ensures) in
    let before = ap (λ (i : ℕ). units e (take i s)) start in
    let after = ap (λ (i : ℕ). units e (take i s)) until in
    part_units e s c.args.start k c.min-to.result c.units_between-character.result c.units_between-units.result c.line_of-line.ensures
    (omega (arith, c.min-to.ensures, c.max.ensures, c.requires.rising))
    (omega (arith, c.min-to.ensures, c.max.ensures, c.line_end-stop.ensures, line_from s c.args.start k c.line_of-line.ensures))
    (omega (arith, before, after, c.units_between-character.ensures))
    c.units_between-units.ensures

pub units_between-units-requires-clause-within : goal.units_between-units-requires-clause-within
units_between-units-requires-clause-within c =
    let s = string_bytes c.args.self.now.text in
    let k = c.line_of-line.result in
    omega (
      arith,
      c.min-to.ensures,
      c.max.ensures,
      c.line_end-stop.ensures,
      c.requires.within,
      line_end_le s (line_start s k) (starts_bound s (length s) k c.line_of-line.ensures.some),
    )
