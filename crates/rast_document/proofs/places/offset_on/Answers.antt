use Rattle.std.proofs.Common.{ap, length, arith}
use Rattle.rast_document.proofs.LineLemmas.{line_end_le, starts_bound}
use Rattle.rast_document.proofs.places.offset_on.Goals as goal

pub end_of_line-end-requires : goal.end_of_line-end-requires
end_of_line-end-requires c =
    let s = c.args.text.now in
    omega (arith, ap length c.as_bytes.ensures.value, c.requires.start.here, starts_bound s (length s) c.args.place.line c.requires.start.some)

pub reached_from-reached-requires-clause-within : goal.reached_from-reached-requires-clause-within
reached_from-reached-requires-clause-within c =
    let s = c.args.text.now in
    let within = starts_bound s (length s) c.args.place.line c.requires.start.some in
    let same = ap length c.as_bytes.ensures.value in
    let end = line_end_le c.as_bytes.result.now c.args.start (omega (arith, same, c.requires.start.here, within)) in
    omega (arith, same, ap length c.as_bytes-2.ensures.value, c.end_of_line-end.ensures, end)
