use Rattle.std.proofs.Common.{◌≡◌, string_bytes}
use Rattle.std.specs.List.{filter_map}
use Rattle.rast_answers.specs.declared.highlights.Subject.TheVariants.{Brackets}
use Rattle.rast_answers.specs.Highlights.{highlight_at}
use Rattle.rast_answers.specs.Rows.{indices_to}
use Rattle.rast_answers.proofs.highlights.highlights_of_pair.Given as goal

abbrev pub invariant-leaves : goal.invariant-leaves
invariant-leaves l =
    l.list.items ≡ filter_map (highlight_at (string_bytes l.document.text) l.elements (Brackets l.pair)) (indices_to l.index)
