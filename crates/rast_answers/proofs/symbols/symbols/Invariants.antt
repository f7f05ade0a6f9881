use Rattle.std.proofs.Common.{◌≡◌}
use Rattle.std.specs.List.{filter_map}
use Rattle.rast_answers.specs.Rows.{indices_to}
use Rattle.rast_answers.specs.Symbols.{symbol_at}
use Rattle.rast_answers.proofs.symbols.symbols.Given as goal

abbrev pub invariant-loop-index : goal.invariant-loop-index
invariant-loop-index l = l.list.items ≡ filter_map (symbol_at l.elements) (indices_to l.index)
