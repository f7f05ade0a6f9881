use Rattle.std.proofs.Common.{◌≡◌, string_bytes}
use Rattle.std.specs.List.{filter_map}
use Rattle.rast_answers.specs.Folds.{fold_at}
use Rattle.rast_answers.specs.Rows.{indices_to}
use Rattle.rast_answers.proofs.folds.folds.Given as goal

abbrev pub invariant-loop-index : goal.invariant-loop-index
invariant-loop-index l = l.list.items ≡ filter_map (fold_at (string_bytes l.document.text) l.elements) (indices_to l.index)
