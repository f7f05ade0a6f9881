use Rattle.std.proofs.Common.{◌≡◌, ◌++◌, map}
use Rattle.std.specs.Vec.Iter.{into_iter_items}
use Rattle.syntax_tree.specs.RangedMessages.{ranged_message}
use Rattle.syntax_tree.proofs.report.all_placed.Given as goal

abbrev pub invariant-reports : goal.invariant-reports
invariant-reports l =
    (goal.iterator-reports).can_next l.report-iterator ×
    (goal.iterator-reports).is_finite l.report-iterator ×
    (l.messages.items ++ map (ranged_message l.fn.root.children) (into_iter_items l.report-iterator) ≡ map (ranged_message l.fn.root.children) l.fn.reports.items)
