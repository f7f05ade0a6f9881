use Rattle.std.proofs.Common.{List, length}
use Rattle.rap_lexer.specs.Escape.{StringReports}
use Rattle.rap_lexer.specs.declared.escape.Fault.{Fault}
use Rattle.rap_lexer.proofs.escape.next_fault.Given as goal

abbrev pub invariant-body : goal.invariant-body
invariant-body l = (faults : List Fault) → StringReports l.mode l.rest faults → StringReports l.mode l.initial.rest faults

abbrev pub decreases-body : goal.decreases-body
decreases-body l = length l.rest
