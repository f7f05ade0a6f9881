use Rattle.std.proofs.Common.{◌≡◌, ◌++◌, length}
use Rattle.rap_lexed.specs.LexedStr.{AreInOrder}
use Rattle.rap_ranged.specs.Reports.{lexer_reports}
use Rattle.rap_c.proofs.waiting.waiting_of.Given as goal

abbrev pub invariant-errors : goal.invariant-errors
invariant-errors l =
    (goal.iterator-errors).can_next l.token-iterator ×
    (goal.iterator-errors).is_finite l.token-iterator ×
    AreInOrder (length l.lexed.tokens) l.token-iterator ×
    (l.waiting.items ++ lexer_reports l.lexed.tokens l.token-iterator ≡ lexer_reports l.lexed.tokens l.lexed.errors)
