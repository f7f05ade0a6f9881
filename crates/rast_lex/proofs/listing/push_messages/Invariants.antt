use Rattle.std.proofs.Common.{◌≡◌, ◌++◌, string_bytes}
use Rattle.rast_lex.specs.Listed.{message_lines}
use Rattle.rast_lex.proofs.listing.push_messages.Given as goal

abbrev pub invariant-errors : goal.invariant-errors
invariant-errors l =
    (goal.iterator-errors).can_next l.token-iterator ×
    (goal.iterator-errors).is_finite l.token-iterator ×
    (string_bytes l.lines ++ message_lines l.token-iterator ≡ string_bytes l.fn.lines ++ message_lines l.fn.lexed.errors)
