use Rattle.std.proofs.Common.{◌≡◌, ◌++◌, List, map}
use Rattle.rap_lexer.specs.Escape.{message}
use Rattle.rap_lexer.specs.declared.escape.Fault.{Fault}
use Rattle.rap_lexed.specs.About.{about}
use Rattle.rap_lexed.proofs.lexed_str.reported.report_escapes.Given as goal

abbrev pub invariant-faults : goal.invariant-faults
invariant-faults l =
    (done : List Fault)
    × (l.initial.faults ≡ done ++ l.faults)
    × (l.errors.items ≡ l.initial.errors.items ++ about l.token (map (λ fault. message fault l.mode) done))
