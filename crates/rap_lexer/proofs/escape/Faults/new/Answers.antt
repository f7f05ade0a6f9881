use Rattle.std.proofs.Common.{◌≡◌, true, false, None, sym, ◌∙◌}
use Rattle.rap_lexer.specs.Escape.{is_single}
use Rattle.rap_lexer.proofs.EscapeFaults.{reported_by_single, reported_by_string}
use Rattle.rap_lexer.proofs.EscapeWalks.{reported_is}
use Rattle.rap_lexer.proofs.escape.Faults.new.Goals as goal

pub returns-then-is_single-clause-reported : goal.returns-then-is_single-clause-reported
returns-then-is_single-clause-reported c =
    let e : is_single c.args.mode ≡ true = cc in
    reported_by_single _ _ _ _ e c.character_fault.ensures

pub returns-then-is_single-clause-list : goal.returns-then-is_single-clause-list
returns-then-is_single-clause-list c = reported_is _ _ _ (returns-then-is_single-clause-reported c)

pub returns-then-is_single-clause-only : goal.returns-then-is_single-clause-only
returns-then-is_single-clause-only c = λ others t. reported_is _ _ _ t ∙ sym (returns-then-is_single-clause-list c)

pub returns-else-is_single-clause-reported : goal.returns-else-is_single-clause-reported
returns-else-is_single-clause-reported c =
    let e : is_single c.args.mode ≡ false = cc in
    reported_by_string _ _ None _ e c.new-else-is_single.ensures

pub returns-else-is_single-clause-list : goal.returns-else-is_single-clause-list
returns-else-is_single-clause-list c = reported_is _ _ _ (returns-else-is_single-clause-reported c)

pub returns-else-is_single-clause-only : goal.returns-else-is_single-clause-only
returns-else-is_single-clause-only c = λ others t. reported_is _ _ _ t ∙ sym (returns-else-is_single-clause-list c)
