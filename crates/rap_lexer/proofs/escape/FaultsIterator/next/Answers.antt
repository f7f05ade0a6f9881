use Rattle.std.proofs.Common.{◌≡◌, false}
use Rattle.rap_lexer.specs.Escape.{is_single}
use Rattle.rap_lexer.proofs.EscapeFaults.{step_of_list, progress}
use Rattle.rap_lexer.proofs.escape.FaultsIterator.next.Goals as goal

pub returns-else-is_single-clause-steps : goal.returns-else-is_single-clause-steps
returns-else-is_single-clause-steps c =
    let e : is_single c.self.inside.mode ≡ false = cc in
    step_of_list _ _ c.next_fault.new.rest _ _ _ e c.self.view_is c.next_fault.ensures

pub returns-else-is_single-clause-goes : goal.returns-else-is_single-clause-goes
returns-else-is_single-clause-goes c = progress _ _ _ (returns-else-is_single-clause-steps c)
