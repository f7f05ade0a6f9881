use Rattle.std.proofs.Common.{◌++◌, ◌∷◌, [], ap, sym, ◌∙◌, append_assoc}
use Rattle.rap_lexer.specs.Escape.{message}
use Rattle.rap_lexed.proofs.Messages.{adds_more}
use Rattle.rap_lexed.proofs.lexed_str.reported.report_escapes.Goals as goal

pub faults-preserved : goal.faults-preserved
faults-preserved c =
    let i = c.faults.invariant in
    let one = rw c.message.ensures at c.in_ok-push.ensures in (
      i.0 ++ c.in-Some.fault ∷ [],
      i.1 ∙ (ap (λ l. i.0 ++ l) c.in-Some.ensures.steps ∙ sym (append_assoc i.0 (c.in-Some.fault ∷ []) c.next.new.self)),
      adds_more (λ fault. message fault c.args.mode) c.args.token _ _ _ i.0 c.in-Some.fault i.2 one,
    )
