use Rattle.std.proofs.Common.{◌∷◌, [], sym, ◌∙◌, refl}
use Rattle.rap_lexed.specs.Reported.{prefix_note}
use Rattle.rap_lexed.proofs.Messages.{reports_other}
use Rattle.rap_lexed.proofs.lexed_str.reported.report_remark.Goals as goal

pub returns-then-has_note : goal.returns-then-has_note
returns-then-has_note c =
    let noted = sym c.has_note.ensures ∙ c.if-has_note.true in
    let one = rw (c.as_str.ensures.value, c.in_ok-note.ensures) at c.in_ok-push.ensures in
    (prefix_note c.args.text.now ∷ [], reports_other c.args.after_open c.args.text.now c.args.remark _ (sym c.checked_mode.ensures ∙ c.in_default.is) (rw noted refl), one)
