use Rattle.rap_lexed.proofs.lexed_str.reported.prefix_note.Goals as goal

pub returns : goal.returns
returns c = rw (c.in_ok-push_str-2.ensures.bytes, c.in_ok-push_str.ensures.bytes, c.in_ok-note.ensures.ok)
