use Rattle.rap_literals.proofs.suffixes.quoted_suffix.Goals as goal

pub returns-in-None : goal.returns-in-None
returns-in-None c = λ suffix h. c.in-None.ensures h.mode h.form h.body h.after h.quoted
