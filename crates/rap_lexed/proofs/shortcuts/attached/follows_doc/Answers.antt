use Rattle.std.proofs.Common.{sym, ◌∙◌, arith}
use Rattle.rap_lexed.proofs.Tails.{doc-before}
use Rattle.rap_lexed.proofs.shortcuts.attached.follows_doc.Goals as goal

pub returns-then-start-i : goal.returns-then-start-i
returns-then-start-i c = c.looks_like_doc.ensures ∙ sym (doc-before c.args.lexed.now.tokens c.args.start c.args.i c.if-start-i.true (omega (arith, c.requires.inside)))
