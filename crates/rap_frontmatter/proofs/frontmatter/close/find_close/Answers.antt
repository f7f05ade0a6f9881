use Rattle.rap_frontmatter.proofs.ScriptClosing.{no_line, found_close}
use Rattle.rap_frontmatter.proofs.frontmatter.close.find_close.Goals as goal

pub returns-then-first : goal.returns-then-first
returns-then-first c = no_line _ _ _ c.first_line-first.ensures c.if-first.true

pub returns-in-Full : goal.returns-in-Full
returns-in-Full c = found_close _ _ _ _ _ c.first_line-first.ensures c.in-Full.ensures
