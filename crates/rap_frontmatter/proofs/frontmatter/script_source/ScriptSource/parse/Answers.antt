use Rattle.rap_frontmatter.proofs.ScriptAnswers.{only_script, only_fault}
use Rattle.rap_frontmatter.proofs.ScriptSpans.{shown_at_borders}
use Rattle.rap_frontmatter.proofs.frontmatter.script_source.ScriptSource.parse.Goals as goal

pub returns-clause-only : goal.returns-clause-only
returns-clause-only c = only_script _ _ c.source_of.ensures.accepted

pub returns-clause-only_fault : goal.returns-clause-only_fault
returns-clause-only_fault c = only_fault _ _ c.source_of.ensures.refused

pub returns-clause-fault_borders : goal.returns-clause-fault_borders
returns-clause-fault_borders c = shown_at_borders _ _ c.utf8.raw c.source_of.ensures.refused
