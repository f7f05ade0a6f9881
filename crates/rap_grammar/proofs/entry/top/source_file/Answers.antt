use Rattle.std.proofs.Common.{rules}
use Rattle.rap_grammar_facts.proofs.Entry.{grew_source_file}
use Rattle.rap_grammar.proofs.Depth.{ends_run}
use Rattle.rap_grammar.proofs.entry.top.source_file.Goals as goal

pub returns-clause-script : goal.returns-clause-script
returns-clause-script c =
    let r = ends_run c.in_ok-source_file.ensures.script in
    let w = grew_source_file _ _ c.in_ok-source_file.ensures.script in
    search rules

pub returns-clause-tree : goal.returns-clause-tree
returns-clause-tree c = let w = grew_source_file _ _ c.in_ok-source_file.ensures.script in search rules
