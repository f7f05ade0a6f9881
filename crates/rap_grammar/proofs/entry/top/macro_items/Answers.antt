use Rattle.std.proofs.Common.{rules, false}
use Rattle.rap_grammar_facts.proofs.Modules.{grew_mod_contents}
use Rattle.rap_grammar.proofs.Depth.{ends_run}
use Rattle.rap_grammar.proofs.entry.top.macro_items.Goals as goal

pub returns-clause-script : goal.returns-clause-script
returns-clause-script c =
    let r = ends_run c.in_ok-macro_items.ensures.script in
    let w = grew_mod_contents false _ _ c.in_ok-macro_items.ensures.script in
    search rules

pub returns-clause-tree : goal.returns-clause-tree
returns-clause-tree c = let w = grew_mod_contents false _ _ c.in_ok-macro_items.ensures.script in search rules
