use Rattle.std.proofs.Common.{rules}
use Rattle.rap_grammar_facts.proofs.Entry.{grew_macro_stmts}
use Rattle.rap_grammar.proofs.Depth.{ends_run}
use Rattle.rap_grammar.proofs.entry.top.macro_stmts.Goals as goal

pub returns-clause-script : goal.returns-clause-script
returns-clause-script c =
    let r = ends_run c.in_ok-macro_stmts.ensures.script in
    let w = grew_macro_stmts _ _ c.in_ok-macro_stmts.ensures.script in
    search rules

pub returns-clause-tree : goal.returns-clause-tree
returns-clause-tree c = let w = grew_macro_stmts _ _ c.in_ok-macro_stmts.ensures.script in search rules
