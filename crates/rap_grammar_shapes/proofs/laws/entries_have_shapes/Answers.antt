use Rattle.rap_grammar_shapes.proofs.EntryRules.{alone_so, roots_so}
use Rattle.rap_grammar_shapes.proofs.laws.entries_have_shapes.Goals as goal

pub returns-clause-roots : goal.returns-clause-roots
returns-clause-roots c = roots_so

pub returns-clause-alone : goal.returns-clause-alone
returns-clause-alone c = alone_so
