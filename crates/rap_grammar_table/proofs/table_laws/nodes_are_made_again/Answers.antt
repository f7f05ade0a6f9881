use Rattle.rap_grammar_table.proofs.Again.{made_again}
use Rattle.rap_grammar_table.proofs.table_laws.nodes_are_made_again.Goals as goal

pub returns : goal.returns
returns c = made_again
