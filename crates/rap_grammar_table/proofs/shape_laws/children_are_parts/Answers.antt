use Rattle.rap_grammar_table.proofs.Counts.{binaries, bodies, fn_children, have_one_name}
use Rattle.rap_grammar_table.proofs.shape_laws.children_are_parts.Goals as goal

pub returns-clause-names : goal.returns-clause-names
returns-clause-names c = have_one_name

pub returns-clause-functions : goal.returns-clause-functions
returns-clause-functions c = fn_children

pub returns-clause-bodies : goal.returns-clause-bodies
returns-clause-bodies c = bodies

pub returns-clause-binaries : goal.returns-clause-binaries
returns-clause-binaries c = binaries
