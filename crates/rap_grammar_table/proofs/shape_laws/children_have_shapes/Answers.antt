use Rattle.rap_grammar_table.proofs.Counts.{have_counts}
use Rattle.rap_grammar_table.proofs.ShapedTrees.{have_shapes}
use Rattle.rap_grammar_table.proofs.shape_laws.children_have_shapes.Goals as goal

pub returns-clause-shapes : goal.returns-clause-shapes
returns-clause-shapes c = have_shapes

pub returns-clause-counts : goal.returns-clause-counts
returns-clause-counts c = have_counts
