use Rattle.rap_grammar_shapes.proofs.Parts.{shapes_count, shapes_have_parts, shapes_name}
use Rattle.rap_grammar_shapes.proofs.laws.shapes_say.Goals as goal

pub returns-clause-counts : goal.returns-clause-counts
returns-clause-counts c = shapes_count

pub returns-clause-names : goal.returns-clause-names
returns-clause-names c = shapes_name

pub returns-clause-parts : goal.returns-clause-parts
returns-clause-parts c = shapes_have_parts
