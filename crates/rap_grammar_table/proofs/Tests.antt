-- The names of the tests that an answer opens to compute with scripts, beside the scripts.
use Rattle.rap_grammar_scripts.specs.EffectBlocks as effect_blocks
use Rattle.rap_grammar_scripts.specs.Postfix as postfix
use Rattle.rap_grammar_scripts.specs.Ranges as ranges

unfoldable pub tests : Unit {0}
unfolding effect_blocks.is_effect_block postfix.is_method_call ranges.has_range_end
tests = tt
