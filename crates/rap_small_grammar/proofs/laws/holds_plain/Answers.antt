use Rattle.rap_small_grammar.proofs.Larger.{larger}
use Rattle.rap_small_grammar.proofs.laws.holds_plain.Goals as goal

pub returns : goal.returns
returns c = λ category tokens tree d. larger d
