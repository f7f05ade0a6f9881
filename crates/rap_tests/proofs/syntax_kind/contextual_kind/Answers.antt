use Rattle.rap_base.proofs.KeywordLemmas.{from_contextual_keyword-named}
use Rattle.rap_tests.proofs.syntax_kind.contextual_kind.Goals as goal

pub returns : goal.returns
returns c = rw c.from_contextual_keyword.ensures (from_contextual_keyword-named c.args.text.now c.args.edition)
