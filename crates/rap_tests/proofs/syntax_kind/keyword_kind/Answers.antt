use Rattle.rap_base.proofs.KeywordLemmas.{from_keyword-named}
use Rattle.rap_tests.proofs.syntax_kind.keyword_kind.Goals as goal

pub returns : goal.returns
returns c = rw c.from_keyword.ensures (from_keyword-named c.args.text.now c.args.edition)
