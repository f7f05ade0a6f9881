use Rattle.rap_grammar_rows.proofs.Apart.{IsApart}
use Rattle.rap_grammar_rows.proofs.search.Search.smallest.Given as goal

abbrev pub invariant-nodes : goal.invariant-nodes
invariant-nodes l = IsApart l.tokens l.limit l.found.items
