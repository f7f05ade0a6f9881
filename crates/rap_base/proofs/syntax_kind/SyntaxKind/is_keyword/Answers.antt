use Rattle.std.proofs.Common.{rules, ◌≤◌}
use Rattle.rap_base.specs.NodeKind.{PATH_META}
use Rattle.rap_base.proofs.KeywordLemmas.{is_keyword-by_range}
use Rattle.rap_base.proofs.syntax_kind.SyntaxKind.is_keyword.Goals as goal

pub returns-in-GEN_KW : goal.returns-in-GEN_KW
returns-in-GEN_KW c = let last : c.args.self ≤ PATH_META = search rules in rw (is_keyword-by_range c.args.self c.args.edition last) (search rules)

pub returns-then-le : goal.returns-then-le
returns-then-le c = let last : c.args.self ≤ PATH_META = search rules in rw (is_keyword-by_range c.args.self c.args.edition last) (search rules)

pub returns-else-le : goal.returns-else-le
returns-else-le c = let last : c.args.self ≤ PATH_META = search rules in rw (is_keyword-by_range c.args.self c.args.edition last) (search rules)

pub returns-in-ASYNC_KW : goal.returns-in-ASYNC_KW
returns-in-ASYNC_KW c = let last : c.args.self ≤ PATH_META = search rules in rw (is_keyword-by_range c.args.self c.args.edition last) (search rules)
