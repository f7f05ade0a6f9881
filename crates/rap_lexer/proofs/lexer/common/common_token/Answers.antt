use Rattle.rap_lexer.proofs.CommonTokens.{common_kind}
use Rattle.rap_lexer.proofs.lexer.common.common_token.Goals as goal

pub returns-in-Some-clause-token : goal.returns-in-Some-clause-token
returns-in-Some-clause-token c = (c.in-Some.ensures.token c.args.edition).token

pub returns-in-Some-clause-kind : goal.returns-in-Some-clause-kind
returns-in-Some-clause-kind c = common_kind c.args.edition c.args.text.now c.in-Some.token.kind c.in-Some.token.len (c.in-Some.ensures.token c.args.edition)

pub returns-in-Some-clause-no_string : goal.returns-in-Some-clause-no_string
returns-in-Some-clause-no_string c = (c.in-Some.ensures.token c.args.edition).no_string

pub returns-in-Some-clause-positive : goal.returns-in-Some-clause-positive
returns-in-Some-clause-positive c = (c.in-Some.ensures.token c.args.edition).positive

pub returns-in-Some-clause-border : goal.returns-in-Some-clause-border
returns-in-Some-clause-border c = (c.in-Some.ensures.token c.args.edition).border

pub returns-in-Some-clause-common : goal.returns-in-Some-clause-common
returns-in-Some-clause-common c = (c.in-Some.ensures.token c.args.edition).common
