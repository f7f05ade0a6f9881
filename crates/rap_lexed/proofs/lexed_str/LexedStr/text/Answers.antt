use Rattle.std.proofs.Common.{◌∙◌}
use Rattle.rap_lexed.proofs.Tokens.{text_between}
use Rattle.rap_lexed.proofs.lexed_str.LexedStr.text.Goals as goal

pub returns-clause-token : goal.returns-clause-token
returns-clause-token c = c.range_text.ensures ∙ text_between _ c.args.i c.requires
