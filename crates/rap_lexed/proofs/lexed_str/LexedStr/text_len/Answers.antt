use Rattle.std.proofs.Common.{arith}
use Rattle.rap_lexed.proofs.Tokens.{start_of_next}
use Rattle.rap_lexed.proofs.lexed_str.LexedStr.text_len.Goals as goal

pub overflow_sub-result : goal.overflow_sub-result
overflow_sub-result c = omega (arith, start_of_next _ c.args.i c.requires, c.text_range-range.ensures.start, c.text_range-range.ensures.end)

pub returns : goal.returns
returns c = omega (arith, start_of_next _ c.args.i c.requires, c.text_range-range.ensures.start, c.text_range-range.ensures.end)
