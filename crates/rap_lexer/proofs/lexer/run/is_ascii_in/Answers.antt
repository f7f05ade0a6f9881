use Rattle.rap_lexer.proofs.AsciiClasses.{starts, continues, goes_on}
use Rattle.rap_lexer.proofs.lexer.run.is_ascii_in.Goals as goal

pub returns-in-IdentStart : goal.returns-in-IdentStart
returns-in-IdentStart c = rw (c.in-IdentStart.is, c.is_ascii_alphabetic.ensures.value) (starts c.args.b)

pub returns-in-IdentContinue : goal.returns-in-IdentContinue
returns-in-IdentContinue c = rw (c.in-IdentContinue.is, c.is_ascii_alphanumeric.ensures.value) (continues c.args.b)

pub returns-in-InvalidContinue : goal.returns-in-InvalidContinue
returns-in-InvalidContinue c = rw (c.in-InvalidContinue.is, c.is_ascii_alphanumeric-in-InvalidContinue.ensures.value) (goes_on c.args.b)
