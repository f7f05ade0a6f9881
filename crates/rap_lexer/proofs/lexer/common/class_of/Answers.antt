use Rattle.rap_lexer.proofs.CommonClasses.{lone_row, kind_row, white_row, word_row, end_row, past_row, few_row}
use Rattle.rap_lexer.proofs.lexer.common.class_of.Goals as goal

pub returns-clause-lone : goal.returns-clause-lone
returns-clause-lone c = rw c.from.ensures (lone_row c.args.b c.ranges.b.fits)

pub returns-clause-kind : goal.returns-clause-kind
returns-clause-kind c = rw c.from.ensures (kind_row c.args.b c.ranges.b.fits)

pub returns-clause-white : goal.returns-clause-white
returns-clause-white c = rw c.from.ensures (white_row c.args.b c.ranges.b.fits)

pub returns-clause-word : goal.returns-clause-word
returns-clause-word c = rw c.from.ensures (word_row c.args.b c.ranges.b.fits)

pub returns-clause-end : goal.returns-clause-end
returns-clause-end c = rw c.from.ensures (end_row c.args.b c.ranges.b.fits)

pub returns-clause-past : goal.returns-clause-past
returns-clause-past c = rw c.from.ensures (past_row c.args.b c.ranges.b.fits)

pub returns-clause-few : goal.returns-clause-few
returns-clause-few c = rw c.from.ensures (few_row c.args.b c.ranges.b.fits)
