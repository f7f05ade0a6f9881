use Rattle.rap_lexer.proofs.RestOfStrings.{within, further, border, taken}
use Rattle.rap_lexer.proofs.lexer.literal.string_from.Goals as goal

pub overflow_sub-result : goal.overflow_sub-result
overflow_sub-result c =
    let h = rw (c.new-cursor.ensures, c.range_from.ensures.value) at c.string-token.ensures in
    within c.args.text.now c.args.at c.string-token.result c.string-token.new.cursor c.as_str.result.now c.utf8.text c.requires h c.as_str.ensures.text

pub returns-clause-token : goal.returns-clause-token
returns-clause-token c =
    let h = rw (c.new-cursor.ensures, c.range_from.ensures.value) at c.string-token.ensures in
    taken c.args.text.now c.args.at c.string-token.result c.string-token.new.cursor c.as_str.result.now c.utf8.text c.requires h c.as_str.ensures.text c.as_str.ensures.same

pub returns-clause-further : goal.returns-clause-further
returns-clause-further c =
    let h = rw (c.new-cursor.ensures, c.range_from.ensures.value) at c.string-token.ensures in
    further c.args.text.now c.args.at c.string-token.result c.string-token.new.cursor c.as_str.result.now c.utf8.text c.requires h c.as_str.ensures.text

pub returns-clause-border : goal.returns-clause-border
returns-clause-border c =
    let h = rw (c.new-cursor.ensures, c.range_from.ensures.value) at c.string-token.ensures in
    border c.args.text.now c.args.at c.string-token.result c.string-token.new.cursor c.as_str.result.now c.utf8.text c.requires h c.as_str.ensures.text c.as_str.utf8
