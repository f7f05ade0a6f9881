use Rattle.std.proofs.Common.{◌+◌, slice_range}
use Rattle.std.proofs.lemmas.List.{take_rest}
use Rattle.rap_lexer.specs.Plain.{after_plain_digits}
use Rattle.rap_lexer.proofs.PlainNumbers.{no_word, plain_number}
use Rattle.rap_lexer.proofs.lexer.plain.number_of.Goals as goal

pub returns-clause-number : goal.returns-clause-number
returns-clause-number c =
    let e = c.as_bytes-bytes.ensures.value in
    let text = c.args.text.now in
    let n = c.in_ok-n.n in
    let digits = rw e at c.in_ok-n.ensures.digits in
    let plain = rw e at c.in_ok-n.ensures.plain in
    let rest = digits.left in
    let end = rw (e, take_rest text n, rest) at c.in_ok-end.ensures.end in
    let some = rw (e, take_rest text n, rest) at c.in_ok-end.ensures.plain in
    let kind = rw (e, take_rest text n, rest) at c.in_ok-end.ensures.kind in
    rw kind (plain_number text n c.in_ok-end.end.len c.utf8.text c.requires plain c.in_ok-n.ensures.positive digits some end)

pub returns-clause-contextual : goal.returns-clause-contextual
returns-clause-contextual c =
    let e = c.as_bytes-bytes.ensures.value in
    let text = c.args.text.now in
    let n = c.in_ok-n.n in
    let digits = rw e at c.in_ok-n.ensures.digits in
    let kind = rw (e, take_rest text n, digits.left) at c.in_ok-end.ensures.kind in
    rw kind (no_word (slice_range text 0 (n + c.in_ok-end.end.len)) (after_plain_digits text))
