use Rattle.std.proofs.Common.{◌≡◌, ◌∙◌, length, ap}
use Rattle.rap_lexer.specs.Class.{is_in}
use Rattle.rap_lexer.specs.Run.{run_of}
use Rattle.rap_literals.specs.Number.{class_of}
use Rattle.rap_literals.proofs.Numbers.{digits_border, past_digits}
use Rattle.rap_literals.proofs.digits.after_digits.Goals as goal
use Rattle.rap_literals.proofs.digits.after_digits.Goals.{After-digits_len-n}

taken : (c : After-digits_len-n) → c.digits_len-n.result ≡ length (run_of (is_in (class_of c.args.radix)) c.args.text.now)
taken c = c.digits_len-n.ensures.run ∙ ap (λ l. length (run_of (is_in (class_of c.args.radix)) l)) c.as_bytes.ensures.value

pub range_from-requires : goal.range_from-requires
range_from-requires c = λ _. rw (taken c) (digits_border c.args.radix c.args.text.now c.utf8.text)

pub returns : goal.returns
returns c = c.range_from.ensures.value ∙ past_digits c.args.radix c.args.text.now _ (taken (goal.at.returns c).After-digits_len-n)
