use Rattle.std.proofs.Common.{Err, ap}
use Rattle.ra_ap_parser.proofs.Parsed.{headed, left_alone}
use Rattle.ra_ap_parser.proofs.whole_text.parse_text.Goals as goal

pub returns-in-Ok-intersperse_trivia-clause-parsed : goal.returns-in-Ok-intersperse_trivia-clause-parsed
returns-in-Ok-intersperse_trivia-clause-parsed g c =
    headed g.S.StrSink.takes c.args.text.now c.args.edition c.args.entry c.in-Ok.parsed.lexed c.in-Ok.parsed.output c.in-Ok-intersperse_trivia.whole _ _
    c.in-Ok.ensures.parsed c.in-Ok-intersperse_trivia.ensures.steps c.in-Ok-intersperse_trivia.ensures.answer c.in-Ok-intersperse_trivia.ensures.whole

pub returns-in-Err-clause-left : goal.returns-in-Err-clause-left
returns-in-Err-clause-left g c =
    left_alone g.S.StrSink.takes g.S.StrSink.refuses c.args.text.now c.args.edition c.args.entry c.in-Err.fault c.args.sink.now
    (λ refusal e. c.in-Err.ensures.taken refusal (ap Err e))

pub returns-clause-left : goal.returns-clause-left
returns-clause-left g c = record {
  lexed = c.in-Ok.parsed.lexed;
  forest = c.in-Ok.parsed.output;
  parsed = c.in-Ok.ensures.parsed;
  stopped = c.in-Err-intersperse_trivia.ensures.steps;
}
