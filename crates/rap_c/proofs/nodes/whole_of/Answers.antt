use Rattle.std.proofs.Common.{length}
use Rattle.ra_ap_parser.proofs.Parsed.{few_tokens}
use Rattle.rap_c.proofs.Wholes.{IsWhole, not_long, whole_is}
use Rattle.rap_c.proofs.nodes.whole_of.Goals as goal

pub returns-in-Ok-parse-clause-parsed : goal.returns-in-Ok-parse-clause-parsed
returns-in-Ok-parse-clause-parsed c =
    let w : IsWhole c.args.text.now c.args.edition c.args.entry c.in-Ok.lexed c.in-Ok-parse.output =
    whole_is c.args.text.now c.args.edition c.args.entry c.in-Ok.lexed c.in-Ok-to_input.input c.in-Ok-parse.output (λ l. cc (c.in-Ok.ensures.too_long.1 l)) c.in-Ok.ensures.lexing
    c.in-Ok-to_input.ensures.records (λ l. cc (c.in-Ok-parse.ensures.too_many.1 l)) c.in-Ok-parse.ensures.tree c.in-Ok-parse.ensures.script c.in-Ok-parse.ensures.shapes c.iter-steps.ensures.splits c.len-count.ensures.tokens
    c.in-Ok-to_input.ensures.count in
    w.parsed

pub returns-in-Ok-parse-clause-joined : goal.returns-in-Ok-parse-clause-joined
returns-in-Ok-parse-clause-joined c =
    let w : IsWhole c.args.text.now c.args.edition c.args.entry c.in-Ok.lexed c.in-Ok-parse.output =
    whole_is c.args.text.now c.args.edition c.args.entry c.in-Ok.lexed c.in-Ok-to_input.input c.in-Ok-parse.output (λ l. cc (c.in-Ok.ensures.too_long.1 l)) c.in-Ok.ensures.lexing
    c.in-Ok-to_input.ensures.records (λ l. cc (c.in-Ok-parse.ensures.too_many.1 l)) c.in-Ok-parse.ensures.tree c.in-Ok-parse.ensures.script c.in-Ok-parse.ensures.shapes c.iter-steps.ensures.splits c.len-count.ensures.tokens
    c.in-Ok-to_input.ensures.count in
    w.joined

pub returns-in-Ok-parse-clause-few : goal.returns-in-Ok-parse-clause-few
returns-in-Ok-parse-clause-few c = (
  not_long 4294967295 (length c.args.text.now) (λ l. cc (c.in-Ok.ensures.too_long.1 l)),
  few_tokens c.args.text.now c.args.edition c.in-Ok.lexed c.in-Ok-to_input.input c.in-Ok.ensures.only c.in-Ok-to_input.ensures.count (λ l. cc (c.in-Ok-parse.ensures.too_many.1 l)),
)

pub returns-clause-fault : goal.returns-clause-fault
returns-clause-fault c = (
  not_long 4294967295 (length c.args.text.now) (λ l. cc (c.in-Ok.ensures.too_long.1 l)),
  few_tokens c.args.text.now c.args.edition c.in-Ok.lexed c.in-Ok-to_input.input c.in-Ok.ensures.only c.in-Ok-to_input.ensures.count (λ l. cc (c.in-Err-NoMemory-parse.ensures.too_many.1 l)),
)
