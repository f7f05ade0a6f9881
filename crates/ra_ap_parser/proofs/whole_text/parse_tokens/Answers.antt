use Rattle.ra_ap_parser.proofs.Parsed.{parsed_tokens, few_tokens}
use Rattle.ra_ap_parser.proofs.whole_text.parse_tokens.Goals as goal

pub returns-in-Ok-parse-clause-parsed : goal.returns-in-Ok-parse-clause-parsed
returns-in-Ok-parse-clause-parsed g c =
    parsed_tokens c.args.text.now c.args.edition c.args.entry c.in-Ok.lexed c.in-Ok-to_input.input c.in-Ok-parse.output (λ l. cc (c.in-Ok.ensures.too_long.1 l)) c.in-Ok.ensures.lexing c.in-Ok-to_input.ensures.records (λ l. cc (c.in-Ok-parse.ensures.too_many.1 l)) c.in-Ok-parse.ensures.tree c.in-Ok-parse.ensures.script c.in-Ok-parse.ensures.shapes c.iter-steps.ensures.splits c.len-count.ensures.tokens c.in-Ok-to_input.ensures.count

pub returns-in-Ok-parse-clause-too_many : goal.returns-in-Ok-parse-clause-too_many
returns-in-Ok-parse-clause-too_many g c =
    (λ e. cc, λ h. absurd (few_tokens c.args.text.now c.args.edition c.in-Ok.lexed c.in-Ok-to_input.input c.in-Ok.ensures.only c.in-Ok-to_input.ensures.count (λ l. cc (c.in-Ok-parse.ensures.too_many.1 l)) h))

pub returns-clause-too_many : goal.returns-clause-too_many
returns-clause-too_many g c =
    (λ e. cc, λ h. absurd (few_tokens c.args.text.now c.args.edition c.in-Ok.lexed c.in-Ok-to_input.input c.in-Ok.ensures.only c.in-Ok-to_input.ensures.count (λ l. cc (c.in-Err-NoMemory-parse.ensures.too_many.1 l)) h))
