use Rattle.std.proofs.Common.{◌≡◌, ◌<◌, ℕ, List, length, ap, ◌∙◌, arith}
use Rattle.rap_lexed.specs.Contextual.{past_first}
use Rattle.rap_lexed.specs.LexedStr.{Token, token_at}
use Rattle.rap_lexed.proofs.Contextual.{turn}
use Rattle.rap_lexed.proofs.InputRecords.{records-all, records-step}
use Rattle.rap_lexed.proofs.Records.{length-records}
use Rattle.rap_lexed.proofs.lexed_str.LexedStr.to_input.Goals as goal

inside : (ts : List Token) (i count : ℕ) → count ≡ length ts → i < count → i < length ts
inside ts i count e l = omega arith

pub push_plain-i-requires : goal.push_plain-i-requires
push_plain-i-requires c =
    let t = turn (token_at c.args.self.now.tokens) (length c.args.self.now.tokens) c.tokens.i c.past_first-end.result c.tokens.numbers.now c.past-numbers.result.now c.tokens.invariant.rest (inside c.args.self.now.tokens c.tokens.i _ c.len-in-tokens.ensures.count c.tokens-test.true) c.past-numbers.ensures (c.past_first-end.ensures ∙ ap (past_first c.past-numbers.result.now) c.len-in-tokens-2.ensures.count) in
    record { rising = t.rising; within = t.within; plain = t.plain }

pub tokens-preserved : goal.tokens-preserved
tokens-preserved c =
    let ts = c.args.self.now.tokens in
    let p = c.push_plain-i.ensures in
    let within : c.tokens.i < length ts = inside ts c.tokens.i _ c.len-in-tokens.ensures.count c.tokens-test.true in
    let t = turn (token_at c.args.self.now.tokens) (length c.args.self.now.tokens) c.tokens.i c.past_first-end.result c.tokens.numbers.now c.past-numbers.result.now c.tokens.invariant.rest (inside c.args.self.now.tokens c.tokens.i _ c.len-in-tokens.ensures.count c.tokens-test.true) c.past-numbers.ensures (c.past_first-end.ensures ∙ ap (past_first c.past-numbers.result.now) c.len-in-tokens-2.ensures.count) in
    record {
      done = p.pushed ∙ records-step c.tokens.input c.push_record.new.input _ ts c.tokens.i c.args.edition within c.tokens.invariant.done c.in_ok-push_record.ensures;
      within = omega (arith, p.within, t.within);
      rest = t.later c.push_plain-i.result p.further p.within p.last;
    }

pub returns-clause-records : goal.returns-clause-records
returns-clause-records c = records-all c.tokens.input c.args.self.now.tokens c.tokens.i c.args.edition (omega (arith, c.tokens-test.false, c.len-in-tokens.ensures.count)) c.tokens.invariant.done

pub returns-clause-count : goal.returns-clause-count
returns-clause-count c = ap length (records-all c.tokens.input c.args.self.now.tokens c.tokens.i c.args.edition (omega (arith, c.tokens-test.false, c.len-in-tokens.ensures.count)) c.tokens.invariant.done) ∙ length-records c.args.self.now.tokens c.args.edition
