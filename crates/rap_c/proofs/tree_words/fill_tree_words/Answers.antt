use Rattle.std.proofs.Common.{rules}
use Rattle.rap_c.proofs.Counts.{few_words}
use Rattle.rap_c.proofs.Packed.{pack_along, words_given}
use Rattle.rap_c.proofs.tree_words.fill_tree_words.Goals as goal

pub returns-in-Ok-clause-filled : goal.returns-in-Ok-clause-filled
returns-in-Ok-clause-filled c =
    let h = c.in-Ok.ensures.parsed in
    let ts = c.in-Ok.parsed.lexed.tokens in
    let added = pack_along _ c.new-packer.result c.parse_text.new.sink h.taken in
    let given = words_given _ _ c.args.words.now _ c.args.messages.now _ c.new-packer.result c.parse_text.new.sink c.add_errors_of.new.self _ c.new-packer.ensures.start
    added c.add_errors_of.ensures (search (rules, added.same.words, c.add_errors_of.ensures.same.words)) (search (rules, added.same.messages, c.add_errors_of.ensures.same.messages)) c.answer.ensures in
    record {
      lexed = c.in-Ok.parsed.lexed;
      forest = h.forest;
      parsed = h.parsed;
      whole = h.whole;
      given = given;
      few = few_words c.args.text.now c.args.edition c.args.entry c.in-Ok.parsed.lexed h.forest _ h.parsed c.len-count.ensures.tokens given.count;
    }
