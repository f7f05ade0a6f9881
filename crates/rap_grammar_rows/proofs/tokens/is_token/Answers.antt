use Rattle.std.proofs.Common.{◌≡◌, ◌<◌, length, true, rules, arith, ◌∙◌, ap}
use Rattle.rap_events.specs.Record.{kind_at, contextual_at}
use Rattle.rap_grammar_rows.proofs.Pieces.{token_piece}
use Rattle.rap_grammar_rows.specs.Code.{sets}
use Rattle.rap_grammar_rows.specs.Decode.{set_in, words_in}
use Rattle.rap_grammar_table.specs.Known.{among, within}
use Rattle.rap_grammar_rows.proofs.tokens.is_token.Goals as goal

pub returns : goal.returns
returns c h =
    let l : c.args.at < length c.args.input.now = omega arith in
    let k : kind_at c.args.input.now c.args.at ≡ c.from-kind.result = omega arith in
    let w : contextual_at c.args.input.now c.args.at ≡ c.from-word.result = omega arith in
    let i : among (set_in c.args.kinds sets) c.from-kind.result ≡ true =
    search rules in
    let j : within (words_in c.args.words sets) c.from-word.result ≡ true = c.has_word.ensures h in
    token_piece c.args.input.now c.args.at (set_in c.args.kinds sets) (words_in c.args.words sets) l
    (ap (among (set_in c.args.kinds sets)) k ∙ i) (ap (within (words_in c.args.words sets)) w ∙ j)
