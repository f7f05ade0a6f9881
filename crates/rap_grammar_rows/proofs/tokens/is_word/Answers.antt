use Rattle.std.proofs.Common.{◌≡◌, ◌<◌, length, arith, rules, ◌∙◌, sym}
use Rattle.std.proofs.lemmas.Bool.{eqb-true}
use Rattle.rap_base.specs.TokenKind.{IDENT}
use Rattle.rap_events.specs.Record.{kind_at, contextual_at}
use Rattle.rap_grammar_rows.proofs.Pieces.{word_piece}
use Rattle.rap_grammar_rows.proofs.tokens.is_word.Goals as goal

kind_of : (c : goal.After-from) → kind_at c.args.input.now c.args.at ≡ IDENT
kind_of c = search rules

pub returns : goal.returns
returns c h =
    let w : contextual_at c.args.input.now c.args.at ≡ c.args.kind =
    sym c.contextual_kind.ensures.contextual ∙ (sym c.from.ensures.0 ∙ eqb-true c.from.result c.args.kind (h)) in
    let l : c.args.at < length c.args.input.now = omega arith in
    word_piece c.args.input.now c.args.at c.args.kind l (kind_of c) w
