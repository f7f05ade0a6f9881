use Rattle.std.proofs.Common.{◌∙◌, ◌++◌, ap, string_bytes, sym, arith}
use Rattle.rast_answers.specs.Tokens.{piece}
use Rattle.rast_answers.proofs.PieceLaws.{last_line, step_line}
use Rattle.rast_answers.proofs.tokens.push_pieces.Goals as goal

pub returns-then-end-at : goal.returns-then-end-at
returns-then-end-at c = last_line _ _ _ _ _ _ _ _ c.if-end-at.true c.lines.invariant

pub lines-preserved : goal.lines-preserved
lines-preserved c =
    let d = c.args.document.now in
    let same = ap (λ k. c.lines.tokens.items ++ piece d.encoding (string_bytes d.text) c.args.leaf.class c.lines.at k) (sym c.in_ok-to.ensures.end) in
    step_line _ _ _ _ _ _ _ _ _ _ _ (omega arith) c.if-end-at.false c.in_ok-to.ensures.end (c.in_ok-to.ensures.tokens ∙ same) c.lines.invariant
