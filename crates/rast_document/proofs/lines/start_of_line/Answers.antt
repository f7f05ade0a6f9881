use Rattle.std.proofs.Common.{ℕ, length, ap, sym, ◌∙◌, arith}
use Rattle.rast_document.specs.Lines.{starts_to}
use Rattle.rast_document.proofs.LineLemmas.{ends_more, start_found, starts_at, starts_bound, starts_open}
use Rattle.rast_document.proofs.lines.start_of_line.Goals as goal
use Rattle.rast_document.proofs.lines.start_of_line.Goals.{then-ends_line+else-left-eq0-2, else-ends_line}

pub whole-init : goal.whole-init
whole-init c =
    let s = c.args.text.now in
    let before = ap {B = ℕ} (λ i. length (starts_to s i)) c.requires.start ∙ starts_at s c.args.known c.requires.known in
    record {
      within = omega (arith, c.requires.start, starts_bound s (length s) c.args.known c.requires.known);
      some = omega (arith, c.if-left-eq0.false);
      ends = omega (arith, before, c.requires.rising);
    }

pub returns-then-left-eq0-2-clause-found : goal.returns-then-left-eq0-2-clause-found
returns-then-left-eq0-2-clause-found c =
    start_found c.args.text.now c.loop-index.index c.args.line (omega arith) (sym c.ends_line.ensures ∙ c.if-ends_line.true)
    (omega (arith, c.loop-index.invariant.some, c.loop-index.invariant.ends, c.if-left-eq0-2.true))

pub loop-index-preserved : goal.loop-index-preserved
loop-index-preserved c =
    let s = c.args.text.now in
    let is = c.loop-index.invariant in
    let index = c.loop-index.index in
    elim c.if-ends_line.branch [
      | then-ends_line+else-left-eq0-2 w ↦ record {
        some = omega (arith, w.left-is, w.if-left-eq0-2.false, is.some);
        ends = omega (arith, w.left-is, is.some, is.ends, ends_more s index (sym c.ends_line.ensures ∙ w.if-ends_line.true));
      }
      | else-ends_line w ↦ record {
        some = omega (arith, w.left-is, is.some);
        ends = omega (arith, w.left-is, is.ends, ap length (starts_open s index (sym c.ends_line.ensures ∙ w.if-ends_line.false)));
      }
    ]
