use Rattle.std.proofs.Common.{◌≡◌, ℕ, ◌+◌, ◌*◌, take, arith, ap}
use Rattle.std.proofs.lemmas.List.{length-take-le}
use Rattle.rast_document.specs.Units.{units}
use Rattle.rast_document.proofs.BlockLemmas.{marks_step}
use Rattle.rast_document.proofs.UnitLemmas.{units_le}
use Rattle.rast_document.proofs.marks.marks_of.Goals as goal

pub overflow_add-total : goal.overflow_add-total
overflow_add-total c =
    let s = c.args.text.now in
    let e = c.args.encoding in
    let to = c.loop-step.step * 256 + 256 in
    omega (
      arith,
      c.loop-step.invariant.total,
      c.units_between-total.ensures,
      units_le e (take to s),
      length-take-le to s (omega arith),
      c.requires,
    )

pub loop-step-preserved : goal.loop-step-preserved
loop-step-preserved c =
    let s = c.args.text.now in
    let e = c.args.encoding in
    let further : units e (take (c.loop-step.step * 256 + 256) s) ≡ units e (take ((c.loop-step.step + 1) * 256) s) = ap {B = ℕ} (λ n. units e (take n s)) (omega arith) in
    let total : c.loop-step.total + c.units_between-total.result ≡ units e (take ((c.loop-step.step + 1) * 256) s) =
    omega (arith, c.loop-step.invariant.total, c.units_between-total.ensures, further) in
    record {
      total = total;
      marks = rw c.in_ok-push-2.ensures.items (marks_step e s c.loop-step.marks.items c.loop-step.step _ c.loop-step.invariant.marks total);
    }
