use Rattle.std.proofs.Common.{◌≡◌, List, get_or, length, refl, ap, arith}
use Rattle.std.proofs.lemmas.Grind.{common_steps}
use Rattle.rap_base.specs.declared.edition.Edition.{Edition}
use Rattle.rap_events.proofs.Columns.{kept, all_filled}
use Rattle.rap_events.proofs.input.columns.Columns.admit.Goals as goal

pub returns-then-len-eq0-clause-records : goal.returns-then-len-eq0-clause-records
returns-then-len-eq0-clause-records c =
    kept c.args.self.now _ c.args.len (λ i small. refl) (λ i small. absurd (omega (arith, c.if-len-eq0.true))) (λ i small. refl)

pub returns-in_err-resize-clause-records : goal.returns-in_err-resize-clause-records
returns-in_err-resize-clause-records c =
    let old = c.args.self.now in
    kept old _ c.args.len
    (λ i small. refl)
    (λ i small. ap (λ (xs : List Edition). get_or xs i old.edition) c.in_err-resize.ensures.items)
    (λ i small. refl)

pub returns-clause-records : goal.returns-clause-records
returns-clause-records c =
    let old = c.args.self.now in
    let none : length old.editions.items ≡ 0 = grind (arith, common_steps) in
    kept old _ c.args.len
    (λ i small. refl)
    (λ i small. all_filled old.editions.items _ _ _ i old.edition none c.in_ok-resize.ensures.items)
    (λ i small. refl)
