use Rattle.std.proofs.Common.{◌≡◌, ◌+◌, List, [], ◌∷◌, drop, map, rules, true, sym, ap, ◌∙◌, arith}
use Rattle.std.proofs.lemmas.List.{drop_more, drop_all}
use Rattle.rap_events.specs.Cover.{stand, widths}
use Rattle.rap_events.specs.Step.{step_value}
use Rattle.rap_events.specs.StepValue.{StepValue}
use Rattle.rap_steps.specs.Walk.{leaves_in}
use Rattle.rap_steps.proofs.Leaves.{one_on, count_on, stops, covers_by, used_by}
use Rattle.rap_steps.proofs.cover.covered.Goals as goal

pub overflow_add-place : goal.overflow_add-place
overflow_add-place c = search (rules, c.in-Some.ensures.within)

pub returns-in_default : goal.returns-in_default
returns-in_default c =
    let xs = c.args.steps.now in
    let rs = c.args.input.now in
    let i = c.steps.step-index in
    let rest : List StepValue = map step_value (drop (i + 1) xs) in
    let s : StepValue = step_value c.step-item.result in
    let next : map step_value (drop i xs) ≡ s ∷ rest =
    ap (map step_value) (drop_more xs i c.step-item.result (omega (arith, c.steps-test.true))) ∙ ap (λ x. step_value x ∷ rest) (sym c.step-item.is) in
    covers_by (map step_value xs) rs c.requires
    ∙ stops s rest rs c.steps.place (stand (leaves_in (map step_value xs)) rs) c.in_default.ensures.stands (ap (λ l. stand (leaves_in l) (drop c.steps.place rs)) (sym next) ∙ c.steps.invariant.so_far)

pub steps-preserved : goal.steps-preserved
steps-preserved c =
    let xs = c.args.steps.now in
    let rs = c.args.input.now in
    let i = c.steps.step-index in
    let rest : List StepValue = map step_value (drop (i + 1) xs) in
    let s : StepValue = step_value c.step-item.result in
    let next : map step_value (drop i xs) ≡ s ∷ rest =
    ap (map step_value) (drop_more xs i c.step-item.result (omega (arith, c.steps-test.true))) ∙ ap (λ x. step_value x ∷ rest) (sym c.step-item.is) in
    record {
      within = c.in-Some.ensures.within;
      so_far = one_on s rest rs c.steps.place c.in-Some.width (stand (leaves_in (map step_value xs)) rs) c.in-Some.ensures.stands.0 c.in-Some.ensures.stands.1
          (ap (λ l. stand (leaves_in l) (drop c.steps.place rs)) (sym next) ∙ c.steps.invariant.so_far);
      count = count_on s rest c.steps.place c.in-Some.width (widths (leaves_in (map step_value xs))) c.in-Some.ensures.stands.1
          (ap (λ l. c.steps.place + widths (leaves_in l)) (sym next) ∙ c.steps.invariant.count);
    }

pub returns : goal.returns
returns c =
    let xs = c.args.steps.now in
    let rs = c.args.input.now in
    let done : map step_value (drop c.steps.step-index xs) ≡ [] = ap (map step_value) (drop_all c.steps.step-index xs (omega (arith, c.steps-test.false))) in
    let all : true ≡ stand (leaves_in (map step_value xs)) rs = ap (λ l. stand (leaves_in l) (drop c.steps.place rs)) (sym done) ∙ c.steps.invariant.so_far in
    let count : c.steps.place + 0 ≡ widths (leaves_in (map step_value xs)) = ap (λ l. c.steps.place + widths (leaves_in l)) (sym done) ∙ c.steps.invariant.count in
    (covers_by (map step_value xs) rs c.requires ∙ sym all, omega (arith, count, used_by (map step_value xs) c.requires))
