use Rattle.std.proofs.Common.{◌≡◌, ◌++◌, ◌∷◌, [], ap, sym, ◌∙◌, map, reverse}
use Rattle.std.proofs.lemmas.Result.{IfOk-weaker}
use Rattle.std.specs.Prelude.{IsTrue, ◌↔◌}
use Rattle.rap_events.specs.Step.{step_value}
use Rattle.rap_steps.specs.Steps.{IsTreeSteps}
use Rattle.rap_steps.specs.Walk.{closes, makes_tree}
use Rattle.rap_steps.proofs.Trees.{decides}
use Rattle.rap_steps.proofs.shape.is_tree.Goals as goal

pub returns : goal.returns
returns c =
    let xs = c.args.steps.now in
    let e : map step_value xs ≡ step_value c.in-Some.first.now ∷ map step_value c.in-Some.rest.now = ap (map step_value) c.in-Some.ensures.cases.0 in
    let f : makes_tree (map step_value xs) ≡ closes (map step_value c.in-Some.rest.now) (c.in-Enter.kind ∷ []) =
    ap makes_tree (e ∙ ap (λ s. step_value s ∷ map step_value c.in-Some.rest.now) c.in-Enter.is) in
    let g : reverse c.push.new.self.items ≡ c.in-Enter.kind ∷ [] = ap reverse (c.in_ok-push.ensures.items ∙ ap (λ l. l ++ c.in-Enter.kind ∷ []) c.new-begun.ensures.items) in
    IfOk-weaker c.closes.result (λ b. b ≡ closes (map step_value c.in-Some.rest.now) (reverse c.push.new.self.items)) (λ b. IsTrue b ↔ IsTreeSteps (map step_value xs))
    (λ b h. decides (map step_value xs) b (h ∙ (ap (closes (map step_value c.in-Some.rest.now)) g ∙ sym f))) c.closes.ensures
