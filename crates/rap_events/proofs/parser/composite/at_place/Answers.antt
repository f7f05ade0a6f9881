use Rattle.std.proofs.Common.{◌≡◌, [], sym, ap, ◌∙◌, drop, rules, subst, List, ℕ, ◌==◌}
use Rattle.rap_events.specs.Composite.{parts, is_first}
use Rattle.rap_events.proofs.Records.{kind_at-drop}
use Rattle.rap_events.proofs.parser.composite.at_place.Goals as goal

pub returns-in_default : goal.returns-in_default
returns-in_default c =
    let one : parts c.args.kind ≡ [] = search rules in
    let e = c.requires ∙ kind_at-drop c.args.input.now c.args.place in
    let P : List ℕ → Type 0 = λ ps. c.eq.result ≡ is_first ps c.args.kind (drop c.args.place c.args.input.now) in
    subst P (sym one) (c.eq.ensures ∙ ap (λ (k : ℕ). k == c.args.kind) e)
