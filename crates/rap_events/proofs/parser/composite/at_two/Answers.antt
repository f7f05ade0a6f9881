use Rattle.std.proofs.Common.{◌≡◌, ℕ, ◌+◌, List, [], ◌∷◌, drop, ◌==◌, sym, ap, ◌∙◌}
use Rattle.std.proofs.lemmas.List.{drop-drop}
use Rattle.rap_events.specs.Record.{Record}
use Rattle.rap_events.specs.Composite.{begins_with}
use Rattle.rap_events.proofs.Records.{kind_at-drop}
use Rattle.rap_events.proofs.Composites.{begins_with-touching, begins_with-one}
use Rattle.rap_events.proofs.parser.composite.at_two.Goals as goal

pub returns : goal.returns
returns c =
    let rs = c.args.input.now in
    let after : List Record = drop (c.args.place + 1) rs in
    let e : begins_with (c.args.first ∷ c.args.second ∷ []) (drop c.args.place rs) ≡ c.eq.result =
    begins_with-touching c.args.first c.args.second [] (drop c.args.place rs) (sym c.touching.ensures.touches ∙ c.if-not-touching.false)
    ∙ ap (begins_with (c.args.second ∷ [])) (drop-drop 1 c.args.place rs)
    ∙ begins_with-one c.args.second after c.requires.second
    ∙ ap (λ (k : ℕ). k == c.args.second) (sym (kind_at-drop rs (c.args.place + 1)) ∙ sym c.kind.ensures)
    ∙ sym c.eq.ensures in
    sym e
