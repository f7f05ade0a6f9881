use Rattle.std.proofs.Common.{◌≡◌, ◌+◌, [], ◌∷◌, drop, sym, ap, ◌∙◌}
use Rattle.std.proofs.lemmas.List.{drop-drop}
use Rattle.rap_events.specs.Composite.{begins_with}
use Rattle.rap_events.proofs.Composites.{begins_with-touching}
use Rattle.rap_events.proofs.parser.composite.at_three.Goals as goal

pub returns : goal.returns
returns c =
    let rs = c.args.input.now in
    let e : begins_with (c.args.first ∷ c.args.second ∷ c.args.third ∷ []) (drop c.args.place rs) ≡ begins_with (c.args.second ∷ c.args.third ∷ []) (drop (c.args.place + 1) rs) =
    begins_with-touching c.args.first c.args.second (c.args.third ∷ []) (drop c.args.place rs) (sym c.touching.ensures.touches ∙ c.if-not-touching.false)
    ∙ ap (begins_with (c.args.second ∷ c.args.third ∷ [])) (drop-drop 1 c.args.place rs) in
    c.at_two.ensures ∙ sym e
