use Rattle.std.proofs.Common.{◌≡◌, ◌∷◌, ◌++◌, [], rules}
use Rattle.std.proofs.lemmas.List.Elements.{All-push}
use Rattle.rap_grammar_rows.specs.Claims.{Holds}
use Rattle.rap_grammar_rows.proofs.check.all_checked.Goals as goal

-- src/check.rt:359:5
pub claims-preserved : goal.claims-preserved
claims-preserved c =
    let holds : Holds c.args.input.now c.in-Some.fact = search rules in
    let more : c.push.new.self.items ≡ c.claims.facts.items ++ c.in-Some.fact ∷ [] = search rules in
    rw more (All-push (Holds c.args.input.now) c.claims.facts.items c.in-Some.fact c.claims.invariant holds)
