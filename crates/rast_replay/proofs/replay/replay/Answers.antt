use Rattle.std.proofs.Common.{rules, List, subst, Bor, ℕ}
use Rattle.std.proofs.lemmas.Iterator.Consumers.{YieldsList-end}
use Rattle.std.proofs.lemmas.Iterator.Splits.{YieldsList-from_lines}
use Rattle.std.proofs.lemmas.List.Elements.{All-map, All-push}
use Rattle.std.specs.List.{All}
use Rattle.rast_replay.specs.Row.{IsRow}
use Rattle.rast_replay.proofs.replay.replay.Goals as goal

pub rows-preserved-then-branch : goal.rows-preserved-then-branch
rows-preserved-then-branch c = λ none.
    All-push (λ (line : Bor (List ℕ)). IsRow line.now) c.rows.yielded c.in-Some.line (c.rows.invariant none) (c.in_ok-is_same.ensures (search rules))

pub returns : goal.returns
returns c = λ none.
    let all = YieldsList-end (YieldsList-from_lines c.args.rows.now cc) c.rows.yielded _ c.rows.yielded_by _ _ c.in-None.is c.next.ensures.steps in
    subst (All IsRow) all.0 (All-map IsRow (λ (line : Bor (List ℕ)). line.now) c.rows.yielded (c.rows.invariant none))
