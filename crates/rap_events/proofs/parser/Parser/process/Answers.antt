use mathlib.Core.Logic.{∥∥₁_map}
use Rattle.std.proofs.Common.{◌≡◌, refl, sym, length-drop, ap, ◌∙◌, arith}
use Rattle.rap_events.specs.Forest.{used}
use Rattle.rap_events.specs.Machine.{run, initial}
use Rattle.rap_events.specs.State.{state, calls}
use Rattle.rap_events.proofs.Finished.{covered, used_all}
use Rattle.rap_events.proofs.Intervals.{forest_is_tree}
use Rattle.rap_events.proofs.MessageCount.{no_messages}
use Rattle.rap_events.proofs.Splits.{floor_placed}
use Rattle.rap_events.proofs.Nesting.{nodes_nest}
use Rattle.rap_events.proofs.Weight.{few_steps}
use Rattle.rap_events.proofs.parser.Parser.process.Goals as goal

pub process-requires-clause-closed : goal.process-requires-clause-closed
unfolding state calls
process-requires-clause-closed c = c.requires

pub process-requires-clause-tokens : goal.process-requires-clause-tokens
unfolding state calls
process-requires-clause-tokens c =
    let s = c.args.self in
    sym (used_all (run initial (calls s)) s.pos c.requires s.place)

pub returns-clause-forest : goal.returns-clause-forest
unfolding state calls
returns-clause-forest c = c.in_ok-output.ensures

pub returns-clause-tree : goal.returns-clause-tree
unfolding state calls
returns-clause-tree c = let s = c.args.self in rw (returns-clause-forest c) (forest_is_tree (calls s) s.sound c.requires (floor_placed (run initial (calls s)) s.splits))

pub returns-clause-nested : goal.returns-clause-nested
unfolding state calls
returns-clause-nested c = let s = c.args.self in nodes_nest (calls s) s.sound

pub returns-in_err-output-clause-nested : goal.returns-in_err-output-clause-nested
unfolding state calls
returns-in_err-output-clause-nested c = let s = c.args.self in nodes_nest (calls s) s.sound

pub returns-clause-splits : goal.returns-clause-splits
unfolding state calls
returns-clause-splits c = let s = c.args.self in rw (returns-clause-forest c) (floor_placed (run initial (calls s)) s.splits)

pub returns-clause-few : goal.returns-clause-few
unfolding state calls
returns-clause-few c = rw (returns-clause-forest c) (few_steps (calls c.args.self))

pub returns-clause-covers : goal.returns-clause-covers
unfolding state calls
returns-clause-covers c = let s = c.args.self in rw (returns-clause-forest c) (covered (run initial (calls s)) s.input.now c.requires s.covers)

pub returns-clause-used : goal.returns-clause-used
unfolding state calls
returns-clause-used c =
    let s = c.args.self in
    let place : used c.in_ok-output.output ≡ s.pos = ap used (returns-clause-forest c) ∙ used_all (run initial (calls s)) s.pos c.requires s.place in
    omega (arith, place, s.ends, s.in_input, length-drop s.pos s.input.now)

pub returns-clause-rest : goal.returns-clause-rest
unfolding state calls
returns-clause-rest c =
    let s = c.args.self in
    let place : used c.in_ok-output.output ≡ s.pos = ap used (returns-clause-forest c) ∙ used_all (run initial (calls s)) s.pos c.requires s.place in
    rw place refl

pub returns-clause-fit : goal.returns-clause-fit
unfolding state calls
returns-clause-fit c =
    let s = c.args.self in
    rw (returns-clause-forest c) (λ z. ∥∥₁_map (s.fit (no_messages (calls s) c.requires z)) (λ a. a.1))
