use Rattle.std.proofs.Common.{◌≡◌, true, List, map, sym, ap, ◌∙◌, arith}
use Rattle.std.specs.Prelude.{string_bytes}
use Rattle.rap_events.specs.Forest.{Forest, flat, splits_placed, used}
use Rattle.rap_events.specs.Reading.{forest_of}
use Rattle.rap_events.proofs.StepLemmas.{forest_of-flat}
use Rattle.rap_events.proofs.Splits.{floor_placed}
use Rattle.rap_events.specs.History.{Call, history}
use Rattle.rap_events.specs.Machine.{run, initial}
use Rattle.rap_events.specs.Unwind.{Walk, texts, walk_with}
use Rattle.rap_events.proofs.Unwinding.{unwound}
use Rattle.rap_events.proofs.Backing.{all_back}
use Rattle.rap_events.proofs.event.Event.process.Goals as goal

pub output-output-requires-clause-steps : goal.output-output-requires-clause-steps
output-output-requires-clause-steps c =
    let xs : List Call = history c.args.events.items (map string_bytes c.args.messages.items) in
    let F : Forest = (run initial xs).forest in
    let placed : splits_placed F ≡ true = floor_placed (run initial xs) c.requires.splits in
    let end = all_back c.loop-walk.walk xs (omega arith) c.loop-walk.invariant.so_far in
    let steps : (walk_with (texts c.loop-walk.walk) c.loop-walk.walk).steps ≡ flat F = ap (λ (w : Walk). w.steps) end ∙ unwound xs c.requires.sound c.requires.closed placed in
    rw steps (ap flat (forest_of-flat F placed))

pub output-output-requires-clause-splits : goal.output-output-requires-clause-splits
output-output-requires-clause-splits c =
    let xs : List Call = history c.args.events.items (map string_bytes c.args.messages.items) in
    let F : Forest = (run initial xs).forest in
    let placed : splits_placed F ≡ true = floor_placed (run initial xs) c.requires.splits in
    let end = all_back c.loop-walk.walk xs (omega arith) c.loop-walk.invariant.so_far in
    let steps : (walk_with (texts c.loop-walk.walk) c.loop-walk.walk).steps ≡ flat F = ap (λ (w : Walk). w.steps) end ∙ unwound xs c.requires.sound c.requires.closed placed in
    rw steps (rw (forest_of-flat F placed) placed)

pub output-output-requires-clause-tokens : goal.output-output-requires-clause-tokens
output-output-requires-clause-tokens c =
    let xs : List Call = history c.args.events.items (map string_bytes c.args.messages.items) in
    let F : Forest = (run initial xs).forest in
    let placed : splits_placed F ≡ true = floor_placed (run initial xs) c.requires.splits in
    let end = all_back c.loop-walk.walk xs (omega arith) c.loop-walk.invariant.so_far in
    let steps : (walk_with (texts c.loop-walk.walk) c.loop-walk.walk).steps ≡ flat F = ap (λ (w : Walk). w.steps) end ∙ unwound xs c.requires.sound c.requires.closed placed in
    c.requires.tokens ∙ ap used (sym (ap forest_of steps ∙ forest_of-flat F placed))

pub returns : goal.returns
returns c =
    let xs : List Call = history c.args.events.items (map string_bytes c.args.messages.items) in
    let F : Forest = (run initial xs).forest in
    let placed : splits_placed F ≡ true = floor_placed (run initial xs) c.requires.splits in
    let end = all_back c.loop-walk.walk xs (omega arith) c.loop-walk.invariant.so_far in
    let steps : (walk_with (texts c.loop-walk.walk) c.loop-walk.walk).steps ≡ flat F = ap (λ (w : Walk). w.steps) end ∙ unwound xs c.requires.sound c.requires.closed placed in
    c.output-output.ensures ∙ ap forest_of steps ∙ forest_of-flat F placed
