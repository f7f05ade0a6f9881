use Rattle.rap_events.specs.Forest.{used}
use Rattle.rap_lexed.specs.Trivia.{with_trivia}
use Rattle.rap_ranged.proofs.Fronts.{places_of_front}
use Rattle.rap_ranged.proofs.Seats.{tree_seated}
use Rattle.rap_lexed.specs.StrForest.{str_flat}
use Rattle.flat_tree.proofs.Runs.{texts_along}
use Rattle.flat_tree.proofs.Trees.{flat_of, flat_seated, ordered, over_front, over_of}
use Rattle.flat_tree.proofs.tree.FlatTree.build.Goals as goal

pub returns-clause-flat : goal.returns-clause-flat
returns-clause-flat c =
    let f = with_trivia c.args.lexed.now.tokens c.args.output.now in
    flat_seated f _
    (flat_of f c.in_ok-builder.builder c.intersperse_trivia.new.sink _
    c.intersperse_trivia.ensures.tree c.in_ok-builder.ensures c.in_ok-_whole.ensures.steps c.into_elements.ensures)
    (tree_seated c.args.lexed.now.tokens c.args.output.now c.requires.tree c.iter.ensures.splits c.intersperse_trivia.ensures.touching)

pub returns-clause-over : goal.returns-clause-over
returns-clause-over c =
    let f = with_trivia c.args.lexed.now.tokens c.args.output.now in
    let texts = texts_along (str_flat f) c.in_ok-builder.builder c.intersperse_trivia.new.sink c.in_ok-_whole.ensures.steps in
    over_front f c.in_ok-builder.builder c.intersperse_trivia.new.sink _ _ _
    c.intersperse_trivia.ensures.tree c.in_ok-builder.ensures c.in_ok-_whole.ensures.steps c.into_elements.ensures c.intersperse_trivia.ensures.front
    (places_of_front f c.args.lexed.now.tokens (used c.args.output.now) c.len-count.ensures.tokens texts c.intersperse_trivia.ensures.front)

pub returns-clause-whole : goal.returns-clause-whole
returns-clause-whole c = λ all.
    over_of (with_trivia c.args.lexed.now.tokens c.args.output.now) c.in_ok-builder.builder c.intersperse_trivia.new.sink _ _
    c.intersperse_trivia.ensures.tree c.in_ok-builder.ensures c.in_ok-_whole.ensures.steps c.into_elements.ensures
    (c.in_ok-_whole.ensures.whole (c.in_ok-_whole.ensures.answer.1 all))

pub invariant_of-result : goal.invariant_of-result
invariant_of-result c =
    let f = with_trivia c.args.lexed.now.tokens c.args.output.now in
    let o =
    ordered f c.into_elements.result.items
    (flat_of f c.in_ok-builder.builder c.intersperse_trivia.new.sink c.into_elements.result.items
    c.intersperse_trivia.ensures.tree c.in_ok-builder.ensures c.in_ok-_whole.ensures.steps c.into_elements.ensures)
    in record { parents = o.parents; forward = o.forward; within = o.within }
