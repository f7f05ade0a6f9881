use Rattle.std.proofs.Common.{length, ap, subst, sym, ◌∙◌}
use Rattle.rap_lexed.specs.LexedStr.{joined}
use Rattle.rap_lexed.specs.Trivia.{with_trivia}
use Rattle.rap_events.specs.Forest.{used}
use Rattle.syntax_tree.proofs.Texts.{places_of_front}
use Rattle.syntax_tree.specs.Places.{HavePlaces}
use Rattle.syntax_tree.specs.RangedForest.{RangedForest}
use Rattle.rap_ranged.proofs.Roots.{one_node, root_place}
use Rattle.syntax_tree.proofs.Runs.{built}
use Rattle.syntax_tree.specs.Ranged.{Ranged}
use Rattle.syntax_tree.proofs.tree.Tree.build.Goals as goal

pub only_node-requires : goal.only_node-requires
only_node-requires c =
    let f = with_trivia c.args.lexed.now.tokens c.args.output.now in
    let one = one_node f c.intersperse_trivia.ensures.tree in
    (one.0, c.into_children.ensures ∙ (built f c.new-builder.result c.intersperse_trivia.new.sink c.new-builder.ensures c.in_ok-_whole.ensures.steps ∙ one.1))

pub returns-clause-ranged : goal.returns-clause-ranged
returns-clause-ranged c =
    let f = with_trivia c.args.lexed.now.tokens c.args.output.now in
    sym c.only_node.ensures ∙ (c.into_children.ensures ∙ built f c.new-builder.result c.intersperse_trivia.new.sink c.new-builder.ensures c.in_ok-_whole.ensures.steps)

pub returns-clause-begins : goal.returns-clause-begins
returns-clause-begins c =
    let f = with_trivia c.args.lexed.now.tokens c.args.output.now in
    let ranged : Ranged f c.only_node.result = sym c.only_node.ensures ∙ (c.into_children.ensures ∙ built f c.new-builder.result c.intersperse_trivia.new.sink c.new-builder.ensures c.in_ok-_whole.ensures.steps) in
    (root_place f c.only_node.result c.intersperse_trivia.ensures.tree ranged).0

pub returns-clause-ends : goal.returns-clause-ends
returns-clause-ends c =
    let f = with_trivia c.args.lexed.now.tokens c.args.output.now in
    let ranged : Ranged f c.only_node.result = sym c.only_node.ensures ∙ (c.into_children.ensures ∙ built f c.new-builder.result c.intersperse_trivia.new.sink c.new-builder.ensures c.in_ok-_whole.ensures.steps) in
    (root_place f c.only_node.result c.intersperse_trivia.ensures.tree ranged).1 ∙ ap length c.intersperse_trivia.ensures.front

pub returns-clause-whole : goal.returns-clause-whole
returns-clause-whole c =
    let f = with_trivia c.args.lexed.now.tokens c.args.output.now in
    let ranged : Ranged f c.only_node.result = sym c.only_node.ensures ∙ (c.into_children.ensures ∙ built f c.new-builder.result c.intersperse_trivia.new.sink c.new-builder.ensures c.in_ok-_whole.ensures.steps) in
    let place = root_place f c.only_node.result c.intersperse_trivia.ensures.tree ranged in
    λ all. place.1 ∙ ap length (c.in_ok-_whole.ensures.whole (c.in_ok-_whole.ensures.answer.1 all))

pub returns-clause-places : goal.returns-clause-places
returns-clause-places c =
    let f = with_trivia c.args.lexed.now.tokens c.args.output.now in
    let ts = c.args.lexed.now.tokens in
    let ranged : Ranged f c.only_node.result = sym c.only_node.ensures ∙ (c.into_children.ensures ∙ built f c.new-builder.result c.intersperse_trivia.new.sink c.new-builder.ensures c.in_ok-_whole.ensures.steps) in
    let P : RangedForest → Type 0 = λ g. HavePlaces (joined ts) g in
    subst P (sym ranged)
    (places_of_front f c.new-builder.result c.intersperse_trivia.new.sink ts (used c.args.output.now) c.len-count.ensures.tokens c.in_ok-_whole.ensures.steps c.intersperse_trivia.ensures.front)
