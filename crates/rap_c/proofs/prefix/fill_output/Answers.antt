use Rattle.std.proofs.Common.{◌≡◌, true, false, rules, ap, sym, ◌∙◌}
use Rattle.std.proofs.lemmas.Bool.{cond-true, cond-false}
use Rattle.rap_events.specs.Forest.{one_tree}
use Rattle.rap_c.specs.declared.answer.RapAnswer.{RapAnswer}
use Rattle.rap_c.proofs.GivenBy.{given_back, along, tree_added, steps_added}
use Rattle.rap_c.proofs.prefix.fill_output.Goals as goal

pub returns-in-Ok : goal.returns-in-Ok
returns-in-Ok c =
    let ts = c.args.lexed.now.tokens in
    let output = c.args.output.now in
    let one : one_tree output ≡ true = sym c.is_one_tree.ensures ∙ c.if-is_one_tree.true in
    let added = tree_added ts output c.new-filler.result c.intersperse_trivia.new.sink one (along _ c.new-filler.result c.intersperse_trivia.new.sink c.in-Ok.ensures.steps) in
    record {
      given = given_back _ c.args.steps.now _ c.args.messages.now _ c.new-filler.result c.intersperse_trivia.new.sink 0 c.used_bytes-used.result _ c.new-filler.ensures.start
          added (search (rules, added.same.steps)) (search (rules, added.same.messages)) c.answer.ensures;
      status = ap (λ (a : RapAnswer). a.status) c.answer.ensures ∙ sym (cond-true (one_tree output) 0 1 one);
      used_is = ap (λ (a : RapAnswer). a.used) c.answer.ensures ∙ c.used_bytes-used.ensures;
    }

pub returns-else-is_one_tree : goal.returns-else-is_one_tree
returns-else-is_one_tree c =
    let ts = c.args.lexed.now.tokens in
    let output = c.args.output.now in
    let none : one_tree output ≡ false = sym c.is_one_tree.ensures ∙ c.if-is_one_tree.false in
    record {
      given = given_back _ c.args.steps.now _ c.args.messages.now _ c.new-filler.result c.add_output.new.self 1 c.used_bytes-used.result _ c.new-filler.ensures.start
          (steps_added ts output c.new-filler.result c.add_output.new.self none c.add_output.ensures)
          (search rules) (search rules) c.answer-else-is_one_tree.ensures;
      status = ap (λ (a : RapAnswer). a.status) c.answer-else-is_one_tree.ensures ∙ sym (cond-false (one_tree output) 0 1 none);
      used_is = ap (λ (a : RapAnswer). a.used) c.answer-else-is_one_tree.ensures ∙ c.used_bytes-used.ensures;
    }
