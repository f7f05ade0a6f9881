use Rattle.std.proofs.Common.{◌≡◌, true, rules, ap, sym, ◌∙◌, map}
use Rattle.std.proofs.lemmas.Bool.{cond-true}
use Rattle.rap_events.specs.Forest.{Forest, one_tree}
use Rattle.rap_events.specs.Reading.{forest_of}
use Rattle.rap_events.specs.Step.{step_value}
use Rattle.rap_lexed.specs.Used.{end_after}
use Rattle.rap_c.specs.declared.answer.RapAnswer.{RapAnswer}
use Rattle.rap_c.proofs.GivenBy.{given_back, along, tree_added}
use Rattle.rap_c.proofs.weave.fill_tree_steps.Goals as goal

pub returns : goal.returns
returns c =
    let ts = c.args.lexed.now.tokens in
    let f : Forest = forest_of (map step_value c.args.tree.now) in
    let one : one_tree f ≡ true = c.requires.tree.one in
    let added = tree_added ts f c.new-filler.result c.intersperse_steps.new.sink one (along _ c.new-filler.result c.intersperse_steps.new.sink c.in-Ok.ensures.steps) in
    record {
      given = given_back _ c.args.steps.now _ c.args.messages.now _ c.new-filler.result c.intersperse_steps.new.sink 0 c.end_after-used.result _ c.new-filler.ensures.start
          added (search (rules, added.same.steps)) (search (rules, added.same.messages)) c.answer.ensures;
      status = ap (λ (a : RapAnswer). a.status) c.answer.ensures ∙ sym (cond-true (one_tree f) 0 1 one);
      used_is = ap (λ (a : RapAnswer). a.used) c.answer.ensures ∙ (c.end_after-used.ensures ∙ ap (λ n. end_after n ts) c.requires.count);
    }
