use Rattle.std.proofs.Common.{List, map, ap, sym, ◌∙◌}
use Rattle.std.proofs.lemmas.List.{drop_all}
use Rattle.rap_fields.specs.Rule.{found, look_of}
use Rattle.rap_fields.specs.declared.rule.Step.{Step}
use Rattle.flat_tree.specs.FieldChild.{kind_in}
use Rattle.flat_tree.specs.Navigation.{child_indices}
use Rattle.flat_tree.proofs.Fitting.{step_taken}
use Rattle.flat_tree.proofs.tree.FlatTree.found_by.Goals as goal

pub steps-preserved : goal.steps-preserved
steps-preserved c = λ root is.
    step_taken (kind_in c.args.self.now.elements.items) c.steps.found c.looked-found.result c.args.rule.now
    c.steps.step-index _ (child_indices root c.args.index) c.steps-test.true (c.looked-found.ensures root is)
    ∙ c.steps.invariant root is

pub returns : goal.returns
returns c = λ root is.
    sym (ap (λ (ss : List Step). found (kind_in c.args.self.now.elements.items) c.steps.found (map look_of ss) (child_indices root c.args.index))
    (drop_all c.steps.step-index c.args.rule.now c.steps-test.false))
    ∙ c.steps.invariant root is
