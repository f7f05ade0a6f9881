use Rattle.std.proofs.Common.{arith}
use Rattle.flat_tree.specs.Navigation.{child_indices}
use Rattle.flat_tree.proofs.Fitting.{first_chosen, found_all, found_one, last_chosen}
use Rattle.flat_tree.proofs.tree.FlatTree.field_children.Goals as goal

pub returns-in-All : goal.returns-in-All
returns-in-All c = λ root is.
    found_all c.elements-elements.result.now c.args.self.now.elements.items c.args.index c.kind_in.result c.args.field
    c.rule-rule.result.now _ c.found_by-mark.result c.children.result (child_indices root c.args.index) _ (omega arith)
    c.elements-elements.ensures (c.children.ensures root is) (c.found_by-mark.ensures root is) c.in-All.is c.kind_in.ensures
    c.rule-rule.ensures c.fitting.ensures

pub returns-in-First : goal.returns-in-First
returns-in-First c = λ root is.
    found_one c.elements-elements.result.now c.args.self.now.elements.items c.args.index c.kind_in.result c.args.field
    c.rule-rule.result.now _ c.found_by-mark.result c.looked.result (child_indices root c.args.index) _ (omega arith)
    c.elements-elements.ensures (c.found_by-mark.ensures root is) (λ ys. first_chosen _ ys c.in-First.is) c.kind_in.ensures
    c.rule-rule.ensures (c.looked.ensures root is) c.of_one-in-First.ensures

pub returns-in-Last : goal.returns-in-Last
returns-in-Last c = λ root is.
    found_one c.elements-elements.result.now c.args.self.now.elements.items c.args.index c.kind_in.result c.args.field
    c.rule-rule.result.now _ c.found_by-mark.result c.looked-in-Last.result (child_indices root c.args.index) _ (omega arith)
    c.elements-elements.ensures (c.found_by-mark.ensures root is) (λ ys. last_chosen _ ys c.in-Last.is) c.kind_in.ensures
    c.rule-rule.ensures (c.looked-in-Last.ensures root is) c.of_one-in-Last.ensures
