use Rattle.std.proofs.Common.{ap, ◌∙◌}
use Rattle.syntax_tree.specs.Walking.{leaves_in}
use Rattle.syntax_tree.proofs.Walks.{leaves-elements}
use Rattle.syntax_tree.proofs.node.Node.leaves.Goals as goal

pub returns : goal.returns
returns c = ap leaves_in c.in_ok-new.ensures ∙ leaves-elements c.args.self.now.children
