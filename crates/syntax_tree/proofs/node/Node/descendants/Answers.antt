use Rattle.std.proofs.Common.{◌∷◌, ap, ◌∙◌}
use Rattle.syntax_tree.specs.Walking.{nodes_in}
use Rattle.syntax_tree.proofs.Walks.{nodes-elements}
use Rattle.syntax_tree.proofs.node.Node.descendants.Goals as goal

pub returns : goal.returns
returns c =
    ap (λ l. c.args.self.now ∷ l)
    (ap nodes_in c.in_ok-new.ensures ∙ nodes-elements c.args.self.now.children)
