use Rattle.rast.proofs.Walks.{ranges_whole}
use Rattle.rast.proofs.ranges.print_ranges.Goals as goal

pub returns-in-Ok-clause-printed : goal.returns-in-Ok-clause-printed
returns-in-Ok-clause-printed c =
    ranges_whole c.args.text.now c.args.edition c.args.entry c.in_ok-tree.tree.root c.in_ok-tree.tree.messages.items c.in-Ok.printer c.in_ok-tree.ensures.tree c.in-Ok.ensures.tree c.in-Ok.ensures.messages
