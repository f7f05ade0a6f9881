use Rattle.flat_tree.proofs.MergeLaw.{merging}
use Rattle.flat_tree.proofs.laws.messages_merge_in_order.Goals as goal

pub returns : goal.returns
returns c = merging
