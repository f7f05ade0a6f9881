use Rattle.std.proofs.Common.{refl}
use Rattle.rap_c.proofs.Laid.{leaf_laid, empty_laid, no_bytes, some_bytes}
use Rattle.rap_c.proofs.node_filler.NodeFiller.token.Goals as goal

pub returns-then-is_empty : goal.returns-then-is_empty
returns-then-is_empty c =
    empty_laid c.args.kind c.narrow-end.result c.args.text.now c.args.self.now _ (no_bytes _ _ c.is_empty.ensures c.if-is_empty.true) c.narrow-end.ensures
    c.leaf.ensures refl refl refl refl (record { elements = refl; messages = refl; bytes = refl })

pub returns : goal.returns
returns c =
    leaf_laid c.args.kind c.narrow-end.result c.args.text.now c.args.self.now _ c.add_waiting.new.self (some_bytes _ _ c.is_empty.ensures c.if-is_empty.false) c.narrow-end.ensures
    c.leaf.ensures (c.end_ranges.ensures c.args.self.now.bytes.now) c.add_waiting.ensures refl refl refl (record { elements = refl; messages = refl; bytes = refl })
