use Rattle.std.proofs.Common.{get_or, string_bytes}
use Rattle.rast_server.proofs.TreeLines.{line_written}
use Rattle.rast_server.proofs.tree.push_lines.Goals as goal

pub loop-index-preserved : goal.loop-index-preserved
loop-index-preserved c =
    line_written c.args.text.now c.args.elements.now c.loop-index.index (get_or c.args.depths.now c.loop-index.index 0) c.index-elements-index.result
    (string_bytes c.args.json.now) (string_bytes c.loop-index.json) (string_bytes c.push_line.new.json) c.loop-index-test.true c.index-elements-index.is
    (c.requires.depths.each c.loop-index.index c.loop-index-test.true) c.in_ok-push_line.ensures c.loop-index.invariant
