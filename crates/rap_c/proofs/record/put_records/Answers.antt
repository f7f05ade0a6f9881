use Rattle.std.proofs.Common.{rules}
use Rattle.rap_c.proofs.Rows.{put_on, put_done}
use Rattle.rap_c.proofs.record.put_records.Goals as goal

pub rows-preserved : goal.rows-preserved
rows-preserved c = put_on c.rows.rows c.rows.i c.row_at.result c.args.input.now _ c.row_at.ensures c.rows.invariant

pub returns : goal.returns
returns c = put_done c.rows.rows c.rows.i c.args.input.now _ (search rules) c.rows.invariant
