use Rattle.std.proofs.Common.{rules}
use Rattle.rap_c.proofs.Room.{raw_room}
use Rattle.rap_c.proofs.parse.fill_parse.Goals as goal

pub returns-in-Ok-clause-filled : goal.returns-in-Ok-clause-filled
returns-in-Ok-clause-filled c = record {
  records = c.in_ok-input.input;
  output = c.in-Ok.output;
  input = c.in_ok-input.ensures.input;
  few = search rules;
  made = record { made = c.in-Ok.ensures.script; tree = c.in-Ok.ensures.tree };
  is = c.fill_raw.ensures;
  few_steps = raw_room c.args.rows.now c.in_ok-input.input c.in-Ok.output _ _ _ _ _ c.in_ok-input.ensures.input c.in-Ok.ensures.tree.forest.few c.fill_raw.ensures;
}
