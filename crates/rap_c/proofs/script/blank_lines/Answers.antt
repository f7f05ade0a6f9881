use Rattle.rap_c.proofs.script.blank_lines.Goals as goal

pub returns-clause-given : goal.returns-clause-given
returns-clause-given c = record {
  utf8 = c.in_ok-text.ensures.1;
  end = c.strip_ws_lines.result;
  ends = rw c.in_ok-text.ensures.0 at c.strip_ws_lines.ensures;
  answer_is = c.end_given.ensures;
}
