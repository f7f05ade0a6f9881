use Rattle.std.proofs.Common.{◌≡◌, ◌-◌, ◌<◌, length, string_bytes}
use Rattle.rast_answers.specs.Comments.{next_comment}
use Rattle.rast_answers.specs.Rows.{last_in_row}
use Rattle.rast_answers.proofs.comments.last_comment.Given as goal

abbrev pub invariant-row : goal.invariant-row
invariant-row l = record {
  within : l.last < length l.elements;
  row : last_in_row (next_comment (string_bytes l.document.text) l.elements) (length l.elements - l._step) l.last
      ≡ last_in_row (next_comment (string_bytes l.document.text) l.elements) (length l.elements) l.index;
}
