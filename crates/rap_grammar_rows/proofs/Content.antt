-- The numbers mean the rows of the table.
use Rattle.std.proofs.Common.{◌≡◌, refl, map}
use Rattle.rap_grammar_rows.specs.Code.{forms, firsts, seconds, nexts, row_places, sets, turns}
use Rattle.rap_grammar_rows.specs.Decode.{item_at, parts_of}
use Rattle.rap_grammar_rows.specs.Rows.{all_parts, rows_in}
use Rattle.rap_grammar_table.specs.Numbers.{categories}
use Rattle.rap_grammar_table.specs.Rows.{grammar}
use Rattle.rap_grammar_table.specs.Tops.{file_row}

pub content : rows_in all_parts row_places ≡ map grammar categories
unfolding all_parts parts_of forms firsts seconds nexts row_places sets turns
content = refl

pub file_content : item_at 0 all_parts ≡ file_row
unfolding all_parts parts_of forms firsts seconds nexts sets turns
file_content = refl
