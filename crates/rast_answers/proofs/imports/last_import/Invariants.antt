use Rattle.std.proofs.Common.{◌≡◌, ◌-◌, length, string_bytes}
use Rattle.rast_answers.specs.Imports.{next_import}
use Rattle.rast_answers.specs.Rows.{last_in_row}
use Rattle.rast_answers.proofs.imports.last_import.Given as goal

abbrev pub invariant-row : goal.invariant-row
invariant-row l =
    last_in_row (next_import (string_bytes l.document.text) l.elements) (length l.elements - l._step) l.last
    ≡ last_in_row (next_import (string_bytes l.document.text) l.elements) (length l.elements) l.index
