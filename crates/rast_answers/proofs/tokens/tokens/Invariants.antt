use Rattle.std.proofs.Common.{◌≡◌, string_bytes}
use Rattle.std.specs.List.{flat_map}
use Rattle.rast_answers.specs.Rows.{indices_to}
use Rattle.rast_answers.specs.Tokens.{tokens_at}
use Rattle.rast_answers.proofs.tokens.tokens.Given as goal

abbrev pub invariant-loop-index : goal.invariant-loop-index
invariant-loop-index l =
    l.list.items ≡ flat_map (tokens_at l.document.encoding (string_bytes l.document.text) l.from l.to l.elements) (indices_to l.index)
