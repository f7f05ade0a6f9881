use Rattle.std.proofs.Common.{◌≡◌, ◌++◌, ◌-◌, string_bytes}
use Rattle.rast_answers.specs.Tokens.{pieces, tokens_of_leaf}
use Rattle.rast_answers.proofs.tokens.push_pieces.Given as goal

abbrev pub invariant-lines : goal.invariant-lines
invariant-lines l =
    l.tokens.items ++ pieces l.document.encoding (string_bytes l.document.text) l.leaf.class (l.end - l._step) l.at l.end
    ≡ l.initial.tokens.items ++ tokens_of_leaf l.document.encoding (string_bytes l.document.text) l.leaf
