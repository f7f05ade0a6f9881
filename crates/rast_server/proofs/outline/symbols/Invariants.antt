use Rattle.std.proofs.Common.{◌≡◌, ◌+◌, ◌*◌, ◌≤◌, length, string_bytes, take, vec_len}
use Rattle.std.specs.List.{sum_by}
use Rattle.rast_server.specs.SymbolLengths.{symbol_len}
use Rattle.rast_server.specs.declared.limit.TheConstants.{LIMIT}
use Rattle.rast_server.proofs.outline.symbols.Given as goal

abbrev pub invariant-loop-symbol : goal.invariant-loop-symbol
invariant-loop-symbol l =
    (length (string_bytes l.json) + 2 * vec_len l.ends + l.left + 1 ≡ LIMIT)
    × (LIMIT ≤ l.left + sum_by (symbol_len l.listing.document.now) (take l.symbol-index l.symbol-items) + 2)
