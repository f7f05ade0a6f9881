use Rattle.std.proofs.Common.{◌≡◌, ◌+◌, ◌*◌, length, string_bytes, vec_len}
use Rattle.rast_server.proofs.outline.close_symbols.Given as goal

abbrev pub invariant-open : goal.invariant-open
invariant-open l = length (string_bytes l.json) + 2 * vec_len l.ends ≡ length (string_bytes l.fn.json) + 2 * vec_len l.fn.ends
